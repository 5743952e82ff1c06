use Rattle.gcs_names.proofs.ObjectNames.{is_object_name-iff}
use Rattle.gcs_names.proofs.names.law_object_name.Goals as goal

pub returns : goal.returns
returns c = is_object_name-iff
