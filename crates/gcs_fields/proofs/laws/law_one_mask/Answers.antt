use Rattle.gcs_fields.proofs.OneMask.{one_mask}
use Rattle.gcs_fields.proofs.laws.law_one_mask.Goals as goal

pub returns : goal.returns
returns c = one_mask
