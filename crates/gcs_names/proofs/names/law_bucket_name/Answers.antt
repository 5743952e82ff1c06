use Rattle.gcs_names.proofs.BucketNames.{is_bucket_name-iff}
use Rattle.gcs_names.proofs.names.law_bucket_name.Goals as goal

pub returns : goal.returns
returns c = is_bucket_name-iff
