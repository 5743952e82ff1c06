use Rattle.gcs_time.proofs.Named.{time_of-iff}
use Rattle.gcs_time.proofs.laws.law_time_of.Goals as goal

pub returns : goal.returns
returns c = time_of-iff
