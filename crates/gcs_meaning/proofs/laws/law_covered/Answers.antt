use Rattle.gcs_meaning.proofs.Covering.{covered_is_kept}
use Rattle.gcs_meaning.proofs.laws.law_covered.Goals as goal

pub returns : goal.returns
returns c = covered_is_kept
