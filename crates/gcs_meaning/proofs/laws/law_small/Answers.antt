use Rattle.gcs_meaning.proofs.Bounded.{small_is_kept}
use Rattle.gcs_meaning.proofs.laws.law_small.Goals as goal

pub returns : goal.returns
returns c = small_is_kept
