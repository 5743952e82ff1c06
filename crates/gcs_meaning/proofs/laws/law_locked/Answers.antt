use Rattle.gcs_meaning.proofs.Locked.{locked_is_kept}
use Rattle.gcs_meaning.proofs.laws.law_locked.Goals as goal

pub returns : goal.returns
returns c = locked_is_kept
