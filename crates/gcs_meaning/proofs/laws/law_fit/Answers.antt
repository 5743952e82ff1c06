use Rattle.gcs_meaning.proofs.Fitting.{fit_is_kept}
use Rattle.gcs_meaning.proofs.laws.law_fit.Goals as goal

pub returns : goal.returns
returns c = fit_is_kept
