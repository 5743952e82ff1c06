use Rattle.gcs_meaning.proofs.Answering.{answers_fit}
use Rattle.gcs_meaning.proofs.laws.law_answers.Goals as goal

pub returns : goal.returns
returns c = answers_fit
