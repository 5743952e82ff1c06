use Rattle.gcs_meaning.proofs.Contents.{contents_stay}
use Rattle.gcs_meaning.proofs.laws.law_contents.Goals as goal

pub returns : goal.returns
returns c = contents_stay
