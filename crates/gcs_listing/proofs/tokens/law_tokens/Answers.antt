use Rattle.gcs_listing.proofs.TokenLemmas.{tokens_are_exact}
use Rattle.gcs_listing.proofs.tokens.law_tokens.Goals as goal

pub returns : goal.returns
returns c = tokens_are_exact
