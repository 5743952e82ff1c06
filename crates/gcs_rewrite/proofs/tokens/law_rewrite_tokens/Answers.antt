use Rattle.gcs_rewrite.proofs.RewriteTokens.{tokens_are_exact}
use Rattle.gcs_rewrite.proofs.tokens.law_rewrite_tokens.Goals as goal

pub returns : goal.returns
returns c = tokens_are_exact
