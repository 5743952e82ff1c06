use Rattle.gcs_listing.proofs.TokenLemmas.{decoded_failed}
use Rattle.gcs_rewrite.proofs.tokens.decoded.Goals as goal

pub returns-in-Err-DecodeError-clause-none : goal.returns-in-Err-DecodeError-clause-none
returns-in-Err-DecodeError-clause-none c = λ _. decoded_failed c.args.text.now c.in-Err-DecodeError.field-0-0 (rw (c.in-Err-DecodeError.is, c.in-Err-DecodeError.field-0-is) at c.decode.ensures.err)
