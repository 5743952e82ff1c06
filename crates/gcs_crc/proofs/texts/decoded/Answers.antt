use Rattle.std.proofs.Common.{rules, ◌≡◌, ◌∙◌, length}
use Rattle.gcs_crc.proofs.TextLemmas.{bytes_of_text-decoded, bytes_of_text-other, bytes_of_text-failed}
use Rattle.gcs_crc.proofs.texts.decoded.Goals as goal

pub returns-in-Ok-clause-found : goal.returns-in-Ok-clause-found
returns-in-Ok-clause-found c = bytes_of_text-decoded c.args.count c.args.text.now c.in-Ok.bytes.items c.in-Ok.ensures.ok (search rules) c.in-Ok.ensures.bytes

pub returns-in-Ok-2-clause-none : goal.returns-in-Ok-2-clause-none
returns-in-Ok-2-clause-none c = λ _. bytes_of_text-other c.args.count c.args.text.now c.in-Ok.bytes.items c.in-Ok.ensures.ok (λ same. let e : c.len.result ≡ length c.in-Ok.bytes.items = search rules in c.if-len-count.false (e ∙ same))

pub returns-in-Err-DecodeError-clause-none : goal.returns-in-Err-DecodeError-clause-none
returns-in-Err-DecodeError-clause-none c = λ _. bytes_of_text-failed c.args.count c.args.text.now c.in-Err-DecodeError.field-0-0 (rw (c.in-Err-DecodeError.is, c.in-Err-DecodeError.field-0-is) at c.decode.ensures.err)
