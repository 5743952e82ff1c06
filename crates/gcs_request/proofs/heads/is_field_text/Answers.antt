-- A text of a fitting length, whose bytes can be held.
use Rattle.std.proofs.Common.{◌≡◌, ◌≢◌, length, arith, sym, ap, ◌∙◌}
use Rattle.std.proofs.lemmas.Bool.{eqb-false}
use Rattle.gcs_request.proofs.Texts.{are_shown, is_field_text-by_bytes}
use Rattle.gcs_request.proofs.heads.is_field_text.Goals as goal

pub returns : goal.returns
returns c =
    let text = c.args.text.now in
    let bytes = c.as_bytes-bytes.result.now in
    let same : bytes ≡ text = c.as_bytes-bytes.ensures.value in
    let size : length bytes ≡ length text = ap length same in
    let some : length bytes ≢ 0 = eqb-false (length bytes) 0 (sym c.if-is_empty.ensures) in
    c.are_field_bytes.ensures ∙ ap are_shown same
    ∙ sym (is_field_text-by_bytes text (omega arith) (omega (arith, c.if-bytes-gt1024.false)) c.utf8.text)
