-- A value that is no text is none that can be held.
use Rattle.gcs_request.proofs.Texts.{absent_text, is_field_text-by_utf8}
use Rattle.gcs_request.proofs.heads.text_of_field.Goals as goal

pub returns-in_default-from_utf8 : goal.returns-in_default-from_utf8
returns-in_default-from_utf8 c =
    let value = c.in-Some.value.now in
    rw c.in-Some.is (absent_text value (is_field_text-by_utf8 value c.in_default-from_utf8.ensures.cases.0))
