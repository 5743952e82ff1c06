-- A value that is no text is no host.
use Rattle.gcs_request.proofs.Texts.{absent_host}
use Rattle.gcs_request.proofs.heads.host_of_field.Goals as goal

pub returns-in_default-from_utf8 : goal.returns-in_default-from_utf8
returns-in_default-from_utf8 c = rw c.in-Some.is (absent_host c.in-Some.value.now c.in_default-from_utf8.ensures.cases.0)
