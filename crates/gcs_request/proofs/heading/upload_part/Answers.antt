-- Two parts are refused where an upload of them is, and an upload in pieces where the begin of one is.
use Rattle.std.proofs.Common.{◌≡◌, ◌∙◌, Option, Some, ap}
use Rattle.std.proofs.lemmas.Result.{IfErr-weaker}
use Rattle.gcs_http_in.specs.Head.{Head}
use Rattle.gcs_route.specs.declared.call.UploadKind.{UploadKind}
use Rattle.gcs_request.specs.Heading.{upload_part}
use Rattle.gcs_request.proofs.heading.upload_part.Goals as goal

-- what is given goes by the kind of the upload
given_by : (upload : Option UploadKind) (found kind : UploadKind) → upload ≡ Some found → found ≡ kind → (head : Head) → upload_part upload head ≡ upload_part (Some kind) head
given_by upload found kind some is head = ap (λ (u : Option UploadKind). upload_part u head) (some ∙ ap (λ (k : UploadKind). Some k) is)

pub returns-in-Some-Multipart-clause-refused : goal.returns-in-Some-Multipart-clause-refused
returns-in-Some-Multipart-clause-refused c =
    IfErr-weaker c.parts_part.result _ _
    (λ fault refused reason is head read.
    given_by _ _ _ c.in-Some-Multipart.is (rw c.in-Some-Multipart.is at c.in-Some-Multipart.field-0-is) head ∙ refused reason is head read)
    c.parts_part.ensures.refused

pub returns-in-Some-Resumable-clause-refused : goal.returns-in-Some-Resumable-clause-refused
returns-in-Some-Resumable-clause-refused c =
    IfErr-weaker c.begin_part.result _ _
    (λ fault refused reason is head read.
    given_by _ _ _ c.in-Some-Resumable.is (rw c.in-Some-Resumable.is at c.in-Some-Resumable.field-0-is) head ∙ refused reason is head read)
    c.begin_part.ensures.refused
