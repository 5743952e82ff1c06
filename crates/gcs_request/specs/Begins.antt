-- The begin of a resumable upload: what its head gives, and its body, which is JSON (Cloud Storage, "Resumable uploads").
use Rattle.std.specs.Prelude.{◌≡◌, ◌⊎◌, ◌≤◌, ◌<◌, ℕ, nat_le, Bool, true, false, List, length, codes, Option, Some, None, Result, Ok, Err, if◌then◌else◌}
use Rattle.gcs_decimal.specs.Decimal.{decimal_of}
use Rattle.gcs_query.specs.Values.{greatest}
use Rattle.gcs_http_in.specs.Head.{Head}
use Rattle.gcs_meaning.specs.declared.reason.Key.TheVariants.{HeadContentEncoding, XUploadContentLength}
use Rattle.gcs_meaning.specs.declared.reason.Reason.{Reason}
use Rattle.gcs_meaning.specs.declared.reason.Reason.TheVariants.{Invalid, TooLong}
use Rattle.gcs_meaning.specs.Tests.{size_refusal}
use Rattle.gcs_json.specs.declared.object.ObjectBody.{ObjectBody}
use Rattle.gcs_route.specs.declared.call.Call.{Call}
use Rattle.gcs_request.specs.declared.heading.HeadPart.{HeadPart}
use Rattle.gcs_request.specs.declared.heading.HeadPart.TheVariants as part
use Rattle.gcs_request.specs.Heads.{field_of, host_in, is_encoded, text_of_field}
use Rattle.gcs_request.specs.UploadJson.{IsJsonFault, IsSaidOf}

-- the length of the whole content, unless no object may be so large
abbrev pub sized : ℕ → Option Reason → Result (Option ℕ) Reason
sized total None = Ok (Some total)
sized total (Some reason) = Err reason

-- the length that a text of 1 to 19 digits writes, which is at most the greatest number
abbrev pub total_by : Option ℕ → Result (Option ℕ) Reason
total_by None = Err (Invalid XUploadContentLength)
total_by (Some total) = if nat_le total greatest then sized total (size_refusal total) else Err (Invalid XUploadContentLength)

-- the length of the whole content that a field tells, or why it is refused: an empty value is no number
abbrev pub total_of_field : Option (List ℕ) → Result (Option ℕ) Reason
total_of_field None = Ok None
total_of_field (Some value) = total_by (decimal_of 19 value)

-- the length of the whole content that the head tells
abbrev pub total_in : Head → Result (Option ℕ) Reason
total_in head = total_of_field (field_of (codes "x-upload-content-length") head)

-- the content type that the head tells of the whole content
abbrev pub upload_type_of : Head → Option (List ℕ)
upload_type_of head = text_of_field (field_of (codes "x-upload-content-type") head)

-- what the head gives, with the length that it tells
abbrev pub begin_by : Head → Result (Option ℕ) Reason → Result HeadPart Reason
begin_by head (Ok total) = Ok (part.Begin (upload_type_of head) total (host_in head) (is_encoded head))
begin_by head (Err reason) = Err reason

-- what the head gives beside its call
abbrev pub begin_part : Head → Result HeadPart Reason
begin_part head = begin_by head (total_in head)

-- a body that isn't too long is refused: it is encoded, or what it says is refused
abbrev pub IsTextFault : Call → Bool → List ℕ → Reason → Type 0
IsTextFault call true body reason = reason ≡ Invalid HeadContentEncoding
IsTextFault call false body reason = IsJsonFault call body reason

-- the body is refused: for its length, else as above
abbrev pub IsBeginFault : ℕ → Call → Bool → List ℕ → Reason → Type 0
IsBeginFault most call encoded body reason =
    ((most < length body) × (reason ≡ TooLong))
    ⊎ ((length body ≤ most) × IsTextFault call encoded body reason)

-- the body says this of the object
abbrev pub IsBegun : ℕ → Call → Bool → List ℕ → ObjectBody → Type 0
IsBegun most call encoded body read = (length body ≤ most) × (encoded ≡ false) × IsSaidOf call body read
