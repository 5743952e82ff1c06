-- Resumable uploads, by their numbers: what time does to them, and what a call on one of them is (Cloud Storage, "Resumable uploads").
use Rattle.std.specs.Prelude.{◌≡◌, ℕ, ◌+◌, nat_le, Bool, true, false, List, length, map, Option, Some, None, if◌then◌else◌}
use Rattle.std.specs.Ordering.{nat_cmp, is_eq}
use Rattle.std.specs.Map.{lookup, set_value}
use Rattle.gcs_chunks.specs.Content.{bytes_of}
use Rattle.gcs_meaning.specs.declared.version.Row.{Row}
use Rattle.gcs_meaning.specs.declared.uploading.Upload.{Upload}
use Rattle.gcs_meaning.specs.declared.uploading.UploadState.{UploadState}
use Rattle.gcs_meaning.specs.declared.uploading.UploadState.TheVariants.{Running, Done, Cancelled, Expired}
use Rattle.gcs_meaning.specs.declared.uploading.Progress.{Progress}
use Rattle.gcs_meaning.specs.declared.reason.Reason.{Reason}
use Rattle.gcs_meaning.specs.declared.reason.Reason.TheVariants.{NoUpload}

-- the uploads of a bucket, rising by number
abbrev pub UploadMap : Type 0
UploadMap = List (ℕ × Upload)

-- the number is this one
abbrev pub is_number : ℕ → ℕ → Bool
is_number number other = is_eq (nat_cmp number other)

-- the upload of a number
abbrev pub upload_of : ℕ → UploadMap → Option Upload
upload_of number uploads = lookup (is_number number) uploads

-- the uploads with this one at a number that is there
abbrev pub with_upload : ℕ → Upload → UploadMap → UploadMap
with_upload number upload uploads = set_value (is_number number) uploads upload

-- how many bytes an upload keeps
abbrev pub kept_of : Upload → ℕ
kept_of upload = length (bytes_of upload.content)

-- the upload in another state
abbrev pub in_state : UploadState → Upload → Upload
in_state state upload = record upload { state = state }

-- an upload in this state runs
abbrev pub is_running : UploadState → Bool
is_running Running = true
is_running (Done row) = false
is_running Cancelled = false
is_running Expired = false

-- how long an upload runs before it expires, in microseconds: a week
abbrev pub upload_time : ℕ
upload_time = 604800000000

-- a running upload whose week has passed is expired
abbrev pub expired_if : Bool → UploadState → UploadState
expired_if late Running = if late then Expired else Running
expired_if late (Done row) = Done row
expired_if late Cancelled = Cancelled
expired_if late Expired = Expired

-- an upload at t
abbrev pub aged_upload : ℕ → Upload → Upload
aged_upload t upload = in_state (expired_if (nat_le (upload.start + upload_time) t) upload.state) upload

-- the uploads at t
unfoldable pub aged_uploads : ℕ → UploadMap → UploadMap
aged_uploads t uploads = map (λ numbered. (numbered.0, aged_upload t numbered.1)) uploads

-- what a call on an upload answers, or why it is refused
pub data Outcome : Type 0 where
  answers : Progress → Outcome
  refuses : Reason → Outcome

-- a call on the upload of a number: its outcome, and the uploads with what that upload becomes
abbrev pub called_at : Option Upload → (Upload → Outcome × Upload) → ℕ → UploadMap → Outcome × UploadMap
called_at None call number uploads = (refuses NoUpload, uploads)
called_at (Some upload) call number uploads = ((call upload).0, with_upload number (call upload).1 uploads)

-- a running upload that keeps as many bytes as its total says
pub record IsComplete (upload : Upload) : Type 0 where
  pub running : upload.state ≡ Running
  pub whole : upload.total ≡ Some (kept_of upload)

-- the upload is there, and complete
abbrev pub IsCompleteIf : Option Upload → Type 0
IsCompleteIf None = ⊥
IsCompleteIf (Some upload) = IsComplete upload

-- an upload that has made its version, where it is there
abbrev pub done_if : Option Upload → ℕ → Row → UploadMap → UploadMap
done_if None number row uploads = uploads
done_if (Some upload) number row uploads = with_upload number (in_state (Done row) upload) uploads

-- the uploads once that of a number has made its version
abbrev pub done_at : ℕ → Row → UploadMap → UploadMap
done_at number row uploads = done_if (upload_of number uploads) number row uploads
