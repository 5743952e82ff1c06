-- A piece of a resumable upload: its tests in their order, what is kept then, and how far the upload is (Cloud Storage, "Resumable
-- uploads").
use Rattle.std.specs.Prelude.{ℕ, ◌+◌, ◌-◌, ◌%◌, ◌==◌, ◌&&◌, ◌||◌, nat_lt, nat_le, true, false, length, unwrap_or, Option, Some, None, if◌then◌else◌}
use Rattle.gcs_chunks.specs.Content.{Whole, bytes_of, joined, rest_of}
use Rattle.gcs_meaning.specs.declared.uploading.Upload.{Upload}
use Rattle.gcs_meaning.specs.declared.uploading.UploadState.{UploadState}
use Rattle.gcs_meaning.specs.declared.uploading.UploadState.TheVariants.{Running, Done as IsDone, Cancelled, Expired}
use Rattle.gcs_meaning.specs.declared.uploading.Progress.{Progress}
use Rattle.gcs_meaning.specs.declared.uploading.Progress.TheVariants.{Kept, Complete, Done}
use Rattle.gcs_meaning.specs.declared.reason.Reason.{Reason}
use Rattle.gcs_meaning.specs.declared.reason.Reason.TheVariants.{Gone, TotalDiffers, Beyond, BadStep}
use Rattle.gcs_meaning.specs.declared.command.Answer.{Answer}
use Rattle.gcs_meaning.specs.Tests.{or_else, size_refusal}
use Rattle.gcs_meaning.specs.Uploads.{UploadMap, Outcome, answers, refuses, called_at, kept_of, upload_of}
use Rattle.gcs_meaning.specs.Slot.{Slot}
use Rattle.gcs_meaning.specs.Outcomes.{on_alive}
use Rattle.gcs_meaning.specs.UploadCalls.{on_called}

-- the length that every piece but the last is a multiple of
abbrev pub piece_step : ℕ
piece_step = 262144

-- the total that is known once a call has given one
abbrev pub known_total : Option ℕ → Option ℕ → Option ℕ
known_total None given = given
known_total (Some known) given = Some known

-- a given total is the one that was given first, and at least what is kept
abbrev pub total_refusal : Option ℕ → Option ℕ → ℕ → Option Reason
total_refusal known None kept = None
total_refusal known (Some given) kept =
    if (given == unwrap_or known given) && nat_le kept given then None
    else Some (TotalDiffers given (unwrap_or known kept))

-- a given total is no larger than the largest object
abbrev pub given_refusal : Option ℕ → Option Reason
given_refusal None = None
given_refusal (Some given) = size_refusal given

-- a given offset is at most what is kept
abbrev pub offset_refusal : Option ℕ → ℕ → Option Reason
offset_refusal None kept = None
offset_refusal (Some offset) kept = if nat_le offset kept then None else Some (Beyond offset kept)

-- a piece ends at most at the total, where one is known
abbrev pub end_refusal : Option ℕ → ℕ → Option Reason
end_refusal None end = None
end_refusal (Some total) end = if nat_le end total then None else Some (TotalDiffers end total)

-- a piece that doesn't end at the total is whole steps long
abbrev pub step_refusal : Option ℕ → ℕ → ℕ → Option Reason
step_refusal None end size = if size % piece_step == 0 then None else Some (BadStep size)
step_refusal (Some total) end size = if (end == total) || (size % piece_step == 0) then None else Some (BadStep size)

-- how long a piece is: without an offset it has no bytes
abbrev pub size_of_piece : Option ℕ → Whole → ℕ
size_of_piece None piece = 0
size_of_piece (Some offset) piece = length (bytes_of piece)

-- where a piece ends: without an offset it begins at what is kept
abbrev pub end_of_piece : Option ℕ → Whole → ℕ → ℕ
end_of_piece offset piece kept = unwrap_or offset kept + size_of_piece offset piece

-- the tests of a piece's place, in their order
unfoldable pub place_refusal : Option ℕ → Option ℕ → Whole → ℕ → Option Reason
place_refusal total offset piece kept =
    or_else (offset_refusal offset kept)
    (or_else (size_refusal (end_of_piece offset piece kept))
    (or_else (end_refusal total (end_of_piece offset piece kept))
    (step_refusal total (end_of_piece offset piece kept) (size_of_piece offset piece))))

-- the tests of a piece on a running upload, in their order
unfoldable pub piece_refusal : Upload → Option ℕ → Option ℕ → Whole → Option Reason
piece_refusal upload offset given piece =
    or_else (total_refusal upload.total given (kept_of upload))
    (or_else (given_refusal given)
    (place_refusal (known_total upload.total given) offset piece (kept_of upload)))

-- the bytes of a piece that aren't kept yet come behind those that are
abbrev pub grown : Whole → ℕ → Option ℕ → Whole → Whole
grown content kept None piece = content
grown content kept (Some offset) piece =
    if nat_lt (kept - offset) (length (bytes_of piece)) then joined content (rest_of piece (kept - offset)) else content

-- a running upload after a piece that was accepted
unfoldable pub grown_upload : Upload → Option ℕ → Option ℕ → Whole → Upload
grown_upload upload offset given piece = record upload {
  total = known_total upload.total given;
  content = grown upload.content (kept_of upload) offset piece;
}

-- how far a running upload is
abbrev pub progress_of : Option ℕ → Whole → Progress
progress_of None content = Kept (length (bytes_of content))
progress_of (Some total) content =
    if length (bytes_of content) == total then Complete content else Kept (length (bytes_of content))

-- a running upload keeps a piece unless a test fails
abbrev pub appended_if : Option Reason → Upload → Upload → Outcome × Upload
appended_if (Some reason) upload after = (refuses reason, upload)
appended_if None upload after = (answers (progress_of after.total after.content), after)

-- a piece on an upload in this state: one that is done answers its version
abbrev pub appended_in : UploadState → Upload → Option ℕ → Option ℕ → Whole → Outcome × Upload
appended_in Running upload offset given piece =
    appended_if (piece_refusal upload offset given piece) upload (grown_upload upload offset given piece)
appended_in (IsDone row) upload offset given piece = (answers (Done row), upload)
appended_in Cancelled upload offset given piece = (refuses (Gone false), upload)
appended_in Expired upload offset given piece = (refuses (Gone true), upload)

-- a piece with its offset and the total that was given, on an upload
unfoldable pub appended : Upload → Option ℕ → Option ℕ → Whole → Outcome × Upload
appended upload offset given piece = appended_in upload.state upload offset given piece

-- a piece on the upload of a number
unfoldable pub append_at : ℕ → Option ℕ → Option ℕ → Whole → UploadMap → Outcome × UploadMap
append_at number offset given piece uploads =
    called_at (upload_of number uploads) (λ upload. appended upload offset given piece) number uploads

-- a piece of an upload, on an aged slot
unfoldable pub append_step : Slot → ℕ → Option ℕ → Option ℕ → Whole → Answer × Slot
append_step slot number offset given piece =
    on_alive slot.alive slot (λ s. on_called (append_at number offset given piece s.uploads) slot s)
