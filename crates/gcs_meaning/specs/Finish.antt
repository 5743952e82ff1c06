-- The end of a resumable upload that is whole: it makes its version by the rule of every put (Cloud Storage, "Resumable uploads").
use Rattle.std.specs.Prelude.{ℕ, ◌==◌, Bool, true, false, Option, Some, None, if◌then◌else◌}
use Rattle.gcs_meaning.specs.declared.version.Row.{Row}
use Rattle.gcs_meaning.specs.declared.uploading.Upload.{Upload}
use Rattle.gcs_meaning.specs.declared.uploading.UploadState.{UploadState}
use Rattle.gcs_meaning.specs.declared.uploading.UploadState.TheVariants.{Running, Done, Cancelled, Expired}
use Rattle.gcs_meaning.specs.declared.reason.Reason.TheVariants.{Gone}
use Rattle.gcs_meaning.specs.declared.command.Answer.{Answer}
use Rattle.gcs_meaning.specs.declared.command.Answer.TheVariants.{Refused, Object, Kept}
use Rattle.gcs_meaning.specs.Content.{Digested}
use Rattle.gcs_meaning.specs.Choosing.{live_row}
use Rattle.gcs_meaning.specs.Moment.{next_generation}
use Rattle.gcs_meaning.specs.Uploads.{done_at, kept_of, upload_of}
use Rattle.gcs_meaning.specs.Slot.{State, Slot}
use Rattle.gcs_meaning.specs.Outcomes.{on_alive, unless}
use Rattle.gcs_meaning.specs.UploadCalls.{on_upload, with_uploads}
use Rattle.gcs_meaning.specs.Put.{new_row, put_refusal, with_version}

-- an upload's bytes with the digests that are theirs, whatever was handed in
abbrev pub digested_of : Upload → Digested
digested_of upload = record { content = upload.content; with_md5 = true }

-- the total is known, and so many bytes
abbrev pub is_total : Option ℕ → ℕ → Bool
is_total None kept = false
is_total (Some total) kept = total == kept

-- the version of an upload that is finished at t
abbrev pub finish_row : Slot → State → ℕ → Upload → Row
finish_row slot s t upload = new_row s.settings t (next_generation t slot.last_object) upload.name upload.meta (digested_of upload) None

-- the bucket whose upload of this number is done
abbrev pub done_state : State → ℕ → Row → State
done_state s number row = with_uploads (done_at number row s.uploads) s

-- the put of the version of an upload that is whole: where a test fails the upload runs on with its bytes
abbrev pub finish_whole : Slot → State → ℕ → ℕ → Upload → Answer × Slot
finish_whole slot s t number upload =
    let row = finish_row slot s t upload in
    unless (put_refusal s.settings t upload.pre upload.expect (digested_of upload) (live_row upload.name s.rows)) slot
    (with_version slot (done_state s number row) t row)

-- an upload in this state: one that is done answers its version, and one that isn't whole what it keeps
abbrev pub finish_in : UploadState → Slot → State → ℕ → ℕ → Upload → Answer × Slot
finish_in Running slot s t number upload =
    if is_total upload.total (kept_of upload) then finish_whole slot s t number upload else (Kept (kept_of upload), slot)
finish_in (Done row) slot s t number upload = (Object row s.settings, slot)
finish_in Cancelled slot s t number upload = (Refused (Gone false), slot)
finish_in Expired slot s t number upload = (Refused (Gone true), slot)

-- the finish of the upload of a number, on a slot that is aged to t
unfoldable pub finish_step : Slot → ℕ → ℕ → Answer × Slot
finish_step slot t number = on_alive slot.alive slot (λ s. on_upload (upload_of number s.uploads) slot (λ upload.
    finish_in upload.state slot s t number upload))
