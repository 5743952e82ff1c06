-- The end of a resumable upload that isn't wanted (Cloud Storage, "Resumable uploads").
use Rattle.std.specs.Prelude.{ℕ, true, false}
use Rattle.gcs_meaning.specs.declared.uploading.Upload.{Upload}
use Rattle.gcs_meaning.specs.declared.uploading.UploadState.{UploadState}
use Rattle.gcs_meaning.specs.declared.uploading.UploadState.TheVariants.{Running, Done as IsDone, Cancelled, Expired}
use Rattle.gcs_meaning.specs.declared.uploading.Progress.TheVariants.{Done, Stopped}
use Rattle.gcs_meaning.specs.declared.reason.Reason.TheVariants.{Gone}
use Rattle.gcs_meaning.specs.declared.command.Answer.{Answer}
use Rattle.gcs_meaning.specs.Uploads.{UploadMap, Outcome, answers, refuses, called_at, in_state, upload_of}
use Rattle.gcs_meaning.specs.Slot.{Slot}
use Rattle.gcs_meaning.specs.Outcomes.{on_alive}
use Rattle.gcs_meaning.specs.UploadCalls.{on_called}

-- the cancelling of an upload in this state: one that is done answers its version
abbrev pub cancelled_in : UploadState → Upload → Outcome × Upload
cancelled_in Running upload = (answers Stopped, in_state Cancelled upload)
cancelled_in (IsDone row) upload = (answers (Done row), upload)
cancelled_in Cancelled upload = (refuses (Gone false), upload)
cancelled_in Expired upload = (refuses (Gone true), upload)

-- the cancelling of an upload
unfoldable pub cancelled : Upload → Outcome × Upload
cancelled upload = cancelled_in upload.state upload

-- the cancelling of the upload of a number
unfoldable pub cancel_at : ℕ → UploadMap → Outcome × UploadMap
cancel_at number uploads = called_at (upload_of number uploads) cancelled number uploads

-- the cancelling of an upload, on an aged slot
unfoldable pub cancel_step : Slot → ℕ → Answer × Slot
cancel_step slot number = on_alive slot.alive slot (λ s. on_called (cancel_at number s.uploads) slot s)
