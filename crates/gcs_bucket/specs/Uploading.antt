-- Calls on the uploads of a bucket: what each of them finds, and what is decided before ageing.
use Rattle.std.specs.Prelude.{◌≡◌, ◌<◌, ℕ, true, false, Option, Some, None, Result, Ok, Err}
use Rattle.std.specs.List.{AllByRecursion}
use Rattle.gcs_meaning.specs.declared.settings.Settings.{Settings}
use Rattle.gcs_meaning.specs.declared.uploading.Upload.{Upload}
use Rattle.gcs_meaning.specs.declared.uploading.UploadState.{UploadState}
use Rattle.gcs_meaning.specs.declared.uploading.UploadState.TheVariants.{Running, Done, Cancelled, Expired}
use Rattle.gcs_meaning.specs.declared.uploading.Progress.{Progress}
use Rattle.gcs_meaning.specs.declared.uploading.Progress.TheVariants as progress
use Rattle.gcs_meaning.specs.declared.reason.Reason.TheVariants.{NoBucket, NoUpload, Gone}
use Rattle.gcs_meaning.specs.declared.command.Answer.{Answer}
use Rattle.gcs_meaning.specs.declared.command.Answer.TheVariants.{Object, Refused}
use Rattle.gcs_meaning.specs.Slot.{State}
use Rattle.gcs_meaning.specs.Uploads.{UploadMap, upload_of}
use Rattle.gcs_meaning.specs.UploadCalls.{answer_by}
use Rattle.gcs_uploads.specs.declared.fault.UploadFault.{UploadFault}
use Rattle.gcs_uploads.specs.declared.fault.UploadFault.TheVariants as fault

-- what every call on an upload answers once it ended: none while it runs
abbrev pub end_answer : UploadState → Settings → Option Answer
end_answer Running settings = None
end_answer (Done row) settings = Some (Object row settings)
end_answer Cancelled settings = Some (Refused (Gone false))
end_answer Expired settings = Some (Refused (Gone true))

-- and where there is no upload
abbrev pub found_end : Option Upload → Settings → Option Answer
found_end None settings = Some (Refused NoUpload)
found_end (Some upload) settings = end_answer upload.state settings

-- what every call on the upload of this number answers, unless it runs in the bucket that is alive
abbrev pub end_at : ℕ → Option State → Option Answer
end_at number None = Some (Refused NoBucket)
end_at number (Some s) = found_end (upload_of number s.uploads) s.settings

-- the upload isn't done yet
abbrev pub IsUnderWay : Progress → Type 0
IsUnderWay (progress.Kept n) = Unit {0}
IsUnderWay (progress.Complete content) = Unit {0}
IsUnderWay (progress.Done row) = ⊥
IsUnderWay progress.Stopped = Unit {0}

-- the answer tells what a call came to, in a bucket with these settings
abbrev pub IsTold : Result Progress UploadFault → Settings → Answer → Type 0
IsTold (Ok told) settings answer = answer ≡ answer_by told settings
IsTold (Err (fault.Refused reason)) settings answer = answer ≡ Refused reason
IsTold (Err fault.NoMemory) settings answer = ⊥

-- the numbers of the uploads are below the next one
abbrev pub AreBelow : ℕ → UploadMap → Type 0
AreBelow next uploads = AllByRecursion (λ numbered. numbered.0 < next) uploads
