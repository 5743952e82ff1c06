-- What a call on an upload answers in its bucket, and what it leaves.
use Rattle.std.specs.Prelude.{Option, Some, None}
use Rattle.gcs_meaning.specs.declared.settings.Settings.{Settings}
use Rattle.gcs_meaning.specs.declared.uploading.Upload.{Upload}
use Rattle.gcs_meaning.specs.declared.uploading.Progress.{Progress}
use Rattle.gcs_meaning.specs.declared.uploading.Progress.TheVariants as progress
use Rattle.gcs_meaning.specs.declared.reason.Reason.TheVariants.{NoUpload}
use Rattle.gcs_meaning.specs.declared.command.Answer.{Answer}
use Rattle.gcs_meaning.specs.declared.command.Answer.TheVariants.{Refused, Object, Kept, Complete, Cancelled}
use Rattle.gcs_meaning.specs.Uploads.{UploadMap, Outcome, answers, refuses}
use Rattle.gcs_meaning.specs.Slot.{State, Slot, with_alive}

-- on the upload, where one was found
abbrev pub on_upload : Option Upload → Slot → (Upload → Answer × Slot) → Answer × Slot
on_upload None slot does = (Refused NoUpload, slot)
on_upload (Some upload) slot does = does upload

-- what is answered for the progress of an upload, in a bucket with these settings
abbrev pub answer_by : Progress → Settings → Answer
answer_by (progress.Kept n) settings = Kept n
answer_by (progress.Complete content) settings = Complete content
answer_by (progress.Done row) settings = Object row settings
answer_by progress.Stopped settings = Cancelled

-- a bucket with these uploads
abbrev pub with_uploads : UploadMap → State → State
with_uploads uploads s = record s { uploads = uploads }

-- an outcome, and what it leaves of the bucket
abbrev pub by_outcome : Outcome → UploadMap → Slot → State → Answer × Slot
by_outcome (refuses reason) uploads slot s = (Refused reason, slot)
by_outcome (answers progress) uploads slot s = (answer_by progress s.settings, with_alive (with_uploads uploads s) slot)

-- a call on one of the bucket's uploads
abbrev pub on_called : Outcome × UploadMap → Slot → State → Answer × Slot
on_called called slot s = by_outcome called.0 called.1 slot s
