-- How a call's result tells an outcome, and which uploads are to expire.
use Rattle.std.specs.Prelude.{◌≡◌, ℕ, ◌+◌, nat_le, ◌&&◌, Bool, true, false, Option, Some, None, Result, Ok, Err}
use Rattle.gcs_meaning.specs.declared.reason.Reason.{Reason}
use Rattle.gcs_meaning.specs.declared.reason.Reason.TheVariants.{Gone}
use Rattle.gcs_meaning.specs.declared.version.Row.{Row}
use Rattle.gcs_meaning.specs.declared.uploading.Upload.{Upload}
use Rattle.gcs_meaning.specs.declared.uploading.UploadState.{UploadState}
use Rattle.gcs_meaning.specs.declared.uploading.UploadState.TheVariants.{Running, Done, Cancelled, Expired}
use Rattle.gcs_meaning.specs.Uploads.{upload_time, is_running, Outcome, refuses}
use Rattle.gcs_uploads.specs.declared.fault.UploadFault.{UploadFault}
use Rattle.gcs_uploads.specs.declared.fault.UploadFault.TheVariants.{Refused, NoMemory}

-- a fault is want of memory, or tells why this outcome refuses
abbrev pub IsRefusedBy : UploadFault → Outcome → Type 0
IsRefusedBy (Refused reason) outcome = outcome ≡ refuses reason
IsRefusedBy NoMemory outcome = Unit {0}

-- a fault is want of memory, or the refusal of a piece
abbrev pub IsPieceRefusedBy : UploadFault → Option Reason → Type 0
IsPieceRefusedBy (Refused reason) refusal = refusal ≡ Some reason
IsPieceRefusedBy NoMemory refusal = Unit {0}

-- what a call finds in this state: it runs, it is done with a version, or it is gone
abbrev pub IsEndOf : UploadState → Result (Option Row) UploadFault → Type 0
IsEndOf Running (Ok None) = Unit {0}
IsEndOf (Done row) (Ok (Some shown)) = shown ≡ row
IsEndOf (Done row) (Err NoMemory) = Unit {0}
IsEndOf Cancelled (Err (Refused reason)) = reason ≡ Gone false
IsEndOf Expired (Err (Refused reason)) = reason ≡ Gone true
IsEndOf _ _ = ⊥

-- the upload runs at t though its week has passed
abbrev pub late : ℕ → Upload → Bool
late t upload = is_running upload.state && nat_le (upload.start + upload_time) t

-- there is an upload, and it is such a one
abbrev pub late_if : ℕ → Option Upload → Bool
late_if t None = false
late_if t (Some upload) = late t upload
