-- What holds of an upload over every list of calls: the statements of the laws.
use Rattle.std.specs.Prelude.{◌≡◌, ℕ, List, [], ◌∷◌, ◌++◌, drop, Option, Some}
use Rattle.gcs_chunks.specs.Content.{Whole, bytes_of}
use Rattle.gcs_meaning.specs.declared.version.Row.{Row}
use Rattle.gcs_meaning.specs.declared.uploading.Upload.{Upload}
use Rattle.gcs_meaning.specs.declared.uploading.UploadState.TheVariants.{Done}
use Rattle.gcs_meaning.specs.Uploads.{aged_upload, in_state}
use Rattle.gcs_meaning.specs.Append.{appended}
use Rattle.gcs_meaning.specs.Cancel.{cancelled}

-- what can happen to an upload
pub data Call : Type 0 where
  append : Option ℕ → Option ℕ → Whole → Call
  cancel : Call
  age : ℕ → Call
  finish : Row → Call

-- the upload after a call
abbrev pub after_call : Upload → Call → Upload
after_call upload (append offset given piece) = (appended upload offset given piece).1
after_call upload cancel = (cancelled upload).1
after_call upload (age t) = aged_upload t upload
after_call upload (finish row) = in_state (Done row) upload

-- the upload after these calls
abbrev pub after_calls : Upload → List Call → Upload
after_calls upload [] = upload
after_calls upload (call ∷ calls) = after_calls (after_call upload call) calls

-- the first list stands at the front of the second
abbrev pub Begins : List ℕ → List ℕ → Type 0
Begins front whole = (rest : List ℕ) × (whole ≡ front ++ rest)

-- a call sends bytes of `whole` at their place, or none
abbrev pub Sends : List ℕ → Call → Type 0
Sends whole (append (Some offset) given piece) = Begins (bytes_of piece) (drop offset whole)
Sends whole _ = Unit {0}

-- and so does each call of the list
abbrev pub AllSend : List ℕ → List Call → Type 0
AllSend whole [] = Unit {0}
AllSend whole (call ∷ calls) = Sends whole call × AllSend whole calls

-- no byte that was kept is lost or changed, whatever is called
abbrev pub KeptStays : Type 0
KeptStays = (upload : Upload) (calls : List Call) → Begins (bytes_of upload.content) (bytes_of (after_calls upload calls).content)

-- where the pieces of an object are sent at their places, again and overlapping as they may be, and however the
-- calls are refused, what is kept is the object's beginning
abbrev pub KeptIsSent : Type 0
KeptIsSent = (whole : List ℕ) (upload : Upload) (calls : List Call) → Begins (bytes_of upload.content) whole → AllSend whole calls
    → Begins (bytes_of (after_calls upload calls).content) whole
