-- A call on the upload of a number, and the map that it leaves.
use Rattle.std.proofs.Common.{◌≡◌, ℕ, Some, ap, refl, ◌∙◌}
use Rattle.std.proofs.lemmas.Map.Steps.{set_value_same}
use Rattle.gcs_meaning.specs.declared.uploading.Upload.{Upload}
use Rattle.gcs_meaning.specs.declared.uploading.Progress.{Progress}
use Rattle.gcs_meaning.specs.Uploads.{UploadMap, Outcome, answers, called_at, is_number, upload_of, with_upload}
use Rattle.gcs_uploads.specs.declared.fault.UploadFault.{UploadFault}
use Rattle.gcs_uploads.specs.Calls.{IsRefusedBy}

pub called_done : (call : Upload → Outcome × Upload) (number : ℕ) (uploads left : UploadMap) (before after : Upload) → upload_of number uploads ≡ Some before
    → left ≡ with_upload number after uploads
    → (progress : Progress) → call before ≡ (answers progress, after)
    → called_at (upload_of number uploads) call number uploads ≡ (answers progress, left)
called_done call number uploads left before after at is progress did =
    ap (λ found. called_at found call number uploads) at ∙ rw (did, is) refl

pub called_refused : (call : Upload → Outcome × Upload) (number : ℕ) (uploads : UploadMap) (before : Upload) → upload_of number uploads ≡ Some before
    → (fault : UploadFault) → IsRefusedBy fault (call before).0
    → IsRefusedBy fault (called_at (upload_of number uploads) call number uploads).0
called_refused call number uploads before at fault refused = rw at refused

pub called_same : (number : ℕ) (uploads left : UploadMap) (before after : Upload) → upload_of number uploads ≡ Some before
    → left ≡ with_upload number after uploads → after ≡ before → left ≡ uploads
called_same number uploads left before after at is same =
    is ∙ ap (λ upload. with_upload number upload uploads) same ∙ set_value_same (is_number number) uploads before at
