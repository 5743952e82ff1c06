-- What lies in the chunks of a slot.
use Rattle.std.proofs.Common.{◌≡◌, ℕ, Some, subst}
use Rattle.std.specs.Option.{IfSome}
use Rattle.gcs_chunks.specs.Content.{ChunksValue, ContentLiesIn}
use Rattle.gcs_meaning.specs.declared.uploading.Upload.{Upload}
use Rattle.gcs_meaning.specs.Contents.{SlotLiesIn, StateLiesIn}
use Rattle.gcs_meaning.specs.Slot.{Slot, State}
use Rattle.gcs_meaning.specs.Uploads.{upload_of}
use Rattle.gcs_meaning.proofs.UploadsLie.{upload_lies}

-- the bytes that an upload of a slot keeps
pub kept_lies : (chunks : ChunksValue) (slot : Slot) (s : State) (number : ℕ) (upload : Upload) → slot.alive ≡ Some s → upload_of number s.uploads ≡ Some upload → SlotLiesIn chunks slot
    → ContentLiesIn chunks upload.content
kept_lies chunks slot s number upload lives at h =
    let living : StateLiesIn chunks s = subst (λ alive. IfSome alive (StateLiesIn chunks)) lives h.alive in
    (upload_lies chunks number upload s.uploads at living.uploads).kept
