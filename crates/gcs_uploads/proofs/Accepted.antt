-- What the tests of a piece say once they pass.
use Rattle.std.proofs.Common.{◌≡◌, ◌≤◌, ◌<◌, ◌^◌, ℕ, ◌+◌, Bool, true, false, length, Option, Some, None, ap, sym, subst, refl, ◌∙◌, arith}
use Rattle.std.specs.Prelude.{nat_le, if◌then◌else◌, Ok}
use Rattle.std.proofs.lemmas.Option.{none-some}
use Rattle.std.proofs.lemmas.Bool.{leb-true}
use Rattle.gcs_chunks.specs.Content.{Whole, bytes_of}
use Rattle.gcs_meaning.specs.declared.reason.Reason.{Reason}
use Rattle.gcs_meaning.specs.declared.version.Row.{Row}
use Rattle.gcs_meaning.specs.declared.uploading.Upload.{Upload}
use Rattle.gcs_meaning.specs.declared.uploading.UploadState.{UploadState}
use Rattle.gcs_meaning.specs.declared.uploading.UploadState.TheVariants.{Running, Done, Cancelled, Expired}
use Rattle.gcs_meaning.specs.Tests.{or_else, size_refusal, largest_object}
use Rattle.gcs_meaning.specs.Uploads.{kept_of}
use Rattle.gcs_meaning.specs.Append.{appended, appended_if, appended_in, grown_upload, known_total, given_refusal, offset_refusal, piece_refusal, place_refusal, total_refusal}
use Rattle.gcs_uploads.specs.declared.fault.UploadFault.{UploadFault}
use Rattle.gcs_uploads.specs.declared.fault.UploadFault.TheVariants.{Refused, NoMemory}
use Rattle.gcs_uploads.specs.Calls.{IsEndOf, IsPieceRefusedBy, IsRefusedBy}

first_none : (a b : Option Reason) → or_else a b ≡ None → a ≡ None
first_none None b e = refl
first_none (Some reason) b e = e

second_none : (a b : Option Reason) → or_else a b ≡ None → b ≡ None
second_none None b e = e
second_none (Some reason) b e = absurd (none-some _ (sym e))

passed : (b : Bool) (reason : Reason) → (if b then None else Some reason) ≡ None → b ≡ true
passed true reason e = refl
passed false reason e = absurd (none-some _ (sym e))

-- a piece that is placed begins in what is kept, and ends below the largest size
placed : (total : Option ℕ) (place : ℕ) (piece : Whole) (kept : ℕ) → place_refusal total (Some place) piece kept ≡ None
    → (place ≤ kept) × (place + length (bytes_of piece) < 2 ^ 63)
unfolding place_refusal
placed total place piece kept e =
    let begins : place ≤ kept = leb-true place kept (passed (nat_le place kept) _ (first_none (offset_refusal (Some place) kept) _ e)) in
    let rest = second_none (offset_refusal (Some place) kept) _ e in
    let ends : place + length (bytes_of piece) ≤ largest_object = leb-true (place + length (bytes_of piece)) largest_object (passed (nat_le (place + length (bytes_of piece)) largest_object) _ (first_none (size_refusal (place + length (bytes_of piece))) _ rest)) in
    (begins, omega (arith, ends))

-- a piece that is accepted begins in what is kept, and ends below the largest size
pub accepted_fits : (upload : Upload) (offset given : Option ℕ) (piece : Whole) → piece_refusal upload offset given piece ≡ None
    → (place : ℕ) → offset ≡ Some place → (place ≤ kept_of upload) × (place + length (bytes_of piece) < 2 ^ 63)
unfolding piece_refusal
accepted_fits upload offset given piece e place is =
    let later = second_none (given_refusal given) _ (second_none (total_refusal upload.total given (kept_of upload)) _ e) in
    placed (known_total upload.total given) place piece (kept_of upload) (sym (ap (λ o. place_refusal (known_total upload.total given) o piece (kept_of upload)) is) ∙ later)

-- an upload that shows no version runs
pub runs : (state : UploadState) (ended : Option Row) → IsEndOf state (Ok ended) → ended ≡ None → state ≡ Running
runs Running None is e = refl
runs Running (Some row) is e = absurd is
runs (Done shown) None is e = absurd is
runs (Done shown) (Some row) is e = absurd (none-some _ (sym e))
runs Cancelled ended is e = absurd is
runs Expired ended is e = absurd is

refused_if : (fault : UploadFault) (refusal : Option Reason) (upload after : Upload) → IsPieceRefusedBy fault refusal → IsRefusedBy fault (appended_if refusal upload after).0
refused_if (Refused reason) refusal upload after e = ap (λ r. (appended_if r upload after).0) e
refused_if NoMemory refusal upload after e = tt

-- the refusal of a piece is that of the call on a running upload
pub refused_running : (upload : Upload) (offset given : Option ℕ) (piece : Whole) → upload.state ≡ Running
    → (fault : UploadFault) → IsPieceRefusedBy fault (piece_refusal upload offset given piece) → IsRefusedBy fault (appended upload offset given piece).0
unfolding appended
refused_running upload offset given piece is fault refused =
    subst (λ state. IsRefusedBy fault (appended_in state upload offset given piece).0) (sym is)
    (refused_if fault (piece_refusal upload offset given piece) upload (grown_upload upload offset given piece) refused)
