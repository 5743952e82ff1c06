-- The earliest start of the uploads that run, after each call; and that none expires until a week after it.
use Rattle.std.proofs.Common.{◌≡◌, ◌≤◌, ℕ, ◌+◌, Bool, true, false, [], ◌∷◌, Option, Some, None, ap, ap₂, refl, subst, sym, ◌∙◌, arith}
use Rattle.std.specs.Prelude.{nat_le, ◌&&◌, cond, if◌then◌else◌, Result, Ok, Err, IfOk, OnErr}
use Rattle.std.specs.Ordering.{nat_cmp, match_ordering}
use Rattle.std.specs.declared.cmp.Ordering.{Ordering}
use Rattle.std.specs.declared.cmp.Ordering.TheVariants.{Less, Equal, Greater}
use Rattle.std.specs.BTreeMap.{insert_entry}
use Rattle.std.proofs.lemmas.Bool.Decides.{nat_tests}
use Rattle.gcs_chunks.specs.Content.{Whole}
use Rattle.gcs_meaning.specs.declared.reason.Reason.{Reason}
use Rattle.gcs_meaning.specs.declared.uploading.Progress.{Progress}
use Rattle.gcs_meaning.specs.declared.uploading.Upload.{Upload}
use Rattle.gcs_meaning.specs.declared.uploading.UploadState.{UploadState}
use Rattle.gcs_meaning.specs.declared.uploading.UploadState.TheVariants.{Running, Done, Cancelled, Expired}
use Rattle.gcs_meaning.specs.Uploads.{UploadMap, answers, aged_uploads, is_number, is_running, upload_of, upload_time, with_upload}
use Rattle.gcs_meaning.specs.Append.{appended, appended_if, appended_in, grown_upload, piece_refusal}
use Rattle.gcs_meaning.specs.Cancel.{cancelled, cancelled_in}
use Rattle.gcs_uploads.specs.declared.fault.UploadFault.{UploadFault}
use Rattle.gcs_uploads.specs.Calls.{late}
use Rattle.gcs_uploads.specs.Earliest.{begun, earliest_start, last_moment}
use Rattle.gcs_uploads.proofs.Ages.{aged_same}

-- the earliest start is a moment
pub earliest_last : (uploads : UploadMap) → earliest_start uploads ≤ last_moment
earliest_last [] = omega arith
earliest_last (e ∷ uploads) = omega (arith, earliest_last uploads)

-- one upload more
pub earliest_more : (number first : ℕ) (upload : Upload) (uploads : UploadMap) → first ≤ begun upload → first ≤ earliest_start uploads
    → first ≤ earliest_start (insert_entry nat_cmp uploads number upload)
earliest_more number first upload [] new within = omega arith
earliest_more number first upload (e ∷ uploads) new within = by (nat_cmp number e.0) (earliest_more number first upload uploads new (omega arith))
  where
    by : (o : Ordering) → first ≤ earliest_start (insert_entry nat_cmp uploads number upload)
        → first ≤ earliest_start (match_ordering o ((number, upload) ∷ e ∷ uploads) ((e.0, upload) ∷ uploads) (e ∷ insert_entry nat_cmp uploads number upload))
    by Less rest = omega arith
    by Equal rest = omega arith
    by Greater rest = omega arith

-- the upload of a number becomes another one
earliest_with : (number first : ℕ) (upload : Upload) (uploads : UploadMap) → first ≤ begun upload → first ≤ earliest_start uploads → first ≤ earliest_start (with_upload number upload uploads)
earliest_with number first upload [] new within = within
earliest_with number first upload (e ∷ uploads) new within = by (is_number number e.0) (earliest_with number first upload uploads new (omega arith))
  where
    by : (b : Bool) → first ≤ earliest_start (with_upload number upload uploads) → first ≤ earliest_start (cond b ((e.0, upload) ∷ uploads) (e ∷ with_upload number upload uploads))
    by true rest = omega arith
    by false rest = omega arith

begun_found : (number first : ℕ) (upload : Upload) (uploads : UploadMap) → upload_of number uploads ≡ Some upload → first ≤ earliest_start uploads → first ≤ begun upload
begun_found number first upload [] is within = cc
begun_found number first upload (e ∷ uploads) is within = by (is_number number e.0) is (λ later. begun_found number first upload uploads later (omega arith))
  where
    here : e.1 ≡ upload → first ≤ begun upload
    here same = subst (λ u. first ≤ begun u) same (omega arith)

    by : (b : Bool) → cond b (Some e.1) (upload_of number uploads) ≡ Some upload → (upload_of number uploads ≡ Some upload → first ≤ begun upload) → first ≤ begun upload
    by true is rest = here (cc)
    by false is rest = rest is

-- a call on it that leaves it running from the same moment, or ended
pub earliest_called : (number first : ℕ) (before after : Upload) (uploads left : UploadMap) → upload_of number uploads ≡ Some before → left ≡ with_upload number after uploads
    → (first ≤ begun before → first ≤ last_moment → first ≤ begun after) → first ≤ earliest_start uploads → first ≤ earliest_start left
earliest_called number first before after uploads left found is call within =
    subst (λ l. first ≤ earliest_start l) (sym is)
    (earliest_with number first after uploads (call (begun_found number first before uploads found within) (omega (arith, earliest_last uploads))) within)

begun_appended : (upload : Upload) (offset given : Option ℕ) (piece : Whole) → begun (appended upload offset given piece).1 ≡ begun upload
unfolding appended grown_upload
begun_appended upload offset given piece = by upload.state
  where
    tested : (refusal : Option Reason) → begun (appended_if refusal upload (grown_upload upload offset given piece)).1 ≡ begun upload
    tested None = refl
    tested (Some reason) = refl

    by : (state : UploadState) → begun (appended_in state upload offset given piece).1 ≡ begun upload
    by Running = tested (piece_refusal upload offset given piece)
    by (Done row) = refl
    by Cancelled = refl
    by Expired = refl

pub begun_after_append : (first : ℕ) (result : Result Progress UploadFault) (before after : Upload) (offset given : Option ℕ) (piece : Whole)
    → IfOk result (λ progress. appended before offset given piece ≡ (answers progress, after)) → OnErr result (after ≡ before)
    → first ≤ begun before → first ≤ begun after
begun_after_append first (Ok progress) before after offset given piece done same within =
    let is : begun after ≡ begun before = sym (ap (λ left. begun left.1) done) ∙ begun_appended before offset given piece in
    omega arith
begun_after_append first (Err fault) before after offset given piece done same within = subst (λ u. first ≤ begun u) (sym same) within

begun_cancelled : (first : ℕ) (upload : Upload) → first ≤ begun upload → first ≤ last_moment → first ≤ begun (cancelled upload).1
unfolding cancelled
begun_cancelled first upload within last = by upload.state
  where
    by : (state : UploadState) → first ≤ begun (cancelled_in state upload).1
    by Running = last
    by (Done row) = within
    by Cancelled = within
    by Expired = within

pub begun_after_cancel : (first : ℕ) (result : Result Progress UploadFault) (before after : Upload)
    → IfOk result (λ progress. cancelled before ≡ (answers progress, after)) → OnErr result (after ≡ before)
    → first ≤ begun before → first ≤ last_moment → first ≤ begun after
begun_after_cancel first (Ok progress) before after done same within last = subst (λ left. first ≤ begun left.1) done (begun_cancelled first before within last)
begun_after_cancel first (Err fault) before after done same within last = subst (λ u. first ≤ begun u) (sym same) within

-- until a week after a moment before which none began, none is to expire
not_late : (first t : ℕ) (upload : Upload) → nat_le (first + upload_time) t ≡ false → first ≤ begun upload → late t upload ≡ false
not_late first t upload early within = by (is_running upload.state) within
  where
    by : (runs : Bool) → first ≤ (if runs then upload.start else last_moment) → (runs && nat_le (upload.start + upload_time) t) ≡ false
    by true later = grind (arith, nat_tests)
    by false later = refl

pub aged_none : (first t : ℕ) (uploads : UploadMap) → nat_le (first + upload_time) t ≡ false → first ≤ earliest_start uploads → aged_uploads t uploads ≡ uploads
unfolding aged_uploads
aged_none first t [] early within = refl
aged_none first t (e ∷ uploads) early within =
    ap₂ (λ upload rest. (e.0, upload) ∷ rest) (aged_same t e.1 (not_late first t e.1 early (omega arith))) (aged_none first t uploads early (omega arith))
