-- A bucket that is fit stays fit where an upload is started, goes on, ends or makes its version.
use Rattle.std.proofs.Common.{◌≡◌, ◌≤◌, ℕ, Bool, true, false, [], ◌∷◌, Option, Some, None, length, refl, subst, arith}
use Rattle.std.specs.Prelude.{cond, nat_le, if◌then◌else◌}
use Rattle.std.specs.List.{AllByRecursion}
use Rattle.std.specs.Ordering.{nat_cmp, match_ordering}
use Rattle.std.specs.declared.cmp.Ordering.{Ordering}
use Rattle.std.specs.declared.cmp.Ordering.TheVariants.{Less, Equal, Greater}
use Rattle.std.specs.BTreeMap.{insert_entry}
use Rattle.std.proofs.lemmas.Bool.Decides.{nat_tests}
use Rattle.gcs_chunks.specs.Content.{Whole, bytes_of}
use Rattle.gcs_meaning.specs.declared.reason.Reason.{Reason}
use Rattle.gcs_meaning.specs.declared.reason.Reason.TheVariants.{Beyond}
use Rattle.gcs_meaning.specs.declared.uploading.Upload.{Upload}
use Rattle.gcs_meaning.specs.declared.uploading.UploadState.{UploadState}
use Rattle.gcs_meaning.specs.declared.uploading.UploadState.TheVariants.{Running, Done, Cancelled, Expired}
use Rattle.gcs_meaning.specs.declared.version.Row.{Row}
use Rattle.gcs_meaning.specs.Tests.{largest_object, size_refusal}
use Rattle.gcs_meaning.specs.Uploads.{UploadMap, Outcome, called_at, done_at, done_if, in_state, is_number, kept_of, upload_of, with_upload}
use Rattle.gcs_meaning.specs.Append.{appended_if, appended_in, appended, append_at, end_of_piece, given_refusal, grown, grown_upload, known_total, offset_refusal, piece_refusal, place_refusal, total_refusal}
use Rattle.gcs_meaning.specs.Cancel.{cancelled_in, cancelled, cancel_at}
use Rattle.gcs_meaning.specs.Fit.{IsFitRow, IsFitUpload}
use Rattle.gcs_meaning.proofs.Passing.{first_passed, second_passed, size_passed}
use Rattle.gcs_meaning.proofs.Grown.{length-grown}

-- one upload more
pub all-started : (P : ℕ × Upload → Type 0) (number : ℕ) (upload : Upload) (uploads : UploadMap) → P (number, upload) → ((numbered : ℕ × Upload) → P numbered → P (numbered.0, upload))
    → AllByRecursion P uploads → AllByRecursion P (insert_entry nat_cmp uploads number upload)
all-started P number upload [] new same h = (new, tt)
all-started P number upload (e ∷ es) new same h = by (nat_cmp number e.0) (all-started P number upload es new same h.1)
  where
    by : (o : Ordering) → AllByRecursion P (insert_entry nat_cmp es number upload)
        → AllByRecursion P (match_ordering o ((number, upload) ∷ e ∷ es) ((e.0, upload) ∷ es) (e ∷ insert_entry nat_cmp es number upload))
    by Less rest = (new, h)
    by Equal rest = (same e h.0, h.1)
    by Greater rest = (h.0, rest)

-- the upload of a number becomes another one
pub all-with_upload : (P : ℕ × Upload → Type 0) (number : ℕ) (found after : Upload) (uploads : UploadMap) → upload_of number uploads ≡ Some found
    → ((numbered : ℕ × Upload) → numbered.1 ≡ found → P numbered → P (numbered.0, after)) → AllByRecursion P uploads → AllByRecursion P (with_upload number after uploads)
all-with_upload P number found after [] is becomes h = h
all-with_upload P number found after (e ∷ es) is becomes h = by (is_number number e.0) is (λ later. all-with_upload P number found after es later becomes h.1)
  where
    by : (b : Bool) → cond b (Some e.1) (upload_of number es) ≡ Some found → (upload_of number es ≡ Some found → AllByRecursion P (with_upload number after es))
        → AllByRecursion P (cond b ((e.0, after) ∷ es) (e ∷ with_upload number after es))
    by true here rest = (becomes e (inside here) h.0, h.1)
      where
        inside : Some e.1 ≡ Some found → e.1 ≡ found
        inside same = cc
    by false here rest = (h.0, rest here)

-- a call on one of them
pub all-called : (P : ℕ × Upload → Type 0) (call : Upload → Outcome × Upload) (number : ℕ) (uploads : UploadMap) (found : Option Upload) → upload_of number uploads ≡ found
    → ((numbered : ℕ × Upload) → P numbered → P (numbered.0, (call numbered.1).1)) → AllByRecursion P uploads → AllByRecursion P (called_at found call number uploads).1
all-called P call number uploads None is each h = h
all-called P call number uploads (Some upload) is each h =
    all-with_upload P number upload (call upload).1 uploads is (λ numbered same fit. subst (λ u. P (numbered.0, (call u).1)) same (each numbered fit)) h

-- a piece that is accepted ends within the limit
offset_by : (b : Bool) (offset kept : ℕ) → nat_le offset kept ≡ b → (if b then None else Some (Beyond offset kept)) ≡ None → offset ≤ kept
offset_by true offset kept is h = grind (arith, nat_tests)
offset_by false offset kept is h = cc

grown_within : (content : Whole) (offset total : Option ℕ) (piece : Whole) → place_refusal total offset piece (length (bytes_of content)) ≡ None → length (bytes_of content) ≤ largest_object
    → length (bytes_of (grown content (length (bytes_of content)) offset piece)) ≤ largest_object
unfolding place_refusal
grown_within content None total piece passed within = within
grown_within content (Some offset) total piece passed within =
    let kept : ℕ = length (bytes_of content) in
    let end : ℕ = end_of_piece (Some offset) piece kept in
    let before : offset ≤ kept = offset_by (nat_le offset kept) offset kept refl (first_passed (offset_refusal (Some offset) kept) _ passed) in
    let short : end ≤ largest_object = size_passed end (first_passed (size_refusal end) _ (second_passed (offset_refusal (Some offset) kept) _ passed)) in
    omega (arith, length-grown content piece offset before, within, short)

piece_within : (upload : Upload) (offset given : Option ℕ) (piece : Whole) → piece_refusal upload offset given piece ≡ None → length (bytes_of upload.content) ≤ largest_object
    → length (bytes_of (grown upload.content (kept_of upload) offset piece)) ≤ largest_object
unfolding piece_refusal
piece_within upload offset given piece passed within =
    grown_within upload.content offset (known_total upload.total given) piece
    (second_passed (given_refusal given) _ (second_passed (total_refusal upload.total given (kept_of upload)) _ passed)) within

module _ (o m u : ℕ) where
  grown_fit : (n : ℕ) (upload : Upload) (offset given : Option ℕ) (piece : Whole) → piece_refusal upload offset given piece ≡ None → IsFitUpload o m u (n, upload)
      → IsFitUpload o m u (n, grown_upload upload offset given piece)
  unfolding grown_upload
  grown_fit n upload offset given piece passed h =
      record { number = h.number; start = h.start; kept = piece_within upload offset given piece passed h.kept; end = h.end }

  appended_if_fit : (n : ℕ) (refusal : Option Reason) (upload after : Upload) → (refusal ≡ None → IsFitUpload o m u (n, after)) → IsFitUpload o m u (n, upload)
      → IsFitUpload o m u (n, (appended_if refusal upload after).1)
  appended_if_fit n (Some reason) upload after new h = h
  appended_if_fit n None upload after new h = new refl

  appended_in_fit : (n : ℕ) (state : UploadState) (upload : Upload) (offset given : Option ℕ) (piece : Whole) → IsFitUpload o m u (n, upload)
      → IsFitUpload o m u (n, (appended_in state upload offset given piece).1)
  appended_in_fit n Running upload offset given piece h =
      appended_if_fit n (piece_refusal upload offset given piece) upload (grown_upload upload offset given piece) (λ passed. grown_fit n upload offset given piece passed h) h
  appended_in_fit n (Done row) upload offset given piece h = h
  appended_in_fit n Cancelled upload offset given piece h = h
  appended_in_fit n Expired upload offset given piece h = h

  pub append_fit : (number : ℕ) (offset given : Option ℕ) (piece : Whole) (uploads : UploadMap) → AllByRecursion (IsFitUpload o m u) uploads
      → AllByRecursion (IsFitUpload o m u) (append_at number offset given piece uploads).1
  unfolding append_at appended
  append_fit number offset given piece uploads h =
      all-called (IsFitUpload o m u) (λ upload. appended upload offset given piece) number uploads (upload_of number uploads) refl
      (λ numbered fit. appended_in_fit numbered.0 numbered.1.state numbered.1 offset given piece fit) h

  cancelled_in_fit : (n : ℕ) (state : UploadState) (upload : Upload) → IsFitUpload o m u (n, upload) → IsFitUpload o m u (n, (cancelled_in state upload).1)
  cancelled_in_fit n Running upload h = record { number = h.number; start = h.start; kept = h.kept; end = tt }
  cancelled_in_fit n (Done row) upload h = h
  cancelled_in_fit n Cancelled upload h = h
  cancelled_in_fit n Expired upload h = h

  pub cancel_fit : (number : ℕ) (uploads : UploadMap) → AllByRecursion (IsFitUpload o m u) uploads → AllByRecursion (IsFitUpload o m u) (cancel_at number uploads).1
  unfolding cancel_at cancelled
  cancel_fit number uploads h =
      all-called (IsFitUpload o m u) cancelled number uploads (upload_of number uploads) refl
      (λ numbered fit. cancelled_in_fit numbered.0 numbered.1.state numbered.1 fit) h

  done_if_fit : (number : ℕ) (row : Row) (uploads : UploadMap) (found : Option Upload) → upload_of number uploads ≡ found → IsFitRow o m row → AllByRecursion (IsFitUpload o m u) uploads
      → AllByRecursion (IsFitUpload o m u) (done_if found number row uploads)
  done_if_fit number row uploads None is made h = h
  done_if_fit number row uploads (Some upload) is made h =
      all-with_upload (IsFitUpload o m u) number upload (in_state (Done row) upload) uploads is
      (λ numbered same fit. record {
        number = fit.number;
        start = subst (λ x. x.start ≤ m) same fit.start;
        kept = subst (λ x. length (bytes_of x.content) ≤ largest_object) same fit.kept;
        end = made;
      }) h

  pub done_fit : (number : ℕ) (row : Row) (uploads : UploadMap) → IsFitRow o m row → AllByRecursion (IsFitUpload o m u) uploads → AllByRecursion (IsFitUpload o m u) (done_at number row uploads)
  done_fit number row uploads made h = done_if_fit number row uploads (upload_of number uploads) refl made h
