-- A call on an upload that isn't late is the same before the uploads age as after, and one on an upload that is late finds it expired.
use Rattle.std.proofs.Common.{◌≡◌, ℕ, ◌+◌, Bool, true, false, [], ◌∷◌, Option, Some, None, ap, sym, refl, ◌∙◌}
use Rattle.std.specs.Prelude.{nat_le, ◌&&◌, cond, map}
use Rattle.std.specs.Option.{option_map}
use Rattle.std.specs.Ordering.{nat_cmp, match_ordering}
use Rattle.std.specs.declared.cmp.Ordering.{Ordering}
use Rattle.std.specs.declared.cmp.Ordering.TheVariants.{Less, Equal, Greater}
use Rattle.std.specs.BTreeMap.{insert_entry}
use Rattle.std.specs.Map.{set_value}
use Rattle.std.proofs.lemmas.Map.Made.{lookup-map_values}
use Rattle.gcs_chunks.specs.Content.{Whole}
use Rattle.gcs_meaning.specs.declared.reason.Reason.{Reason}
use Rattle.gcs_meaning.specs.declared.uploading.Upload.{Upload}
use Rattle.gcs_meaning.specs.declared.uploading.UploadState.{UploadState}
use Rattle.gcs_meaning.specs.declared.uploading.UploadState.TheVariants.{Running, Done, Cancelled, Expired}
use Rattle.gcs_meaning.specs.Uploads.{UploadMap, aged_upload, aged_uploads, expired_if, is_running, upload_time, Outcome, called_at, in_state, is_number, upload_of}
use Rattle.gcs_meaning.specs.Append.{append_at, appended, appended_if, appended_in, grown_upload, piece_refusal}
use Rattle.gcs_meaning.specs.Cancel.{cancel_at, cancelled, cancelled_in}
use Rattle.gcs_uploads.specs.Calls.{late, late_if}

same_in : (state : UploadState) (past : Bool) → (is_running state && past) ≡ false → expired_if past state ≡ state
same_in Running past e = rw e refl
same_in (Done row) past e = refl
same_in Cancelled past e = refl
same_in Expired past e = refl

-- an upload that isn't late doesn't age
pub aged_same : (t : ℕ) (upload : Upload) → late t upload ≡ false → aged_upload t upload ≡ upload
aged_same t upload e = ap (λ state. in_state state upload) (same_in upload.state (nat_le (upload.start + upload_time) t) e)

abbrev each : (Upload → Upload) → UploadMap → UploadMap
each f uploads = map (λ numbered. (numbered.0, f numbered.1)) uploads

set_each : (f : Upload → Upload) (test : ℕ → Bool) (uploads : UploadMap) (w : Upload) → set_value test (each f uploads) (f w) ≡ each f (set_value test uploads w)
set_each f test [] w = refl
set_each f test (e ∷ uploads) w = by (test e.0) (set_each f test uploads w)
  where
    by : (b : Bool) → set_value test (each f uploads) (f w) ≡ each f (set_value test uploads w) → cond b ((e.0, f w) ∷ each f uploads) ((e.0, f e.1) ∷ set_value test (each f uploads) (f w)) ≡ each f (cond b ((e.0, w) ∷ uploads) (e ∷ set_value test uploads w))
    by true rest = refl
    by false rest = ap (λ more. (e.0, f e.1) ∷ more) rest

insert_each : (f : Upload → Upload) (uploads : UploadMap) (number : ℕ) (w : Upload) → insert_entry nat_cmp (each f uploads) number (f w) ≡ each f (insert_entry nat_cmp uploads number w)
insert_each f [] number w = refl
insert_each f (e ∷ uploads) number w = by (nat_cmp number e.0) (insert_each f uploads number w)
  where
    by : (o : Ordering) → insert_entry nat_cmp (each f uploads) number (f w) ≡ each f (insert_entry nat_cmp uploads number w)
        → match_ordering o ((number, f w) ∷ (e.0, f e.1) ∷ each f uploads) ((e.0, f w) ∷ each f uploads) ((e.0, f e.1) ∷ insert_entry nat_cmp (each f uploads) number (f w))
        ≡ each f (match_ordering o ((number, w) ∷ e ∷ uploads) ((e.0, w) ∷ uploads) (e ∷ insert_entry nat_cmp uploads number w))
    by Less rest = refl
    by Equal rest = refl
    by Greater rest = ap (λ more. (e.0, f e.1) ∷ more) rest

appended_late : (t : ℕ) (upload : Upload) (offset given : Option ℕ) (piece : Whole) → late t upload ≡ false → late t (appended upload offset given piece).1 ≡ false
unfolding appended grown_upload
appended_late t upload offset given piece e = by upload.state refl
  where
    tested : (refusal : Option Reason) → late t (appended_if refusal upload (grown_upload upload offset given piece)).1 ≡ false
    tested None = e
    tested (Some reason) = e

    by : (state : UploadState) → upload.state ≡ state → late t (appended_in state upload offset given piece).1 ≡ false
    by Running is = tested (piece_refusal upload offset given piece)
    by (Done row) is = e
    by Cancelled is = e
    by Expired is = e

called_aged : (t number : ℕ) (call : Upload → Outcome × Upload) (uploads : UploadMap)
    → ((upload : Upload) → late t upload ≡ false → late t (call upload).1 ≡ false)
    → (found : Option Upload) → late_if t found ≡ false
    → called_at (option_map (aged_upload t) found) call number (each (aged_upload t) uploads)
    ≡ ((called_at found call number uploads).0, each (aged_upload t) (called_at found call number uploads).1)
called_aged t number call uploads stays None e = refl
called_aged t number call uploads stays (Some upload) e =
    ap (λ u. called_at (Some u) call number (each (aged_upload t) uploads)) (aged_same t upload e)
    ∙ ap (λ left. ((call upload).0, left))
    (ap (λ u. set_value (is_number number) (each (aged_upload t) uploads) u) (sym (aged_same t (call upload).1 (stays upload e)))
    ∙ set_each (aged_upload t) (is_number number) uploads (call upload).1)

-- a piece on an upload that isn't late
pub append_aged : (t number : ℕ) (offset given : Option ℕ) (piece : Whole) (uploads : UploadMap) → late_if t (upload_of number uploads) ≡ false
    → append_at number offset given piece (aged_uploads t uploads)
    ≡ ((append_at number offset given piece uploads).0, aged_uploads t (append_at number offset given piece uploads).1)
unfolding append_at aged_uploads
append_aged t number offset given piece uploads e =
    ap (λ found. called_at found (λ upload. appended upload offset given piece) number (each (aged_upload t) uploads)) (lookup-map_values (aged_upload t) (is_number number) uploads)
    ∙ called_aged t number (λ upload. appended upload offset given piece) uploads (λ upload. appended_late t upload offset given piece) (upload_of number uploads) e

-- an upload that begins now
pub start_aged : (t number : ℕ) (upload : Upload) (uploads : UploadMap) → late t upload ≡ false
    → insert_entry nat_cmp (aged_uploads t uploads) number upload ≡ aged_uploads t (insert_entry nat_cmp uploads number upload)
unfolding aged_uploads
start_aged t number upload uploads e =
    ap (λ u. insert_entry nat_cmp (each (aged_upload t) uploads) number u) (sym (aged_same t upload e)) ∙ insert_each (aged_upload t) uploads number upload

cancelled_late : (t : ℕ) (upload : Upload) → late t upload ≡ false → late t (cancelled upload).1 ≡ false
unfolding cancelled
cancelled_late t upload e = by upload.state
  where
    by : (state : UploadState) → late t (cancelled_in state upload).1 ≡ false
    by Running = refl
    by (Done row) = e
    by Cancelled = e
    by Expired = e

-- the end of an upload that isn't late
pub cancel_aged : (t number : ℕ) (uploads : UploadMap) → late_if t (upload_of number uploads) ≡ false
    → cancel_at number (aged_uploads t uploads) ≡ ((cancel_at number uploads).0, aged_uploads t (cancel_at number uploads).1)
unfolding cancel_at aged_uploads
cancel_aged t number uploads e =
    ap (λ found. called_at found cancelled number (each (aged_upload t) uploads)) (lookup-map_values (aged_upload t) (is_number number) uploads)
    ∙ called_aged t number cancelled uploads (cancelled_late t) (upload_of number uploads) e

-- the upload of a number once the uploads have aged
pub upload_aged : (t number : ℕ) (uploads : UploadMap) → upload_of number (aged_uploads t uploads) ≡ option_map (aged_upload t) (upload_of number uploads)
unfolding aged_uploads
upload_aged t number uploads = lookup-map_values (aged_upload t) (is_number number) uploads
