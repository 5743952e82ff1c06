-- The uploads of a bucket stay in their chunks where one of them is called or done.
use Rattle.std.proofs.Common.{◌≡◌, ◌-◌, ℕ, Bool, true, false, [], ◌∷◌, Option, Some, None, length, refl, subst}
use Rattle.std.specs.Prelude.{◌==◌, cond, nat_lt, if◌then◌else◌}
use Rattle.gcs_chunks.specs.Content.{ChunksValue, ContentLiesIn, Whole, bytes_of, joined, rest_of}
use Rattle.gcs_chunks.proofs.Words.{lies_joined, lies_rest}
use Rattle.gcs_meaning.specs.declared.reason.Reason.{Reason}
use Rattle.gcs_meaning.specs.declared.settings.Settings.{Settings}
use Rattle.gcs_meaning.specs.declared.uploading.Progress.{Progress}
use Rattle.gcs_meaning.specs.declared.uploading.Progress.TheVariants as progress
use Rattle.gcs_meaning.specs.declared.uploading.Upload.{Upload}
use Rattle.gcs_meaning.specs.declared.uploading.UploadState.{UploadState}
use Rattle.gcs_meaning.specs.declared.uploading.UploadState.TheVariants.{Running, Done, Cancelled, Expired}
use Rattle.gcs_meaning.specs.declared.version.Row.{Row}
use Rattle.gcs_meaning.specs.Slot.{State}
use Rattle.gcs_meaning.specs.Uploads.{UploadMap, Outcome, answers, refuses, called_at, done_if, in_state, is_number, kept_of, upload_of}
use Rattle.gcs_meaning.specs.UploadCalls.{answer_by}
use Rattle.gcs_meaning.specs.Append.{append_at, appended, appended_if, appended_in, grown, grown_upload, piece_refusal, progress_of}
use Rattle.gcs_meaning.specs.Cancel.{cancel_at, cancelled, cancelled_in}
use Rattle.gcs_meaning.specs.Finish.{done_state}
use Rattle.gcs_meaning.specs.Contents.{AnswerLiesIn, EndLiesIn, RowLiesIn, StateLiesIn, UploadLiesIn, UploadsLieIn}
use Rattle.gcs_meaning.proofs.FitUploads.{all-called, all-with_upload}

module _ (chunks : ChunksValue) where
  abbrev pub ProgressLies : Progress → Type 0
  ProgressLies (progress.Kept n) = Unit {0}
  ProgressLies (progress.Complete content) = ContentLiesIn chunks content
  ProgressLies (progress.Done row) = RowLiesIn chunks row
  ProgressLies progress.Stopped = Unit {0}

  abbrev pub OutcomeLies : Outcome → Type 0
  OutcomeLies (answers progress) = ProgressLies progress
  OutcomeLies (refuses reason) = Unit {0}

  pub answer_lies : (told : Progress) (settings : Settings) → ProgressLies told → AnswerLiesIn chunks (answer_by told settings)
  answer_lies (progress.Kept n) settings h = tt
  answer_lies (progress.Complete content) settings h = h
  answer_lies (progress.Done row) settings h = h
  answer_lies progress.Stopped settings h = tt

  -- the upload of a number is one of them
  pub upload_lies : (number : ℕ) (upload : Upload) (uploads : UploadMap) → upload_of number uploads ≡ Some upload → UploadsLieIn chunks uploads → UploadLiesIn chunks upload
  upload_lies number upload [] is h = cc
  upload_lies number upload (e ∷ es) is h = by (is_number number e.0) is (λ later. upload_lies number upload es later h.1)
    where
      by : (b : Bool) → cond b (Some e.1) (upload_of number es) ≡ Some upload → (upload_of number es ≡ Some upload → UploadLiesIn chunks upload) → UploadLiesIn chunks upload
      by true here rest = subst (UploadLiesIn chunks) (inside here) h.0
        where
          inside : Some e.1 ≡ Some upload → e.1 ≡ upload
          inside same = cc
      by false here rest = rest here

  outcome_lies : (call : Upload → Outcome × Upload) (number : ℕ) (uploads : UploadMap) (found : Option Upload) → upload_of number uploads ≡ found
      → ((upload : Upload) → UploadLiesIn chunks upload → OutcomeLies (call upload).0) → UploadsLieIn chunks uploads → OutcomeLies (called_at found call number uploads).0
  outcome_lies call number uploads None is each h = tt
  outcome_lies call number uploads (Some upload) is each h = each upload (upload_lies number upload uploads is h)

  -- a call answers and leaves what lies in the chunks
  called_lies : (call : Upload → Outcome × Upload) (number : ℕ) (uploads : UploadMap)
      → ((upload : Upload) → UploadLiesIn chunks upload → OutcomeLies (call upload).0 × UploadLiesIn chunks (call upload).1) → UploadsLieIn chunks uploads
      → OutcomeLies (called_at (upload_of number uploads) call number uploads).0 × UploadsLieIn chunks (called_at (upload_of number uploads) call number uploads).1
  called_lies call number uploads each h = (
    outcome_lies call number uploads (upload_of number uploads) refl (λ upload lies. (each upload lies).0) h,
    all-called (λ numbered. UploadLiesIn chunks numbered.1) call number uploads (upload_of number uploads) refl (λ numbered lies. (each numbered.1 lies).1) h,
  )

  grown_if : (b : Bool) (content more : Whole) → ContentLiesIn chunks content → ContentLiesIn chunks more → ContentLiesIn chunks (if b then joined content more else content)
  grown_if true content more h lies = lies_joined chunks content more h lies
  grown_if false content more h lies = h

  grown_lies : (content : Whole) (kept : ℕ) (offset : Option ℕ) (piece : Whole) → ContentLiesIn chunks content → ContentLiesIn chunks piece → ContentLiesIn chunks (grown content kept offset piece)
  grown_lies content kept None piece h lies = h
  grown_lies content kept (Some offset) piece h lies =
      grown_if (nat_lt (kept - offset) (length (bytes_of piece))) content (rest_of piece (kept - offset)) h (lies_rest chunks piece (kept - offset) lies)

  grown_upload_lies : (upload : Upload) (offset given : Option ℕ) (piece : Whole) → UploadLiesIn chunks upload → ContentLiesIn chunks piece → UploadLiesIn chunks (grown_upload upload offset given piece)
  unfolding grown_upload
  grown_upload_lies upload offset given piece h lies = record { kept = grown_lies upload.content (kept_of upload) offset piece h.kept lies; end = h.end }

  complete_if : (b : Bool) (content : Whole) → ContentLiesIn chunks content → ProgressLies (if b then progress.Complete content else progress.Kept (length (bytes_of content)))
  complete_if true content h = h
  complete_if false content h = tt

  progress_lies : (total : Option ℕ) (content : Whole) → ContentLiesIn chunks content → ProgressLies (progress_of total content)
  progress_lies None content h = tt
  progress_lies (Some total) content h = complete_if (length (bytes_of content) == total) content h

  abbrev pub CallLies : Outcome × Upload → Type 0
  CallLies done = OutcomeLies done.0 × UploadLiesIn chunks done.1

  appended_if_lies : (refusal : Option Reason) (upload after : Upload) → UploadLiesIn chunks upload → UploadLiesIn chunks after → CallLies (appended_if refusal upload after)
  appended_if_lies (Some reason) upload after h new = (tt, h)
  appended_if_lies None upload after h new = (progress_lies after.total after.content new.kept, new)

  appended_in_lies : (state : UploadState) (upload : Upload) (offset given : Option ℕ) (piece : Whole) → EndLiesIn chunks state → UploadLiesIn chunks upload → ContentLiesIn chunks piece
      → CallLies (appended_in state upload offset given piece)
  appended_in_lies Running upload offset given piece end h lies =
      appended_if_lies (piece_refusal upload offset given piece) upload (grown_upload upload offset given piece) h (grown_upload_lies upload offset given piece h lies)
  appended_in_lies (Done row) upload offset given piece end h lies = (end, h)
  appended_in_lies Cancelled upload offset given piece end h lies = (tt, h)
  appended_in_lies Expired upload offset given piece end h lies = (tt, h)

  pub append_lies : (number : ℕ) (offset given : Option ℕ) (piece : Whole) (uploads : UploadMap) → ContentLiesIn chunks piece → UploadsLieIn chunks uploads
      → OutcomeLies (append_at number offset given piece uploads).0 × UploadsLieIn chunks (append_at number offset given piece uploads).1
  unfolding append_at appended
  append_lies number offset given piece uploads lies h =
      called_lies (λ upload. appended upload offset given piece) number uploads
      (λ upload fit. appended_in_lies upload.state upload offset given piece fit.end fit lies) h

  cancelled_in_lies : (state : UploadState) (upload : Upload) → EndLiesIn chunks state → UploadLiesIn chunks upload → CallLies (cancelled_in state upload)
  cancelled_in_lies Running upload end h = (tt, record { kept = h.kept; end = tt })
  cancelled_in_lies (Done row) upload end h = (end, h)
  cancelled_in_lies Cancelled upload end h = (tt, h)
  cancelled_in_lies Expired upload end h = (tt, h)

  pub cancel_lies : (number : ℕ) (uploads : UploadMap) → UploadsLieIn chunks uploads → OutcomeLies (cancel_at number uploads).0 × UploadsLieIn chunks (cancel_at number uploads).1
  unfolding cancel_at cancelled
  cancel_lies number uploads h = called_lies cancelled number uploads (λ upload lies. cancelled_in_lies upload.state upload lies.end lies) h

  done_if_lies : (number : ℕ) (row : Row) (uploads : UploadMap) (found : Option Upload) → upload_of number uploads ≡ found → RowLiesIn chunks row → UploadsLieIn chunks uploads
      → UploadsLieIn chunks (done_if found number row uploads)
  done_if_lies number row uploads None is made h = h
  done_if_lies number row uploads (Some upload) is made h =
      all-with_upload (λ numbered. UploadLiesIn chunks numbered.1) number upload (in_state (Done row) upload) uploads is
      (λ numbered same lies. record { kept = subst (λ u. ContentLiesIn chunks u.content) same lies.kept; end = made }) h

  pub done_state_lies : (s : State) (number : ℕ) (row : Row) → RowLiesIn chunks row → StateLiesIn chunks s → StateLiesIn chunks (done_state s number row)
  done_state_lies s number row made h = record { rows = h.rows; uploads = done_if_lies number row s.uploads (upload_of number s.uploads) refl made h.uploads }
