-- What the finish of an upload comes to on a slot that is aged, by what was decided before.
use Rattle.std.proofs.Common.{◌≡◌, ℕ, true, false, Option, Some, None, Result, Ok, Err, refl, ap, sym, subst, ◌∙◌}
use Rattle.std.specs.Prelude.{IfOk}
use Rattle.std.specs.Option.{IfSome, option_map}
use Rattle.std.proofs.lemmas.Bool.{eqb-true}
use Rattle.gcs_meaning.specs.declared.version.Row.{Row}
use Rattle.gcs_meaning.specs.declared.uploading.Upload.{Upload}
use Rattle.gcs_meaning.specs.declared.uploading.UploadState.{UploadState}
use Rattle.gcs_meaning.specs.declared.uploading.UploadState.TheVariants.{Running, Done, Cancelled, Expired}
use Rattle.gcs_meaning.specs.declared.reason.Reason.{Reason}
use Rattle.gcs_meaning.specs.declared.reason.Reason.TheVariants.{NoBucket, NoUpload}
use Rattle.gcs_meaning.specs.declared.command.Answer.{Answer}
use Rattle.gcs_meaning.specs.declared.command.Answer.TheVariants.{Object, Refused, Kept}
use Rattle.gcs_meaning.specs.Slot.{State, Slot}
use Rattle.gcs_meaning.specs.Aging.{aged, aged_alive, aged_state}
use Rattle.gcs_meaning.specs.Choosing.{live_row}
use Rattle.gcs_meaning.specs.Outcomes.{on_alive, unless}
use Rattle.gcs_meaning.specs.Uploads.{IsCompleteIf, aged_upload, kept_of, upload_of}
use Rattle.gcs_meaning.specs.UploadCalls.{on_upload}
use Rattle.gcs_meaning.specs.Put.{put_refusal, put_state, put_step, with_version}
use Rattle.gcs_meaning.specs.Finish.{digested_of, done_state, finish_in, finish_row, finish_step, finish_whole, is_total}
use Rattle.gcs_uploads.proofs.Ages.{aged_same}
use Rattle.gcs_bucket.specs.declared.put.Prepared.{Prepared}
use Rattle.gcs_bucket.specs.declared.finish.Finished.{Finished}
use Rattle.gcs_bucket.specs.Finish.{decided_finish, with_done, IsFinishing}
use Rattle.gcs_bucket.specs.Put.{decided_put, IsNextAlive}
use Rattle.gcs_bucket.specs.Uploading.{end_answer}
use Rattle.gcs_bucket.proofs.Uploading.{found_aged, none_aged, running_of}

pub finish_dead : (slot : Slot) (t number : ℕ) → slot.alive ≡ None → finish_step (aged slot t) t number ≡ (Refused NoBucket, aged slot t)
unfolding finish_step
finish_dead slot t number dead = rw dead refl

-- on the upload that was found
finish_found : (slot : Slot) (t number : ℕ) (s : State) (found : Option Upload) → slot.alive ≡ Some s → upload_of number (aged_state t s).uploads ≡ found
    → finish_step (aged slot t) t number ≡ on_upload found (aged slot t) (λ upload. finish_in upload.state (aged slot t) (aged_state t s) t number upload)
unfolding finish_step
finish_found slot t number s found lives is =
    ap (λ alive. on_alive (aged_alive t alive) (aged slot t) (λ s. on_upload (upload_of number s.uploads) (aged slot t) (λ upload. finish_in upload.state (aged slot t) s t number upload))) lives
    ∙ ap (λ found. on_upload found (aged slot t) (λ upload. finish_in upload.state (aged slot t) (aged_state t s) t number upload)) is

pub finish_missing : (slot : Slot) (t number : ℕ) (s : State) → slot.alive ≡ Some s → upload_of number s.uploads ≡ None → finish_step (aged slot t) t number ≡ (Refused NoUpload, aged slot t)
unfolding aged_state
finish_missing slot t number s lives none = finish_found slot t number s None lives (none_aged t number s.uploads none)

-- it ended
ends_in : (state : UploadState) (slot : Slot) (s : State) (t number : ℕ) (upload : Upload) (answer : Answer) → end_answer state s.settings ≡ Some answer
    → finish_in state slot s t number upload ≡ (answer, slot)
ends_in Running slot s t number upload answer e = absurd (cc)
ends_in (Done row) slot s t number upload answer e = ap (λ a. (a, slot)) (told (Object row s.settings) answer e)
  where
    told : (a b : Answer) → Some a ≡ Some b → a ≡ b
    told a b same = cc
ends_in Cancelled slot s t number upload answer e = cc
ends_in Expired slot s t number upload answer e = cc

pub finish_ended : (slot : Slot) (t number : ℕ) (s : State) (upload : Upload) (answer : Answer) → slot.alive ≡ Some s → upload_of number s.uploads ≡ Some upload
    → end_answer (aged_upload t upload).state s.settings ≡ Some answer → finish_step (aged slot t) t number ≡ (answer, aged slot t)
unfolding aged_state
finish_ended slot t number s upload answer lives at end =
    finish_found slot t number s (Some (aged_upload t upload)) lives (found_aged t number s.uploads upload at)
    ∙ ends_in (aged_upload t upload).state (aged slot t) (aged_state t s) t number (aged_upload t upload) answer end

-- it runs
finish_runs : (slot : Slot) (t number : ℕ) (s : State) (upload : Upload) → slot.alive ≡ Some s → upload_of number s.uploads ≡ Some upload
    → end_answer (aged_upload t upload).state s.settings ≡ None → finish_step (aged slot t) t number ≡ finish_in Running (aged slot t) (aged_state t s) t number upload
unfolding aged_state
finish_runs slot t number s upload lives at runs =
    let running = running_of t upload s.settings runs in
    finish_found slot t number s (Some upload) lives (found_aged t number s.uploads upload at ∙ ap Some (aged_same t upload running.1))
    ∙ ap (λ state. finish_in state (aged slot t) (aged_state t s) t number upload) running.0

pub finish_partial : (slot : Slot) (t number : ℕ) (s : State) (upload : Upload) → slot.alive ≡ Some s → upload_of number s.uploads ≡ Some upload
    → end_answer (aged_upload t upload).state s.settings ≡ None → is_total upload.total (kept_of upload) ≡ false → finish_step (aged slot t) t number ≡ (Kept (kept_of upload), aged slot t)
finish_partial slot t number s upload lives at runs partial = finish_runs slot t number s upload lives at runs ∙ rw partial refl

-- it is whole: the put of its version, and it is done where that is made
put_done : (slot : Slot) (t number : ℕ) (s : State) (row : Row) (refusal : Option Reason) (made : Prepared) (kept : Row) → unless refusal slot (with_version slot s t row) ≡ decided_put (Ok made) t slot
    → kept ≡ made.shown → (unless refusal slot (with_version slot (done_state s number row) t row) ≡ with_done number kept (decided_put (Ok made) t slot)) × (kept ≡ row)
unfolding put_state
put_done slot t number s row (Some reason) made kept is kept-is = absurd (differ (ap (λ (did : Answer × Slot). did.0) is))
  where
    differ : Refused reason ≡ Object made.shown made.settings → ⊥
    differ e = cc
put_done slot t number s row None made kept is kept-is =
    let shown : Object row s.settings ≡ Object made.shown made.settings = ap (λ (did : Answer × Slot). did.0) is in
    let same : kept ≡ row = kept-is ∙ sym (inside shown) in
    (ap (with_done number row) is ∙ ap (λ r. with_done number r (decided_put (Ok made) t slot)) (sym same), same)
  where
    inside : Object row s.settings ≡ Object made.shown made.settings → row ≡ made.shown
    inside e = cc

put_refused : (slot : Slot) (t number : ℕ) (s : State) (row : Row) (refusal : Option Reason) (reason : Reason) → unless refusal slot (with_version slot s t row) ≡ (Refused reason, slot)
    → unless refusal slot (with_version slot (done_state s number row) t row) ≡ (Refused reason, slot)
put_refused slot t number s row (Some other) reason is = is
put_refused slot t number s row None reason is = absurd (differ (ap (λ (did : Answer × Slot). did.0) is))
  where
    differ : Object row s.settings ≡ Refused reason → ⊥
    differ e = cc

whole_of : (slot : Slot) (t number : ℕ) (s : State) (upload : Upload) → slot.alive ≡ Some s → upload_of number s.uploads ≡ Some upload
    → end_answer (aged_upload t upload).state s.settings ≡ None → is_total upload.total (kept_of upload) ≡ true
    → finish_step (aged slot t) t number ≡ finish_whole (aged slot t) (aged_state t s) t number upload
whole_of slot t number s upload lives at runs whole = finish_runs slot t number s upload lives at runs ∙ rw whole refl

put_of : (slot : Slot) (t : ℕ) (s : State) (upload : Upload) → slot.alive ≡ Some s
    → put_step (aged slot t) t upload.name upload.pre upload.meta (digested_of upload) None upload.expect
    ≡ unless (put_refusal s.settings t upload.pre upload.expect (digested_of upload) (live_row upload.name (aged_state t s).rows)) (aged slot t)
    (with_version (aged slot t) (aged_state t s) t (finish_row (aged slot t) (aged_state t s) t upload))
unfolding put_step aged_state
put_of slot t s upload lives = rw lives refl

pub finish_refused : (slot : Slot) (t number : ℕ) (s : State) (upload : Upload) (reason : Reason) → slot.alive ≡ Some s → upload_of number s.uploads ≡ Some upload
    → end_answer (aged_upload t upload).state s.settings ≡ None → is_total upload.total (kept_of upload) ≡ true
    → put_step (aged slot t) t upload.name upload.pre upload.meta (digested_of upload) None upload.expect ≡ (Refused reason, aged slot t)
    → finish_step (aged slot t) t number ≡ (Refused reason, aged slot t)
unfolding aged_state
finish_refused slot t number s upload reason lives at runs whole refused =
    whole_of slot t number s upload lives at runs whole
    ∙ put_refused (aged slot t) t number (aged_state t s) (finish_row (aged slot t) (aged_state t s) t upload)
    (put_refusal s.settings t upload.pre upload.expect (digested_of upload) (live_row upload.name (aged_state t s).rows)) reason (sym (put_of slot t s upload lives) ∙ refused)

pub finish_made : (slot : Slot) (t number : ℕ) (s : State) (upload : Upload) (finished : Finished) → slot.alive ≡ Some s → upload_of number s.uploads ≡ Some upload
    → end_answer (aged_upload t upload).state s.settings ≡ None → is_total upload.total (kept_of upload) ≡ true
    → put_step (aged slot t) t upload.name upload.pre upload.meta (digested_of upload) None upload.expect ≡ decided_put (Ok finished.made) t (aged slot t)
    → finished.kept ≡ finished.made.shown
    → (finish_step (aged slot t) t number ≡ decided_finish (Ok finished) t number (aged slot t)) × (finished.kept.name ≡ upload.name)
unfolding aged_state
finish_made slot t number s upload finished lives at runs whole put kept =
    let done = put_done (aged slot t) t number (aged_state t s) (finish_row (aged slot t) (aged_state t s) t upload)
    (put_refusal s.settings t upload.pre upload.expect (digested_of upload) (live_row upload.name (aged_state t s).rows)) finished.made finished.kept (sym (put_of slot t s upload lives) ∙ put) kept in
    (whole_of slot t number s upload lives at runs whole ∙ done.0, ap (λ (row : Row). row.name) done.1)

-- ---- what was prepared for the finish
total_is : (total : Option ℕ) (kept : ℕ) → is_total total kept ≡ true → total ≡ Some kept
total_is None kept e = absurd (cc)
total_is (Some total) kept e = ap Some (eqb-true total kept e)

pub finishing_of : (slot : Slot) (t number : ℕ) (s : State) (upload : Upload) (finished : Finished) → slot.alive ≡ Some s → upload_of number s.uploads ≡ Some upload
    → end_answer (aged_upload t upload).state s.settings ≡ None → is_total upload.total (kept_of upload) ≡ true → finished.kept.name ≡ upload.name
    → IsNextAlive finished.made upload.name (aged slot t) → IsFinishing finished number (aged slot t)
unfolding aged_state
finishing_of slot t number s upload finished lives at runs whole name next =
    let running = running_of t upload s.settings runs in
    let there : upload_of number (aged_state t s).uploads ≡ Some upload = found_aged t number s.uploads upload at ∙ ap Some (aged_same t upload running.1) in
    record {
      next = subst (λ n. IsNextAlive finished.made n (aged slot t)) (sym name) next;
      complete =
          subst (λ alive. IfSome (aged_alive t alive) (λ (s : State). IsCompleteIf (upload_of number s.uploads))) (sym lives)
          (subst IsCompleteIf (sym there) (record { running = running.0; whole = total_is upload.total (kept_of upload) whole }));
    }

-- a version that is put leaves the uploads
still_complete : (t number : ℕ) (row : Row) (alive : Option State) → IfSome alive (λ s. IsCompleteIf (upload_of number s.uploads))
    → IfSome (option_map (λ s. put_state s t row) alive) (λ s. IsCompleteIf (upload_of number s.uploads))
unfolding put_state
still_complete t number row None h = h
still_complete t number row (Some s) h = h

pub complete_after : (t number : ℕ) (made : Prepared) (before after : Slot) (answer : Answer) → IfSome before.alive (λ s. IsCompleteIf (upload_of number s.uploads))
    → (answer, after) ≡ decided_put (Ok made) t before → IfSome after.alive (λ s. IsCompleteIf (upload_of number s.uploads))
complete_after t number made before after answer h did =
    subst (λ alive. IfSome alive (λ (s : State). IsCompleteIf (upload_of number s.uploads))) (sym (ap (λ (did : Answer × Slot). did.1.alive) did))
    (still_complete t number made.row before.alive h)

-- ---- what was decided before ageing is what it comes to after it
pub finish_done : (does : Answer × Slot) (decision : Result Finished Answer) (finished : Finished) (t number : ℕ) (aged-one now after : Slot) (answer : Answer)
    → does ≡ decided_finish decision t number aged-one → decision ≡ Ok finished → now ≡ aged-one → (answer, after) ≡ decided_finish (Ok finished) t number now → does ≡ (answer, after)
finish_done does decision finished t number aged-one now after answer decided is now-is done =
    decided ∙ ap (λ d. decided_finish d t number aged-one) is ∙ ap (decided_finish (Ok finished) t number) (sym now-is) ∙ sym done

pub finish_answered : (does : Answer × Slot) (decision : Result Finished Answer) (t number : ℕ) (aged-one now : Slot) (answer : Answer)
    → does ≡ decided_finish decision t number aged-one → decision ≡ Err answer → now ≡ aged-one → does ≡ (answer, now)
finish_answered does decision t number aged-one now answer decided is now-is =
    decided ∙ ap (λ d. decided_finish d t number aged-one) is ∙ ap (λ slot. (answer, slot)) (sym now-is)

pub finishing_made : (decision : Result Finished Answer) (finished : Finished) (number : ℕ) (aged-one now : Slot)
    → IfOk decision (λ f. IsFinishing f number aged-one) → decision ≡ Ok finished → now ≡ aged-one → IsFinishing finished number now
finishing_made decision finished number aged-one now held is now-is =
    subst (IsFinishing finished number) (sym now-is) (subst (λ d. IfOk d (λ f. IsFinishing f number aged-one)) is held)
