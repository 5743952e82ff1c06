-- What the calls on uploads come to on a slot that is aged, by what they come to before.
use Rattle.std.proofs.Common.{◌≡◌, ℕ, ◌+◌, Bool, true, false, List, [], ◌∷◌, length, Option, Some, None, Result, Ok, Err, refl, ap, sym, subst, ◌∙◌, arith}
use Rattle.std.specs.Prelude.{IfOk, IfErr, OnErr, is_some, nat_le, cond, ◌==◌, ◌&&◌, if◌then◌else◌}
use Rattle.std.specs.Option.{IfSome, option_map}
use Rattle.std.specs.Ordering.{nat_cmp, is_eq}
use Rattle.std.specs.declared.cmp.Ordering.TheVariants.{Greater}
use Rattle.std.specs.Cmp.{nat_cmp_is}
use Rattle.std.specs.BTreeMap.{insert_entry}
use Rattle.std.proofs.lemmas.Bool.{leb-true}
use Rattle.std.proofs.lemmas.Map.Steps.{set_value_same}
use Rattle.gcs_chunks.specs.Content.{Whole, bytes_of}
use Rattle.gcs_meaning.specs.declared.settings.Pre.{Pre}
use Rattle.gcs_meaning.specs.declared.settings.Meta.{Meta}
use Rattle.gcs_meaning.specs.declared.settings.Settings.{Settings}
use Rattle.gcs_meaning.specs.declared.version.Expect.{Expect}
use Rattle.gcs_meaning.specs.declared.version.Row.{Row}
use Rattle.gcs_meaning.specs.declared.uploading.Upload.{Upload}
use Rattle.gcs_meaning.specs.declared.uploading.UploadState.{UploadState}
use Rattle.gcs_meaning.specs.declared.uploading.UploadState.TheVariants.{Running, Done, Cancelled, Expired}
use Rattle.gcs_meaning.specs.declared.uploading.Progress.{Progress}
use Rattle.gcs_meaning.specs.declared.uploading.Progress.TheVariants as progress
use Rattle.gcs_meaning.specs.declared.reason.Reason.{Reason}
use Rattle.gcs_meaning.specs.declared.reason.Reason.TheVariants.{NoBucket, NoUpload, Gone}
use Rattle.gcs_meaning.specs.declared.command.Answer.{Answer}
use Rattle.gcs_meaning.specs.declared.command.Answer.TheVariants.{Object, Refused, Started}
use Rattle.gcs_meaning.specs.Slot.{State, Slot, with_alive}
use Rattle.gcs_meaning.specs.Aging.{aged, aged_alive, aged_state}
use Rattle.gcs_meaning.specs.Outcomes.{on_alive}
use Rattle.gcs_meaning.specs.Uploads.{Outcome, UploadMap, answers, refuses, aged_upload, aged_uploads, called_at, expired_if, is_number, is_running, upload_of, upload_time, with_upload}
use Rattle.gcs_meaning.specs.UploadCalls.{by_outcome, on_called, with_uploads}
use Rattle.gcs_meaning.specs.Append.{append_at, append_step, appended, appended_if, appended_in, grown_upload, piece_refusal, progress_of}
use Rattle.gcs_meaning.specs.Cancel.{cancel_at, cancel_step, cancelled, cancelled_in}
use Rattle.gcs_meaning.specs.Start.{new_upload, start_state, start_step, with_started}
use Rattle.gcs_uploads.specs.declared.fault.UploadFault.{UploadFault}
use Rattle.gcs_uploads.specs.declared.fault.UploadFault.TheVariants as fault
use Rattle.gcs_uploads.specs.Calls.{IsRefusedBy, late, late_if}
use Rattle.gcs_uploads.proofs.Ages.{append_aged, cancel_aged, start_aged, upload_aged}
use Rattle.gcs_bucket.specs.declared.alive.State.{State as Fields}
use Rattle.gcs_bucket.specs.Alive.{alive_of, on_bucket, state_of}
use Rattle.gcs_bucket.specs.Uploading.{AreBelow, IsTold, IsUnderWay, end_answer, end_at, found_end}

-- ---- what ageing leaves of an upload
-- one that runs at t did so before, and isn't late
running_in : (state : UploadState) (past : Bool) (settings : Settings) → end_answer (expired_if past state) settings ≡ None → (state ≡ Running) × ((is_running state && past) ≡ false)
running_in Running true settings e = absurd (cc)
running_in Running false settings e = (refl, refl)
running_in (Done row) past settings e = absurd (cc)
running_in Cancelled past settings e = absurd (cc)
running_in Expired past settings e = absurd (cc)

pub running_of : (t : ℕ) (upload : Upload) (settings : Settings) → end_answer (aged_upload t upload).state settings ≡ None → (upload.state ≡ Running) × (late t upload ≡ false)
running_of t upload settings e = running_in upload.state (nat_le (upload.start + upload_time) t) settings e

-- the upload of a number on the slot that is aged
pub found_aged : (t number : ℕ) (uploads : UploadMap) (upload : Upload) → upload_of number uploads ≡ Some upload → upload_of number (aged_uploads t uploads) ≡ Some (aged_upload t upload)
found_aged t number uploads upload at = upload_aged t number uploads ∙ ap (option_map (aged_upload t)) at

pub none_aged : (t number : ℕ) (uploads : UploadMap) → upload_of number uploads ≡ None → upload_of number (aged_uploads t uploads) ≡ None
none_aged t number uploads none = upload_aged t number uploads ∙ ap (option_map (aged_upload t)) none

-- ---- a call on an upload that ended
-- it answers the end, and leaves the upload
record IsEndCall (call : Upload → Outcome × Upload) : Type 0 where
  done : (upload : Upload) (row : Row) → upload.state ≡ Done row → call upload ≡ (answers (progress.Done row), upload)
  cancelled : (upload : Upload) → upload.state ≡ Cancelled → call upload ≡ (refuses (Gone false), upload)
  expired : (upload : Upload) → upload.state ≡ Expired → call upload ≡ (refuses (Gone true), upload)

append_ends : (offset given : Option ℕ) (piece : Whole) → IsEndCall (λ upload. appended upload offset given piece)
unfolding appended
append_ends offset given piece = record {
  done = λ upload row is. ap (λ state. appended_in state upload offset given piece) is;
  cancelled = λ upload is. ap (λ state. appended_in state upload offset given piece) is;
  expired = λ upload is. ap (λ state. appended_in state upload offset given piece) is;
}

cancel_ends : IsEndCall cancelled
unfolding cancelled
cancel_ends = record {
  done = λ upload row is. ap (λ state. cancelled_in state upload) is;
  cancelled = λ upload is. ap (λ state. cancelled_in state upload) is;
  expired = λ upload is. ap (λ state. cancelled_in state upload) is;
}

-- a call whose outcome leaves the upload that it is on
left_as : (call : Upload → Outcome × Upload) (slot : Slot) (s : State) (number : ℕ) (upload : Upload) (outcome : Outcome) → upload_of number s.uploads ≡ Some upload
    → call upload ≡ (outcome, upload) → on_called (called_at (upload_of number s.uploads) call number s.uploads) slot s ≡ by_outcome outcome s.uploads slot s
left_as call slot s number upload outcome at is =
    ap (λ found. on_called (called_at found call number s.uploads) slot s) at
    ∙ ap (λ (did : Outcome × Upload). by_outcome did.0 (with_upload number did.1 s.uploads) slot s) is
    ∙ ap (λ uploads. by_outcome outcome uploads slot s) (set_value_same (is_number number) s.uploads upload at)

ended_call : (call : Upload → Outcome × Upload) → IsEndCall call → (slot : Slot) (s : State) (number : ℕ) (upload : Upload) (answer : Answer) → slot.alive ≡ Some s
    → upload_of number s.uploads ≡ Some upload → end_answer upload.state s.settings ≡ Some answer
    → on_called (called_at (upload_of number s.uploads) call number s.uploads) slot s ≡ (answer, slot)
ended_call call ends slot s number upload answer lives at end = by upload.state refl end
  where
    told : (a b : Answer) → Some a ≡ Some b → a ≡ b
    told a b same = cc

    by : (state : UploadState) → upload.state ≡ state → end_answer state s.settings ≡ Some answer
        → on_called (called_at (upload_of number s.uploads) call number s.uploads) slot s ≡ (answer, slot)
    by Running is e = absurd (cc)
    by (Done row) is e =
        left_as call slot s number upload (answers (progress.Done row)) at (ends.done upload row is)
        ∙ ap (λ alive. (Object row s.settings, record slot { alive = alive })) (sym lives)
        ∙ ap (λ a. (a, slot)) (told (Object row s.settings) answer e)
    by Cancelled is e =
        left_as call slot s number upload (refuses (Gone false)) at (ends.cancelled upload is) ∙ ap (λ a. (a, slot)) (told (Refused (Gone false)) answer e)
    by Expired is e =
        left_as call slot s number upload (refuses (Gone true)) at (ends.expired upload is) ∙ ap (λ a. (a, slot)) (told (Refused (Gone true)) answer e)

-- what a call finds on a slot: no bucket, no upload, or one that ended
alive_call : (call : Upload → Outcome × Upload) → IsEndCall call → (slot : Slot) (s : State) (number : ℕ) (answer : Answer) → slot.alive ≡ Some s
    → (found : Option Upload) → upload_of number s.uploads ≡ found → found_end found s.settings ≡ Some answer
    → on_called (called_at (upload_of number s.uploads) call number s.uploads) slot s ≡ (answer, slot)
alive_call call ends slot s number answer lives None at end =
    ap (λ found. on_called (called_at found call number s.uploads) slot s) at ∙ ap (λ a. (a, slot)) (inside end)
  where
    inside : Some (Refused NoUpload) ≡ Some answer → Refused NoUpload ≡ answer
    inside same = cc
alive_call call ends slot s number answer lives (Some upload) at end = ended_call call ends slot s number upload answer lives at end

none_runs : (call : Upload → Outcome × Upload) → IsEndCall call → (slot : Slot) (number : ℕ) (answer : Answer) → (alive : Option State) → slot.alive ≡ alive → end_at number alive ≡ Some answer
    → on_alive alive slot (λ s. on_called (called_at (upload_of number s.uploads) call number s.uploads) slot s) ≡ (answer, slot)
none_runs call ends slot number answer None lives end = ap (λ a. (a, slot)) (inside end)
  where
    inside : Some (Refused NoBucket) ≡ Some answer → Refused NoBucket ≡ answer
    inside same = cc
none_runs call ends slot number answer (Some s) lives end = alive_call call ends slot s number answer lives (upload_of number s.uploads) refl end

-- ---- an upload that runs
-- it is there, and runs at t
pub record IsRunningAt (t number : ℕ) (s : State) : Type 0 where
  pub upload : Upload
  pub found : upload_of number s.uploads ≡ Some upload
  pub running : upload.state ≡ Running
  pub early : late t upload ≡ false

runs_at : (t number : ℕ) (s : State) → end_at number (Some (aged_state t s)) ≡ None → IsRunningAt t number s
unfolding aged_state
runs_at t number s end = by (upload_of number s.uploads) refl (sym (ap (λ found. found_end found s.settings) (upload_aged t number s.uploads)) ∙ end)
  where
    by : (found : Option Upload) → upload_of number s.uploads ≡ found → found_end (option_map (aged_upload t) (upload_of number s.uploads)) s.settings ≡ None → IsRunningAt t number s
    by None at e = absurd (apart (ap (λ f. found_end (option_map (aged_upload t) f) s.settings) (sym at) ∙ e))
      where
        apart : Some (Refused NoUpload) ≡ None → ⊥
        apart same = cc
    by (Some upload) at e =
        let running = running_of t upload s.settings (ap (λ f. found_end (option_map (aged_upload t) f) s.settings) (sym at) ∙ e) in
        record { upload = upload; found = at; running = running.0; early = running.1 }

pub told_call : (call : UploadMap → Outcome × UploadMap) (slot : Slot) (t : ℕ) (s : State) (left : UploadMap) (called : Result Progress UploadFault) (answer : Answer) → slot.alive ≡ Some s
    → call (aged_uploads t s.uploads) ≡ ((call s.uploads).0, aged_uploads t (call s.uploads).1)
    → IfOk called (λ told. call s.uploads ≡ (answers told, left)) → IfErr called (λ e. IsRefusedBy e (call s.uploads).0) → OnErr called (left ≡ s.uploads)
    → IsTold called s.settings answer
    → on_called (call (aged_state t s).uploads) (aged slot t) (aged_state t s) ≡ (answer, aged (with_alive (with_uploads left s) slot) t)
unfolding aged_state
told_call call slot t s left (Ok told) answer lives same done refused stays is =
    ap (λ (called : Outcome × UploadMap). on_called called (aged slot t) (aged_state t s)) (same ∙ ap (λ (called : Outcome × UploadMap). (called.0, aged_uploads t called.1)) done)
    ∙ ap (λ a. (a, aged (with_alive (with_uploads left s) slot) t)) (sym is)
told_call call slot t s left (Err (fault.Refused reason)) answer lives same done refused stays is =
    ap (λ (called : Outcome × UploadMap). on_called called (aged slot t) (aged_state t s)) same
    ∙ ap (λ outcome. by_outcome outcome (aged_uploads t (call s.uploads).1) (aged slot t) (aged_state t s)) refused
    ∙ ap (λ a. (a, aged slot t)) (sym is)
    ∙ ap (λ alive. (answer, aged (record slot { alive = alive }) t)) lives
    ∙ ap (λ uploads. (answer, aged (with_alive (with_uploads uploads s) slot) t)) (sym stays)
told_call call slot t s left (Err fault.NoMemory) answer lives same done refused stays is = absurd is

pub runs_of : (slot : Slot) (t number : ℕ) (s : State) (end : Option Answer) → slot.alive ≡ Some s → end ≡ end_at number (aged slot t).alive → end ≡ None → IsRunningAt t number s
runs_of slot t number s end lives is none = runs_at t number s (sym (ap (λ alive. end_at number (aged_alive t alive)) lives) ∙ sym is ∙ none)

-- ---- what a call answers where none runs
pub end_found : (slot : Slot) (t number : ℕ) (s : State) (upload : Upload) → slot.alive ≡ Some s → upload_of number s.uploads ≡ Some upload
    → end_at number (aged slot t).alive ≡ end_answer (aged_upload t upload).state s.settings
unfolding aged_state
end_found slot t number s upload lives at =
    ap (λ alive. end_at number (aged_alive t alive)) lives ∙ ap (λ found. found_end found s.settings) (found_aged t number s.uploads upload at)

pub end_missing : (slot : Slot) (t number : ℕ) (s : State) → slot.alive ≡ Some s → upload_of number s.uploads ≡ None → end_at number (aged slot t).alive ≡ Some (Refused NoUpload)
unfolding aged_state
end_missing slot t number s lives none =
    ap (λ alive. end_at number (aged_alive t alive)) lives ∙ ap (λ found. found_end found s.settings) (none_aged t number s.uploads none)

pub append_ended : (slot : Slot) (number : ℕ) (offset given : Option ℕ) (piece : Whole) (answer : Answer) → end_at number slot.alive ≡ Some answer
    → append_step slot number offset given piece ≡ (answer, slot)
unfolding append_step append_at
append_ended slot number offset given piece answer end =
    none_runs (λ upload. appended upload offset given piece) (append_ends offset given piece) slot number answer slot.alive refl end

append_lives : (slot : Slot) (t number : ℕ) (offset given : Option ℕ) (piece : Whole) (s : State) → slot.alive ≡ Some s
    → append_step (aged slot t) number offset given piece ≡ on_called (append_at number offset given piece (aged_state t s).uploads) (aged slot t) (aged_state t s)
unfolding append_step
append_lives slot t number offset given piece s lives =
    ap (λ alive. on_alive (aged_alive t alive) (aged slot t) (λ s. on_called (append_at number offset given piece s.uploads) (aged slot t) s)) lives

pub append_told : (slot : Slot) (t number : ℕ) (offset given : Option ℕ) (piece : Whole) (s : State) (left : UploadMap) (called : Result Progress UploadFault) (answer : Answer)
    → slot.alive ≡ Some s → IsRunningAt t number s
    → IfOk called (λ told. append_at number offset given piece s.uploads ≡ (answers told, left))
    → IfErr called (λ e. IsRefusedBy e (append_at number offset given piece s.uploads).0) → OnErr called (left ≡ s.uploads) → IsTold called s.settings answer
    → append_step (aged slot t) number offset given piece ≡ (answer, aged (with_alive (with_uploads left s) slot) t)
append_told slot t number offset given piece s left called answer lives runs done refused stays is =
    append_lives slot t number offset given piece s lives
    ∙ told_call (append_at number offset given piece) slot t s left called answer lives
    (append_aged t number offset given piece s.uploads (ap (late_if t) runs.found ∙ runs.early)) done refused stays is

-- what a piece answers on an upload that runs isn't that it is done
under_way : (total : Option ℕ) (content : Whole) → IsUnderWay (progress_of total content)
under_way None content = tt
under_way (Some n) content = by (length (bytes_of content) == n)
  where
    by : (b : Bool) → IsUnderWay (if b then progress.Complete content else progress.Kept (length (bytes_of content)))
    by true = tt
    by false = tt

tested_under_way : (refusal : Option Reason) (upload after : Upload) (told : Progress) → (appended_if refusal upload after).0 ≡ answers told → IsUnderWay told
tested_under_way None upload after told is = subst IsUnderWay (inside is) (under_way after.total after.content)
  where
    inside : answers (progress_of after.total after.content) ≡ answers told → progress_of after.total after.content ≡ told
    inside same = cc
tested_under_way (Some reason) upload after told is = absurd (cc)

pub append_under_way : (number : ℕ) (offset given : Option ℕ) (piece : Whole) (uploads left : UploadMap) (upload : Upload) (told : Progress) → upload_of number uploads ≡ Some upload → upload.state ≡ Running
    → append_at number offset given piece uploads ≡ (answers told, left) → IsUnderWay told
unfolding append_at appended
append_under_way number offset given piece uploads left upload told at is done =
    tested_under_way (piece_refusal upload offset given piece) upload (grown_upload upload offset given piece) told
    (sym (ap (λ found. (called_at found (λ upload. appended upload offset given piece) number uploads).0) at ∙ ap (λ state. (appended_in state upload offset given piece).0) is)
    ∙ ap (λ (called : Outcome × UploadMap). called.0) done)

pub cancel_ended : (slot : Slot) (number : ℕ) (answer : Answer) → end_at number slot.alive ≡ Some answer → cancel_step slot number ≡ (answer, slot)
unfolding cancel_step cancel_at
cancel_ended slot number answer end = none_runs cancelled cancel_ends slot number answer slot.alive refl end

cancel_lives : (slot : Slot) (t number : ℕ) (s : State) → slot.alive ≡ Some s → cancel_step (aged slot t) number ≡ on_called (cancel_at number (aged_state t s).uploads) (aged slot t) (aged_state t s)
unfolding cancel_step
cancel_lives slot t number s lives = ap (λ alive. on_alive (aged_alive t alive) (aged slot t) (λ s. on_called (cancel_at number s.uploads) (aged slot t) s)) lives

pub cancel_told : (slot : Slot) (t number : ℕ) (s : State) (left : UploadMap) (called : Result Progress UploadFault) (answer : Answer)
    → slot.alive ≡ Some s → IsRunningAt t number s
    → IfOk called (λ told. cancel_at number s.uploads ≡ (answers told, left)) → IfErr called (λ e. IsRefusedBy e (cancel_at number s.uploads).0) → OnErr called (left ≡ s.uploads)
    → IsTold called s.settings answer → cancel_step (aged slot t) number ≡ (answer, aged (with_alive (with_uploads left s) slot) t)
cancel_told slot t number s left called answer lives runs done refused stays is =
    cancel_lives slot t number s lives
    ∙ told_call (cancel_at number) slot t s left called answer lives
    (cancel_aged t number s.uploads (ap (late_if t) runs.found ∙ runs.early)) done refused stays is

pub cancel_under_way : (number : ℕ) (uploads left : UploadMap) (upload : Upload) (told : Progress) → upload_of number uploads ≡ Some upload → upload.state ≡ Running
    → cancel_at number uploads ≡ (answers told, left) → IsUnderWay told
unfolding cancel_at cancelled
cancel_under_way number uploads left upload told at is done =
    subst IsUnderWay
    (inside (sym (ap (λ found. (called_at found cancelled number uploads).0) at ∙ ap (λ state. (cancelled_in state upload).0) is) ∙ ap (λ (called : Outcome × UploadMap). called.0) done)) tt
  where
    inside : answers progress.Stopped ≡ answers told → progress.Stopped ≡ told
    inside same = cc

-- ---- the start
pub start_dead : (slot : Slot) (t : ℕ) (name : List ℕ) (pre : Pre) (meta : Meta) (expect : Expect) (total : Option ℕ) → slot.alive ≡ None
    → start_step (aged slot t) t name pre meta expect total ≡ (Refused NoBucket, aged slot t)
unfolding start_step
start_dead slot t name pre meta expect total dead = rw dead refl

-- whether a bucket is alive
pub none_alive : (alive : Option Fields) → is_some alive ≡ false → alive_of alive ≡ None
none_alive None e = refl
none_alive (Some b) e = absurd (cc)

pub some_alive : (alive : Option Fields) → is_some alive ≡ true → (s : State) × (alive_of alive ≡ Some s)
some_alive None e = absurd (cc)
some_alive (Some b) e = (state_of b, refl)

-- an upload that begins at t isn't late then
begins : (t start : ℕ) (past : Bool) → start ≡ t → nat_le (start + upload_time) t ≡ past → past ≡ false
begins t start false is e = refl
begins t start true is e = absurd (omega (arith, leb-true (start + upload_time) t e, is))

pub start_made : (slot now : Slot) (t : ℕ) (name : List ℕ) (pre : Pre) (meta : Meta) (expect : Expect) (total : Option ℕ) (s : State) (upload : Upload) → slot.alive ≡ Some s
    → upload ≡ new_upload t name pre meta expect total → now ≡ on_bucket (λ s. start_state s slot.next_upload upload) slot
    → start_step (aged slot t) t name pre meta expect total ≡ (Started slot.next_upload, aged (record now { next_upload = slot.next_upload + 1 }) t)
unfolding start_step aged_state
start_made slot now t name pre meta expect total s upload lives made now-is =
    let begun : Upload = new_upload t name pre meta expect total in
    let after : UploadMap → Answer × Slot = λ uploads. (Started slot.next_upload, record (aged slot t) { alive = Some (with_uploads uploads (aged_state t s)); next_upload = slot.next_upload + 1 }) in
    ap (λ alive. on_alive (aged_alive t alive) (aged slot t) (λ s. with_started (aged slot t) s begun)) lives
    ∙ ap after (start_aged t slot.next_upload begun s.uploads (begins t t (nat_le (t + upload_time) t) refl refl))
    ∙ ap (λ (upload : Upload). after (aged_uploads t (insert_entry nat_cmp s.uploads slot.next_upload upload))) (sym made)
    ∙ ap (λ alive. (Started slot.next_upload, aged (record slot { alive = option_map (λ s. start_state s slot.next_upload upload) alive; next_upload = slot.next_upload + 1 }) t)) (sym lives)
    ∙ ap (λ (slot' : Slot). (Started slot.next_upload, aged (record slot' { next_upload = slot.next_upload + 1 }) t)) (sym now-is)

-- no upload has the next number
free_from : (next : ℕ) (uploads : UploadMap) → AreBelow next uploads → upload_of next uploads ≡ None
free_from next [] h = refl
free_from next (numbered ∷ uploads) h =
    let other : is_number next numbered.0 ≡ false = ap is_eq (sym (nat_cmp_is next numbered.0 Greater h.0)) in
    ap (λ b. cond b (Some numbered.1) (upload_of next uploads)) other ∙ free_from next uploads h.1

pub free_next : (slot : Slot) → IfSome slot.alive (λ s. AreBelow slot.next_upload s.uploads) → IfSome slot.alive (λ s. upload_of slot.next_upload s.uploads ≡ None)
free_next slot h = by slot.alive h
  where
    by : (alive : Option State) → IfSome alive (λ s. AreBelow slot.next_upload s.uploads) → IfSome alive (λ s. upload_of slot.next_upload s.uploads ≡ None)
    by None h = h
    by (Some s) h = free_from slot.next_upload s.uploads h
