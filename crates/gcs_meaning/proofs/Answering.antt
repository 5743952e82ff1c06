-- Each command gets an answer of its kind, and an answer is found by its entry's numbers.
use Rattle.std.proofs.Common.{◌≡◌, ℕ, Bool, true, false, List, [], ◌∷◌, ◌++◌, Option, Some, None, length, refl, ap, sym, subst, ◌∙◌, eq-eqb, arith}
use Rattle.std.specs.Prelude.{◌==◌, ◌&&◌, if◌then◌else◌}
use Rattle.std.specs.List.{AllByRecursion}
use Rattle.gcs_chunks.specs.Content.{Whole, bytes_of}
use Rattle.gcs_meaning.specs.declared.reason.Reason.{Reason}
use Rattle.gcs_meaning.specs.declared.settings.Settings.{Settings}
use Rattle.gcs_meaning.specs.declared.uploading.Progress.{Progress}
use Rattle.gcs_meaning.specs.declared.uploading.Progress.TheVariants.{Kept, Complete}
use Rattle.gcs_meaning.specs.declared.uploading.Upload.{Upload}
use Rattle.gcs_meaning.specs.declared.uploading.UploadState.{UploadState}
use Rattle.gcs_meaning.specs.declared.uploading.UploadState.TheVariants.{Running, Done, Cancelled, Expired}
use Rattle.gcs_meaning.specs.declared.command.Answer.{Answer}
use Rattle.gcs_meaning.specs.declared.command.Command.{Command}
use Rattle.gcs_meaning.specs.declared.command.Command.TheVariants.{BucketInsert, BucketList, BucketGet, BucketChange, BucketDelete, BucketLock, BucketRestore, List as Listing, Get, Change, Delete, Put, Compose, Restore, Start, Append, Finish, Cancel}
use Rattle.gcs_meaning.specs.declared.command.Entry.{Entry}
use Rattle.gcs_meaning.specs.Moment.{effective_moment}
use Rattle.gcs_meaning.specs.Slot.{Slot, fresh_slot}
use Rattle.gcs_meaning.specs.Aging.{aged}
use Rattle.gcs_meaning.specs.Uploads.{UploadMap, Outcome, answers, refuses, called_at, upload_of}
use Rattle.gcs_meaning.specs.UploadCalls.{answer_by}
use Rattle.gcs_meaning.specs.Append.{progress_of, piece_refusal, grown_upload, appended_if, appended_in, appended, append_at}
use Rattle.gcs_meaning.specs.Cancel.{cancelled_in, cancelled, cancel_at}
use Rattle.gcs_meaning.specs.Step.{step, command_step}
use Rattle.gcs_meaning.specs.History.{Slots, bucket_of, first_step, slot_step, slot_of, unnamed_answer, named_step, shard_step, replay_from, replay, is_entry, answer_from, answer_at, AreDistinct}
use Rattle.gcs_meaning.specs.Laws.{is_answer_to, AnswersFit}
use Rattle.gcs_meaning.proofs.Cases.{insert_cases, bucket_get_cases, bucket_change_cases, bucket_delete_cases, bucket_lock_cases, bucket_restore_cases, list_cases, get_cases, change_cases, delete_cases, put_cases, compose_cases, restore_cases, start_cases, append_cases, finish_cases, cancel_cases}

-- what a command answers is of its kind
abbrev IsKind : Command → Answer × Slot → Type 0
IsKind command done = is_answer_to command done.0 ≡ true

-- a piece isn't answered by the end of its upload, and a cancelling not by what is kept
abbrev AnswersKind : Command → Outcome → Type 0
AnswersKind command (refuses reason) = Unit {0}
AnswersKind command (answers progress) = (settings : Settings) → is_answer_to command (answer_by progress settings) ≡ true

kind_of : (command : Command) (outcome : Outcome) (progress : Progress) → outcome ≡ answers progress → AnswersKind command outcome
    → (settings : Settings) → is_answer_to command (answer_by progress settings) ≡ true
kind_of command outcome progress is h = subst (AnswersKind command) is h

called_kind : (command : Command) (found : Option Upload) (call : Upload → Outcome × Upload) (number : ℕ) (uploads : UploadMap) → ((upload : Upload) → AnswersKind command (call upload).0)
    → AnswersKind command (called_at found call number uploads).0
called_kind command None call number uploads each = tt
called_kind command (Some upload) call number uploads each = each upload

module _ (bucket : List ℕ) (number : ℕ) (offset given : Option ℕ) (piece : Whole) where
  progress_kind : (total : Option ℕ) (content : Whole) → AnswersKind (Append bucket number offset given piece) (answers (progress_of total content))
  progress_kind None content settings = refl
  progress_kind (Some total) content settings = by (length (bytes_of content) == total)
    where
      by : (b : Bool) → is_answer_to (Append bucket number offset given piece) (answer_by (if b then Complete content else Kept (length (bytes_of content))) settings) ≡ true
      by true = refl
      by false = refl

  appended_if_kind : (refusal : Option Reason) (upload after : Upload) → AnswersKind (Append bucket number offset given piece) (appended_if refusal upload after).0
  appended_if_kind (Some reason) upload after = tt
  appended_if_kind None upload after = progress_kind after.total after.content

  appended_in_kind : (state : UploadState) (upload : Upload) → AnswersKind (Append bucket number offset given piece) (appended_in state upload offset given piece).0
  appended_in_kind Running upload = appended_if_kind (piece_refusal upload offset given piece) upload (grown_upload upload offset given piece)
  appended_in_kind (Done row) upload = λ settings. refl
  appended_in_kind Cancelled upload = tt
  appended_in_kind Expired upload = tt

  append_kind : (uploads : UploadMap) → AnswersKind (Append bucket number offset given piece) (append_at number offset given piece uploads).0
  unfolding append_at appended
  append_kind uploads =
      called_kind (Append bucket number offset given piece) (upload_of number uploads) (λ upload. appended upload offset given piece) number uploads
      (λ upload. appended_in_kind upload.state upload)

cancelled_in_kind : (bucket : List ℕ) (number : ℕ) (state : UploadState) (upload : Upload) → AnswersKind (Cancel bucket number) (cancelled_in state upload).0
cancelled_in_kind bucket number Running upload = λ settings. refl
cancelled_in_kind bucket number (Done row) upload = λ settings. refl
cancelled_in_kind bucket number Cancelled upload = tt
cancelled_in_kind bucket number Expired upload = tt

cancel_kind : (bucket : List ℕ) (number : ℕ) (uploads : UploadMap) → AnswersKind (Cancel bucket number) (cancel_at number uploads).0
unfolding cancel_at cancelled
cancel_kind bucket number uploads =
    called_kind (Cancel bucket number) (upload_of number uploads) cancelled number uploads (λ upload. cancelled_in_kind bucket number upload.state upload)

command_kind : (command : Command) (slot : Slot) (t : ℕ) → is_answer_to command (command_step slot t command).0 ≡ true
command_kind (BucketInsert bucket settings) slot t = insert_cases (IsKind (BucketInsert bucket settings)) slot t bucket settings (λ reason. refl) (λ free. refl)
command_kind (BucketList shard prefix after most) slot t = refl
command_kind (BucketGet bucket pre) slot t = bucket_get_cases (IsKind (BucketGet bucket pre)) slot bucket pre (λ reason. refl) (λ s. refl)
command_kind (BucketChange bucket pre change whole) slot t =
    bucket_change_cases (IsKind (BucketChange bucket pre change whole)) slot t bucket pre change whole (λ reason. refl) (λ s is passed. refl)
command_kind (BucketDelete bucket pre) slot t = bucket_delete_cases (IsKind (BucketDelete bucket pre)) slot t pre (λ reason. refl) (λ s is passed. refl)
command_kind (BucketLock bucket pre) slot t = bucket_lock_cases (IsKind (BucketLock bucket pre)) slot t bucket pre (λ reason. refl) (λ s is. refl)
command_kind (BucketRestore bucket generation) slot t =
    bucket_restore_cases (IsKind (BucketRestore bucket generation)) slot t bucket generation (λ reason. refl) (λ g found free. refl)
command_kind (Listing bucket query) slot t = list_cases (IsKind (Listing bucket query)) slot query (λ reason. refl) (λ s. refl)
command_kind (Get bucket name generation soft pre) slot t =
    get_cases (IsKind (Get bucket name generation soft pre)) slot name generation soft pre (λ reason. refl) (λ row settings. refl)
command_kind (Change bucket name generation pre change whole) slot t =
    change_cases (IsKind (Change bucket name generation pre change whole)) slot t name generation pre change whole (λ reason. refl) (λ s row is found. refl)
command_kind (Delete bucket name generation pre) slot t =
    delete_cases (IsKind (Delete bucket name generation pre)) slot t name generation pre (λ reason. refl) (λ s row is found passed. refl)
command_kind (Put bucket name pre meta hashed components expect) slot t =
    put_cases (IsKind (Put bucket name pre meta hashed components expect)) slot t name pre meta hashed components expect (λ reason. refl)
    (λ s name pre meta hashed components expect is passed. refl)
command_kind (Compose bucket name pre meta parts) slot t =
    compose_cases (IsKind (Compose bucket name pre meta parts)) slot t name pre meta parts (λ reason. refl) (λ s name pre meta hashed components expect is passed. refl)
command_kind (Restore bucket name generation pre) slot t =
    restore_cases (IsKind (Restore bucket name generation pre)) slot t name generation pre (λ reason. refl) (λ s name pre meta hashed components expect is passed. refl)
command_kind (Start bucket name pre meta expect total) slot t =
    start_cases (IsKind (Start bucket name pre meta expect total)) slot t name pre meta expect total (λ reason. refl) (λ s is. refl)
command_kind (Append bucket number offset given piece) slot t =
    append_cases (IsKind (Append bucket number offset given piece)) slot number offset given piece (λ reason. refl)
    (λ s progress is answered. kind_of (Append bucket number offset given piece) _ progress answered (append_kind bucket number offset given piece s.uploads) s.settings)
command_kind (Finish bucket number hashed) slot t =
    finish_cases (IsKind (Finish bucket number hashed)) slot t number (λ reason. refl)
    (record { keeps = λ n. refl; was_done = λ s upload row is found ended. refl; makes = λ s upload is found runs passed. refl })
command_kind (Cancel bucket number) slot t =
    cancel_cases (IsKind (Cancel bucket number)) slot number (λ reason. refl)
    (λ s progress is answered. kind_of (Cancel bucket number) _ progress answered (cancel_kind bucket number s.uploads) s.settings)

step_kind : (slot : Slot) (moment : ℕ) (command : Command) → is_answer_to command (step slot moment command).0 ≡ true
step_kind slot moment command =
    let t : ℕ = effective_moment slot.last_moment moment in
    command_kind command (aged slot t) t

-- a command on a name without a slot
first_kind : (command : Command) (name : List ℕ) (slots : Slots) (moment : ℕ) → is_answer_to command (first_step name slots moment command).0 ≡ true
first_kind (BucketInsert bucket settings) name slots moment = step_kind fresh_slot moment (BucketInsert bucket settings)
first_kind (BucketRestore bucket generation) name slots moment = refl
first_kind _ name slots moment = refl

slot_kind : (found : Option Slot) (name : List ℕ) (slots : Slots) (moment : ℕ) (command : Command) → is_answer_to command (slot_step found name slots moment command).0 ≡ true
slot_kind (Some slot) name slots moment command = step_kind slot moment command
slot_kind None name slots moment command = first_kind command name slots moment

-- a command that names no bucket
unnamed_kind : (command : Command) (slots : Slots) → is_answer_to command (unnamed_answer slots command) ≡ true
unnamed_kind (BucketList shard prefix after most) slots = refl
unnamed_kind _ slots = refl

named_kind : (named : Option (List ℕ)) (slots : Slots) (moment : ℕ) (command : Command) → is_answer_to command (named_step named slots moment command).0 ≡ true
named_kind (Some name) slots moment command = slot_kind (slot_of name slots) name slots moment command
named_kind None slots moment command = unnamed_kind command slots

shard_kind : (command : Command) (slots : Slots) (moment : ℕ) → is_answer_to command (shard_step slots moment command).0 ≡ true
unfolding shard_step
shard_kind command slots moment = named_kind (bucket_of command) slots moment command

-- an entry before this one has other numbers, so that the search goes on
passes : (a b c d : ℕ) → ((c == a) && (d == b)) ≡ false → ((a == c) && (b == d)) ≡ false
passes a b c d h = grind arith

head_of : (before : List Entry) (e : Entry) (after : List Entry) (P : Entry → Type 0) → AllByRecursion P (before ++ e ∷ after) → P e
head_of [] e after P h = h.0
head_of (b ∷ before) e after P h = head_of before e after P h.1

found_from : (slots : Slots) (before : List Entry) (e : Entry) (after : List Entry) → AreDistinct (before ++ e ∷ after)
    → answer_from slots (before ++ e ∷ after) e.caller e.number ≡ Some (shard_step (replay_from slots before) e.moment e.command).0
found_from slots [] e after apart = rw (eq-eqb e.caller e.caller refl, eq-eqb e.number e.number refl) refl
found_from slots (b ∷ before) e after apart =
    let other : is_entry b.caller b.number e ≡ false = head_of before e after (λ f. is_entry b.caller b.number f ≡ false) apart.0 in
    let on : is_entry e.caller e.number b ≡ false = passes b.caller b.number e.caller e.number other in
    ap (λ (t : Bool). if t then Some (shard_step slots b.moment b.command).0 else answer_from (shard_step slots b.moment b.command).1 (before ++ e ∷ after) e.caller e.number) on
    ∙ found_from (shard_step slots b.moment b.command).1 before e after apart.1

pub answers_fit : AnswersFit
answers_fit = record {
  kinds = λ before moment command. shard_kind command (replay before) moment;
  found = λ history caller number moment command a apart at.
      let e : Entry = record { caller = caller; number = number; moment = moment; command = command } in
      let whole : history ≡ at.0 ++ e ∷ at.1 = at.2 in
      ap (λ h. answer_at h caller number) whole ∙ found_from [] at.0 e at.1 (subst AreDistinct whole apart) ∙ ap Some (sym at.3);
}
