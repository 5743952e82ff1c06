-- What a command answers and leaves: a refusal and the slot as it is, or what it does where all its tests pass.
use Rattle.std.proofs.Common.{◌≡◌, ℕ, Bool, true, false, List, Option, Some, None, refl}
use Rattle.std.specs.Prelude.{is_some, if◌then◌else◌}
use Rattle.gcs_chunks.specs.Content.{Whole}
use Rattle.gcs_meaning.specs.declared.changes.MetaChange.{MetaChange}
use Rattle.gcs_meaning.specs.declared.changes.SettingsChange.{SettingsChange}
use Rattle.gcs_meaning.specs.declared.listing.PageQuery.{PageQuery}
use Rattle.gcs_meaning.specs.declared.settings.Meta.{Meta}
use Rattle.gcs_meaning.specs.declared.settings.Pre.{Pre}
use Rattle.gcs_meaning.specs.declared.settings.Settings.{Settings}
use Rattle.gcs_meaning.specs.declared.version.Expect.{Expect}
use Rattle.gcs_meaning.specs.declared.version.Part.{Part}
use Rattle.gcs_meaning.specs.declared.version.Row.{Row}
use Rattle.gcs_meaning.specs.declared.uploading.Progress.{Progress}
use Rattle.gcs_meaning.specs.declared.uploading.Upload.{Upload}
use Rattle.gcs_meaning.specs.declared.uploading.UploadState.{UploadState}
use Rattle.gcs_meaning.specs.declared.uploading.UploadState.TheVariants.{Running, Done, Cancelled, Expired}
use Rattle.gcs_meaning.specs.declared.reason.Reason.{Reason}
use Rattle.gcs_meaning.specs.declared.reason.Reason.TheVariants.{NoBucket, NoGrave, NoObject, NoUpload, Gone}
use Rattle.gcs_meaning.specs.declared.command.Answer.{Answer}
use Rattle.gcs_meaning.specs.declared.command.Answer.TheVariants.{Refused, Bucket, Empty, Kept, Object, Page as Paged}
use Rattle.gcs_meaning.specs.Content.{Digested}
use Rattle.gcs_meaning.specs.Moment.{next_generation}
use Rattle.gcs_meaning.specs.Slot.{State, Grave, Slot, bucket_row, with_alive}
use Rattle.gcs_meaning.specs.Uploads.{UploadMap, Outcome, answers, refuses, kept_of, upload_of}
use Rattle.gcs_meaning.specs.Outcomes.{on_alive, on_found, unless}
use Rattle.gcs_meaning.specs.Policy.{bucket_pre_refusal, pre_refusal}
use Rattle.gcs_meaning.specs.Choosing.{asked_row, chosen_row, live_row}
use Rattle.gcs_meaning.specs.Insertion.{exists_refusal, new_state, with_bucket, insert_step}
use Rattle.gcs_meaning.specs.BucketGet.{bucket_get_step}
use Rattle.gcs_meaning.specs.BucketChange.{changed_settings, bucket_change_refusal, bucket_change_state, bucket_change_step}
use Rattle.gcs_meaning.specs.BucketDeletion.{bucket_delete_refusal, buried, bucket_delete_step}
use Rattle.gcs_meaning.specs.Listing.{page_of, list_step}
use Rattle.gcs_meaning.specs.Get.{get_step}
use Rattle.gcs_meaning.specs.ObjectChange.{changed_meta, change_refusal, changed_row, change_state, change_step}
use Rattle.gcs_meaning.specs.ObjectDeletion.{delete_refusal, delete_state, delete_step}
use Rattle.gcs_meaning.specs.BucketLock.{bucket_lock_refusal, locked_settings, bucket_lock_step}
use Rattle.gcs_meaning.specs.BucketRestore.{grave_found, on_grave, restored_state, unburied, bucket_restore_step}
use Rattle.gcs_meaning.specs.Put.{no_expect, put_refusal, put_on, put_step, new_row, with_version}
use Rattle.gcs_meaning.specs.Compose.{Composed, joins, lacks, composed, composed_content, compose_put, compose_step}
use Rattle.gcs_meaning.specs.Restore.{restored_meta, restore_step}
use Rattle.gcs_meaning.specs.UploadCalls.{on_upload, answer_by, with_uploads, by_outcome}
use Rattle.gcs_meaning.specs.Start.{new_upload, with_started, start_step}
use Rattle.gcs_meaning.specs.Append.{append_at, append_step}
use Rattle.gcs_meaning.specs.Finish.{digested_of, is_total, finish_row, done_state, finish_in, finish_step}
use Rattle.gcs_meaning.specs.Cancel.{cancel_at, cancel_step}

-- a fact of a refusal, with the slot as it is
abbrev pub IfRefused : (Answer × Slot → Type 0) → Slot → Type 0
IfRefused P slot = (reason : Reason) → P (Refused reason, slot)

-- the three words of which the commands are made
pub alive_cases : (P : Answer × Slot → Type 0) (alive : Option State) (slot : Slot) (does : State → Answer × Slot) → IfRefused P slot
    → ((s : State) → alive ≡ Some s → P (does s)) → P (on_alive alive slot does)
alive_cases P None slot does refused done = refused NoBucket
alive_cases P (Some s) slot does refused done = done s refl

pub found_cases : (P : Answer × Slot → Type 0) (found : Option Row) (slot : Slot) (does : Row → Answer × Slot) → IfRefused P slot
    → ((row : Row) → found ≡ Some row → P (does row)) → P (on_found found slot does)
found_cases P None slot does refused done = refused NoObject
found_cases P (Some row) slot does refused done = done row refl

pub unless_cases : (P : Answer × Slot → Type 0) (refusal : Option Reason) (slot : Slot) (does : Answer × Slot) → IfRefused P slot
    → (refusal ≡ None → P does) → P (unless refusal slot does)
unless_cases P (Some reason) slot does refused done = refused reason
unless_cases P None slot does refused done = done refl

-- the insert of a bucket
name_free : (alive : Option State) → exists_refusal alive ≡ None → alive ≡ None
name_free None free = refl
name_free (Some s) free = cc

pub insert_cases : (P : Answer × Slot → Type 0) (slot : Slot) (t : ℕ) (name : List ℕ) (settings : Settings) → IfRefused P slot
    → (slot.alive ≡ None → P (with_bucket slot name (new_state settings t (next_generation t slot.last_bucket)))) → P (insert_step slot t name settings)
unfolding insert_step
insert_cases P slot t name settings refused done =
    unless_cases P (exists_refusal slot.alive) slot _ refused (λ free. done (name_free slot.alive free))

-- the read of a bucket
pub bucket_get_cases : (P : Answer × Slot → Type 0) (slot : Slot) (name : List ℕ) (pre : Pre) → IfRefused P slot
    → ((s : State) → P (Bucket (bucket_row name s), slot)) → P (bucket_get_step slot name pre)
unfolding bucket_get_step
bucket_get_cases P slot name pre refused done =
    alive_cases P slot.alive slot _ refused (λ s is. unless_cases P (bucket_pre_refusal pre s.metageneration) slot _ refused (λ passed. done s))

-- the change of a bucket
abbrev pub IfBucketChanged : (Answer × Slot → Type 0) → Slot → ℕ → List ℕ → Pre → SettingsChange → Bool → Type 0
IfBucketChanged P slot t name pre change whole =
    (s : State) → slot.alive ≡ Some s → bucket_change_refusal pre whole change s ≡ None
    → P (Bucket (bucket_row name (bucket_change_state s t (changed_settings t whole change s.settings))), with_alive (bucket_change_state s t (changed_settings t whole change s.settings)) slot)

pub bucket_change_cases : (P : Answer × Slot → Type 0) (slot : Slot) (t : ℕ) (name : List ℕ) (pre : Pre) (change : SettingsChange) (whole : Bool) → IfRefused P slot
    → IfBucketChanged P slot t name pre change whole → P (bucket_change_step slot t name pre change whole)
unfolding bucket_change_step
bucket_change_cases P slot t name pre change whole refused done =
    alive_cases P slot.alive slot _ refused (λ s is. unless_cases P (bucket_change_refusal pre whole change s) slot _ refused (done s is))

-- the deletion of a bucket
abbrev pub IfBucketDeleted : (Answer × Slot → Type 0) → Slot → ℕ → Pre → Type 0
IfBucketDeleted P slot t pre = (s : State) → slot.alive ≡ Some s → bucket_delete_refusal pre s ≡ None → P (Empty, buried slot t s)

pub bucket_delete_cases : (P : Answer × Slot → Type 0) (slot : Slot) (t : ℕ) (pre : Pre) → IfRefused P slot
    → IfBucketDeleted P slot t pre → P (bucket_delete_step slot t pre)
unfolding bucket_delete_step
bucket_delete_cases P slot t pre refused done =
    alive_cases P slot.alive slot _ refused (λ s is. unless_cases P (bucket_delete_refusal pre s) slot _ refused (done s is))

-- the list of a bucket's versions
pub list_cases : (P : Answer × Slot → Type 0) (slot : Slot) (query : PageQuery) → IfRefused P slot
    → ((s : State) → P (Paged (page_of s.settings query s.rows), slot)) → P (list_step slot query)
unfolding list_step
list_cases P slot query refused done = alive_cases P slot.alive slot _ refused (λ s is. done s)

-- the read of a version
pub get_cases : (P : Answer × Slot → Type 0) (slot : Slot) (name : List ℕ) (generation : Option ℕ) (soft : Bool) (pre : Pre) → IfRefused P slot
    → ((row : Row) (settings : Settings) → P (Object row settings, slot)) → P (get_step slot name generation soft pre)
unfolding get_step
get_cases P slot name generation soft pre refused done =
    alive_cases P slot.alive slot _ refused (λ s is. found_cases P (asked_row soft name generation s.rows) slot _ refused (λ row found.
    unless_cases P (pre_refusal pre row.generation row.metageneration) slot _ refused (λ passed. done row s.settings)))

-- the change of a version
abbrev pub IfChanged : (Answer × Slot → Type 0) → Slot → ℕ → List ℕ → Option ℕ → MetaChange → Bool → Type 0
IfChanged P slot t name generation change whole =
    (s : State) (row : Row) → slot.alive ≡ Some s → chosen_row name generation s.rows ≡ Some row
    → P (Object (changed_row t (changed_meta whole change row.meta) row) s.settings, with_alive (change_state s name generation (changed_row t (changed_meta whole change row.meta) row)) slot)

pub change_cases : (P : Answer × Slot → Type 0) (slot : Slot) (t : ℕ) (name : List ℕ) (generation : Option ℕ) (pre : Pre) (change : MetaChange) (whole : Bool) → IfRefused P slot
    → IfChanged P slot t name generation change whole → P (change_step slot t name generation pre change whole)
unfolding change_step
change_cases P slot t name generation pre change whole refused done =
    alive_cases P slot.alive slot _ refused (λ s is. found_cases P (chosen_row name generation s.rows) slot _ refused (λ row found.
    unless_cases P (change_refusal pre row (changed_meta whole change row.meta)) slot _ refused (λ passed. done s row is found)))

-- the deletion of a version
abbrev pub IfDeleted : (Answer × Slot → Type 0) → Slot → ℕ → List ℕ → Option ℕ → Pre → Type 0
IfDeleted P slot t name generation pre =
    (s : State) (row : Row) → slot.alive ≡ Some s → chosen_row name generation s.rows ≡ Some row
    → delete_refusal s.settings t (is_some generation) pre row ≡ None → P (Empty, with_alive (delete_state s t name generation) slot)

pub delete_cases : (P : Answer × Slot → Type 0) (slot : Slot) (t : ℕ) (name : List ℕ) (generation : Option ℕ) (pre : Pre) → IfRefused P slot
    → IfDeleted P slot t name generation pre → P (delete_step slot t name generation pre)
unfolding delete_step
delete_cases P slot t name generation pre refused done =
    alive_cases P slot.alive slot _ refused (λ s is. found_cases P (chosen_row name generation s.rows) slot _ refused (λ row found.
    unless_cases P (delete_refusal s.settings t (is_some generation) pre row) slot _ refused (done s row is found)))

-- the lock of a bucket's policy
abbrev pub IfBucketLocked : (Answer × Slot → Type 0) → Slot → ℕ → List ℕ → Type 0
IfBucketLocked P slot t name =
    (s : State) → slot.alive ≡ Some s
    → P (Bucket (bucket_row name (bucket_change_state s t (locked_settings s.settings))), with_alive (bucket_change_state s t (locked_settings s.settings)) slot)

pub bucket_lock_cases : (P : Answer × Slot → Type 0) (slot : Slot) (t : ℕ) (name : List ℕ) (pre : Pre) → IfRefused P slot
    → IfBucketLocked P slot t name → P (bucket_lock_step slot t name pre)
unfolding bucket_lock_step
bucket_lock_cases P slot t name pre refused done =
    alive_cases P slot.alive slot _ refused (λ s is. unless_cases P (bucket_lock_refusal pre s) slot _ refused (λ passed. done s is))

-- the restore of a bucket
grave_cases : (P : Answer × Slot → Type 0) (found : Option Grave) (slot : Slot) (does : Grave → Answer × Slot) → IfRefused P slot
    → ((g : Grave) → found ≡ Some g → P (does g)) → P (on_grave found slot does)
grave_cases P None slot does refused done = refused NoGrave
grave_cases P (Some g) slot does refused done = done g refl

abbrev pub IfBucketRestored : (Answer × Slot → Type 0) → Slot → ℕ → List ℕ → ℕ → Type 0
IfBucketRestored P slot t name generation =
    (g : Grave) → grave_found generation slot.graves ≡ Some g → slot.alive ≡ None
    → P (Bucket (bucket_row name (restored_state t g.state)), unburied slot generation (restored_state t g.state))

pub bucket_restore_cases : (P : Answer × Slot → Type 0) (slot : Slot) (t : ℕ) (name : List ℕ) (generation : ℕ) → IfRefused P slot
    → IfBucketRestored P slot t name generation → P (bucket_restore_step slot t name generation)
unfolding bucket_restore_step
bucket_restore_cases P slot t name generation refused done =
    grave_cases P (grave_found generation slot.graves) slot _ refused (λ g found.
    unless_cases P (exists_refusal slot.alive) slot _ refused (λ free. done g found (name_free slot.alive free)))

-- the put of a version, by whichever command
abbrev pub IfMade : (Answer × Slot → Type 0) → Slot → ℕ → Type 0
IfMade P slot t =
    (s : State) (name : List ℕ) (pre : Pre) (meta : Meta) (hashed : Digested) (components : Option ℕ) (expect : Expect)
    → slot.alive ≡ Some s → put_refusal s.settings t pre expect hashed (live_row name s.rows) ≡ None
    → P (with_version slot s t (new_row s.settings t (next_generation t slot.last_object) name meta hashed components))

made_cases : (P : Answer × Slot → Type 0) (s : State) (slot : Slot) (t : ℕ) (name : List ℕ) (pre : Pre) (meta : Meta) (hashed : Digested) (components : Option ℕ) (expect : Expect)
    → slot.alive ≡ Some s → IfRefused P slot → IfMade P slot t → P (put_on s slot t name pre meta hashed components expect)
made_cases P s slot t name pre meta hashed components expect is refused made =
    unless_cases P (put_refusal s.settings t pre expect hashed (live_row name s.rows)) slot _ refused
    (λ passed. made s name pre meta hashed components expect is passed)

pub put_cases : (P : Answer × Slot → Type 0) (slot : Slot) (t : ℕ) (name : List ℕ) (pre : Pre) (meta : Meta) (hashed : Digested) (components : Option ℕ) (expect : Expect) → IfRefused P slot
    → IfMade P slot t → P (put_step slot t name pre meta hashed components expect)
unfolding put_step
put_cases P slot t name pre meta hashed components expect refused made =
    alive_cases P slot.alive slot _ refused (λ s is. made_cases P s slot t name pre meta hashed components expect is refused made)

-- the compose of a version
composed_cases : (P : Answer × Slot → Type 0) (made : Composed) (s : State) (slot : Slot) (t : ℕ) (name : List ℕ) (pre : Pre) (meta : Meta)
    → slot.alive ≡ Some s → IfRefused P slot → IfMade P slot t → P (compose_put made s slot t name pre meta)
composed_cases P (lacks reason) s slot t name pre meta is refused made = refused reason
composed_cases P (joins content count) s slot t name pre meta is refused made =
    made_cases P s slot t name pre meta (composed_content content) (Some count) no_expect is refused made

pub compose_cases : (P : Answer × Slot → Type 0) (slot : Slot) (t : ℕ) (name : List ℕ) (pre : Pre) (meta : Meta) (parts : List Part) → IfRefused P slot
    → IfMade P slot t → P (compose_step slot t name pre meta parts)
unfolding compose_step
compose_cases P slot t name pre meta parts refused made =
    alive_cases P slot.alive slot _ refused (λ s is. composed_cases P (composed s.rows parts) s slot t name pre meta is refused made)

-- the restore of a version
pub restore_cases : (P : Answer × Slot → Type 0) (slot : Slot) (t : ℕ) (name : List ℕ) (generation : ℕ) (pre : Pre) → IfRefused P slot
    → IfMade P slot t → P (restore_step slot t name generation pre)
unfolding restore_step
restore_cases P slot t name generation pre refused made =
    alive_cases P slot.alive slot _ refused (λ s is. found_cases P (asked_row true name (Some generation) s.rows) slot _ refused (λ row found.
    made_cases P s slot t name pre (restored_meta row.meta) row.hashed row.components no_expect is refused made))

-- the start of an upload
pub start_cases : (P : Answer × Slot → Type 0) (slot : Slot) (t : ℕ) (name : List ℕ) (pre : Pre) (meta : Meta) (expect : Expect) (total : Option ℕ) → IfRefused P slot
    → ((s : State) → slot.alive ≡ Some s → P (with_started slot s (new_upload t name pre meta expect total))) → P (start_step slot t name pre meta expect total)
unfolding start_step
start_cases P slot t name pre meta expect total refused done = alive_cases P slot.alive slot _ refused done

-- a call on an upload: what it answers, and the uploads that it leaves
abbrev pub IfCalled : (Answer × Slot → Type 0) → Slot → (UploadMap → Outcome × UploadMap) → Type 0
IfCalled P slot call =
    (s : State) (progress : Progress) → slot.alive ≡ Some s → (call s.uploads).0 ≡ answers progress
    → P (answer_by progress s.settings, with_alive (with_uploads (call s.uploads).1 s) slot)

outcome_cases : (P : Answer × Slot → Type 0) (outcome : Outcome) (uploads : UploadMap) (s : State) (slot : Slot) → IfRefused P slot
    → ((progress : Progress) → outcome ≡ answers progress → P (answer_by progress s.settings, with_alive (with_uploads uploads s) slot))
    → P (by_outcome outcome uploads slot s)
outcome_cases P (refuses reason) uploads s slot refused done = refused reason
outcome_cases P (answers progress) uploads s slot refused done = done progress refl

pub append_cases : (P : Answer × Slot → Type 0) (slot : Slot) (number : ℕ) (offset given : Option ℕ) (piece : Whole) → IfRefused P slot
    → IfCalled P slot (append_at number offset given piece) → P (append_step slot number offset given piece)
unfolding append_step
append_cases P slot number offset given piece refused done =
    alive_cases P slot.alive slot _ refused (λ s is.
    outcome_cases P (append_at number offset given piece s.uploads).0 (append_at number offset given piece s.uploads).1 s slot refused
    (λ progress answered. done s progress is answered))

pub cancel_cases : (P : Answer × Slot → Type 0) (slot : Slot) (number : ℕ) → IfRefused P slot
    → IfCalled P slot (cancel_at number) → P (cancel_step slot number)
unfolding cancel_step
cancel_cases P slot number refused done =
    alive_cases P slot.alive slot _ refused (λ s is.
    outcome_cases P (cancel_at number s.uploads).0 (cancel_at number s.uploads).1 s slot refused
    (λ progress answered. done s progress is answered))

-- the finish of an upload: what it keeps, the version that it made before, or the one that it makes
upload_cases : (P : Answer × Slot → Type 0) (found : Option Upload) (slot : Slot) (does : Upload → Answer × Slot) → IfRefused P slot
    → ((upload : Upload) → found ≡ Some upload → P (does upload)) → P (on_upload found slot does)
upload_cases P None slot does refused done = refused NoUpload
upload_cases P (Some upload) slot does refused done = done upload refl

pub record IfFinished (P : Answer × Slot → Type 0) (slot : Slot) (t number : ℕ) : Type 0 where
  pub keeps : (n : ℕ) → P (Kept n, slot)
  pub was_done : (s : State) (upload : Upload) (row : Row) → slot.alive ≡ Some s → upload_of number s.uploads ≡ Some upload → upload.state ≡ Done row → P (Object row s.settings, slot)
  pub makes : (s : State) (upload : Upload) → slot.alive ≡ Some s → upload_of number s.uploads ≡ Some upload → upload.state ≡ Running
      → put_refusal s.settings t upload.pre upload.expect (digested_of upload) (live_row upload.name s.rows) ≡ None
      → P (with_version slot (done_state s number (finish_row slot s t upload)) t (finish_row slot s t upload))

whole_cases : (P : Answer × Slot → Type 0) (whole : Bool) (slot : Slot) (made kept : Answer × Slot) → P made → P kept → P (if whole then made else kept)
whole_cases P true slot made kept m k = m
whole_cases P false slot made kept m k = k

state_cases : (P : Answer × Slot → Type 0) (state : UploadState) (slot : Slot) (s : State) (t number : ℕ) (upload : Upload)
    → slot.alive ≡ Some s → upload_of number s.uploads ≡ Some upload → upload.state ≡ state → IfRefused P slot → IfFinished P slot t number
    → P (finish_in state slot s t number upload)
state_cases P Running slot s t number upload is found runs refused done =
    whole_cases P (is_total upload.total (kept_of upload)) slot _ _
    (unless_cases P (put_refusal s.settings t upload.pre upload.expect (digested_of upload) (live_row upload.name s.rows)) slot _ refused
    (done.makes s upload is found runs)) (done.keeps (kept_of upload))
state_cases P (Done row) slot s t number upload is found ended refused done = done.was_done s upload row is found ended
state_cases P Cancelled slot s t number upload is found ended refused done = refused (Gone false)
state_cases P Expired slot s t number upload is found ended refused done = refused (Gone true)

pub finish_cases : (P : Answer × Slot → Type 0) (slot : Slot) (t number : ℕ) → IfRefused P slot → IfFinished P slot t number → P (finish_step slot t number)
unfolding finish_step
finish_cases P slot t number refused done =
    alive_cases P slot.alive slot _ refused (λ s is. upload_cases P (upload_of number s.uploads) slot _ refused (λ upload found.
    state_cases P upload.state slot s t number upload is found refl refused done))
