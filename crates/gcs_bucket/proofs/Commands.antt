-- What the commands come to on a slot that is aged, by what is decided of them before.
use Rattle.std.proofs.Common.{◌≡◌, ℕ, Bool, List, Option, Some, None, Result, Ok, Err, refl, ap, sym, subst, ◌∙◌}
use Rattle.std.specs.Prelude.{is_some, IfOk}
use Rattle.gcs_meaning.specs.declared.changes.MetaChange.{MetaChange}
use Rattle.gcs_meaning.specs.declared.changes.SettingsChange.{SettingsChange}
use Rattle.gcs_meaning.specs.declared.settings.Pre.{Pre}
use Rattle.gcs_meaning.specs.declared.settings.Meta.{Meta}
use Rattle.gcs_meaning.specs.declared.settings.Settings.{Settings}
use Rattle.gcs_meaning.specs.declared.version.Row.{Row}
use Rattle.gcs_meaning.specs.declared.version.Expect.{Expect}
use Rattle.gcs_meaning.specs.declared.reason.Reason.{Reason}
use Rattle.gcs_meaning.specs.declared.reason.Reason.TheVariants.{NoBucket, NoObject}
use Rattle.gcs_meaning.specs.declared.command.Answer.{Answer}
use Rattle.gcs_meaning.specs.declared.command.Answer.TheVariants.{Refused}
use Rattle.gcs_meaning.specs.Content.{Digested}
use Rattle.gcs_meaning.specs.Moment.{next_generation}
use Rattle.gcs_meaning.specs.Order.{Rise}
use Rattle.gcs_meaning.specs.Slot.{State, Slot}
use Rattle.gcs_meaning.specs.Aging.{aged, aged_state}
use Rattle.gcs_meaning.specs.BucketChange.{bucket_change_refusal, bucket_change_state, bucket_change_step, changed_settings}
use Rattle.gcs_meaning.specs.BucketLock.{bucket_lock_refusal, bucket_lock_step, locked_settings}
use Rattle.gcs_meaning.specs.Choosing.{chosen_row, live_row}
use Rattle.gcs_meaning.specs.ObjectDeletion.{delete_refusal, delete_step}
use Rattle.gcs_meaning.specs.ObjectChange.{change_refusal, change_state, change_step, changed_meta, changed_row}
use Rattle.gcs_meaning.specs.Put.{put_refusal, put_step, new_row}
use Rattle.gcs_meaning.proofs.Chosen.{chosen_row-aged}
use Rattle.gcs_bucket.specs.declared.bucket_change.NewSettings.{NewSettings}
use Rattle.gcs_bucket.specs.declared.object_change.Changed.{Changed}
use Rattle.gcs_bucket.specs.declared.put.Prepared.{Prepared}
use Rattle.gcs_bucket.specs.BucketChange.{decided_settings, MakesBucket}
use Rattle.gcs_bucket.specs.ObjectChange.{decided_change, with_changed, MakesChange}
use Rattle.gcs_bucket.specs.ObjectDeletion.{decided_deletion}
use Rattle.gcs_bucket.specs.Put.{decided_put, generation_found, tested_put}
use Rattle.gcs_bucket.proofs.Removed.{replaced}

-- what was decided before ageing is what it comes to after it
pub decided_made : {M : Type 0} (outcome : Result M Reason → Slot → Answer × Slot) (does : Answer × Slot) (decision : Result M Reason) (made : M) (aged-one now after : Slot) (answer : Answer)
    → does ≡ outcome decision aged-one → decision ≡ Ok made → now ≡ aged-one → (answer, after) ≡ outcome (Ok made) now → does ≡ (answer, after)
decided_made outcome does decision made aged-one now after answer decided is now-is done =
    decided ∙ ap (λ d. outcome d aged-one) is ∙ ap (outcome (Ok made)) (sym now-is) ∙ sym done

pub decided_refused : {M : Type 0} (outcome : Result M Reason → Slot → Answer × Slot) (does : Answer × Slot) (decision : Result M Reason) (reason : Reason) (aged-one now : Slot)
    → does ≡ outcome decision aged-one → decision ≡ Err reason → now ≡ aged-one → outcome (Err reason) aged-one ≡ (Refused reason, aged-one) → does ≡ (Refused reason, now)
decided_refused outcome does decision reason aged-one now decided is now-is refuses =
    decided ∙ ap (λ d. outcome d aged-one) is ∙ refuses ∙ ap (λ slot. (Refused reason, slot)) (sym now-is)

-- a fact of what was made, of the slot that it is made on
pub fact_of_made : {M : Type 0} (P : M → Slot → Type 0) (decision : Result M Reason) (made : M) (aged-one now : Slot)
    → IfOk decision (λ m. P m aged-one) → decision ≡ Ok made → now ≡ aged-one → P made now
fact_of_made P decision made aged-one now held is now-is =
    subst (P made) (sym now-is) (subst (λ d. IfOk d (λ m. P m aged-one)) is held)

-- ---- the change of a bucket's settings
pub settings_dead : (slot : Slot) (t : ℕ) (name : List ℕ) (pre : Pre) (change : SettingsChange) (whole : Bool)
    → slot.alive ≡ None → bucket_change_step (aged slot t) t name pre change whole ≡ (Refused NoBucket, aged slot t)
unfolding bucket_change_step
settings_dead slot t name pre change whole dead = rw dead refl

pub settings_tested : (slot : Slot) (t : ℕ) (name : List ℕ) (pre : Pre) (change : SettingsChange) (whole : Bool) (s : State) (reason : Reason)
    → slot.alive ≡ Some s → Some reason ≡ bucket_change_refusal pre whole change s
    → bucket_change_step (aged slot t) t name pre change whole ≡ (Refused reason, aged slot t)
unfolding bucket_change_step bucket_change_refusal aged_state
settings_tested slot t name pre change whole s reason lives refused = rw (lives, ← refused) refl

pub settings_made : (slot : Slot) (t : ℕ) (name : List ℕ) (pre : Pre) (change : SettingsChange) (whole : Bool) (s : State) (settings : Settings) (made : NewSettings)
    → slot.alive ≡ Some s → None ≡ bucket_change_refusal pre whole change s → settings ≡ changed_settings t whole change s.settings
    → MakesBucket made name (bucket_change_state s t settings)
    → bucket_change_step (aged slot t) t name pre change whole ≡ decided_settings (Ok made) t (aged slot t)
unfolding bucket_change_step bucket_change_refusal aged_state
settings_made slot t name pre change whole s settings made lives passed settings-is makes =
    rw (lives, ← passed, makes.shown_is, makes.settings_is, settings-is) refl

-- ---- the lock of a bucket's policy
pub lock_dead : (slot : Slot) (t : ℕ) (name : List ℕ) (pre : Pre) → slot.alive ≡ None → bucket_lock_step (aged slot t) t name pre ≡ (Refused NoBucket, aged slot t)
unfolding bucket_lock_step
lock_dead slot t name pre dead = rw dead refl

pub lock_tested : (slot : Slot) (t : ℕ) (name : List ℕ) (pre : Pre) (s : State) (reason : Reason) → slot.alive ≡ Some s → Some reason ≡ bucket_lock_refusal pre s
    → bucket_lock_step (aged slot t) t name pre ≡ (Refused reason, aged slot t)
unfolding bucket_lock_step bucket_lock_refusal aged_state
lock_tested slot t name pre s reason lives refused = rw (lives, ← refused) refl

pub lock_made : (slot : Slot) (t : ℕ) (name : List ℕ) (pre : Pre) (s : State) (settings : Settings) (made : NewSettings)
    → slot.alive ≡ Some s → None ≡ bucket_lock_refusal pre s → settings ≡ locked_settings s.settings → MakesBucket made name (bucket_change_state s t settings)
    → bucket_lock_step (aged slot t) t name pre ≡ decided_settings (Ok made) t (aged slot t)
unfolding bucket_lock_step bucket_lock_refusal aged_state
lock_made slot t name pre s settings made lives passed settings-is makes = rw (lives, ← passed, makes.shown_is, makes.settings_is, settings-is) refl

-- ---- the change of a version
pub change_dead : (slot : Slot) (t : ℕ) (name : List ℕ) (generation : Option ℕ) (pre : Pre) (change : MetaChange) (whole : Bool)
    → slot.alive ≡ None → change_step (aged slot t) t name generation pre change whole ≡ (Refused NoBucket, aged slot t)
unfolding change_step
change_dead slot t name generation pre change whole dead = rw dead refl

pub change_missing : (slot : Slot) (t : ℕ) (name : List ℕ) (generation : Option ℕ) (pre : Pre) (change : MetaChange) (whole : Bool) (s : State)
    → slot.alive ≡ Some s → None ≡ chosen_row name generation s.rows
    → change_step (aged slot t) t name generation pre change whole ≡ (Refused NoObject, aged slot t)
unfolding change_step aged_state
change_missing slot t name generation pre change whole s lives none = rw (lives, chosen_row-aged t name generation s.rows, ← none) refl

pub change_tested : (slot : Slot) (t : ℕ) (name : List ℕ) (generation : Option ℕ) (pre : Pre) (change : MetaChange) (whole : Bool) (s : State) (row : Row) (meta : Meta) (reason : Reason)
    → slot.alive ≡ Some s → Some row ≡ chosen_row name generation s.rows → meta ≡ changed_meta whole change row.meta → Some reason ≡ change_refusal pre row meta
    → change_step (aged slot t) t name generation pre change whole ≡ (Refused reason, aged slot t)
unfolding change_step aged_state
change_tested slot t name generation pre change whole s row meta reason lives found meta-is refused =
    rw (lives, chosen_row-aged t name generation s.rows, ← found, ← meta-is, ← refused) refl

pub change_made : (slot : Slot) (t : ℕ) (name : List ℕ) (generation : Option ℕ) (pre : Pre) (change : MetaChange) (whole : Bool) (s : State) (row : Row) (meta : Meta) (made : Changed)
    → slot.alive ≡ Some s → Some row ≡ chosen_row name generation s.rows → meta ≡ changed_meta whole change row.meta → None ≡ change_refusal pre row meta
    → Rise s.rows → MakesChange made s.settings (changed_row t meta row)
    → change_step (aged slot t) t name generation pre change whole ≡ decided_change (Ok made) name (aged slot t)
unfolding change_step aged_state
change_made slot t name generation pre change whole s row meta made lives found meta-is passed rise makes =
    let same : with_changed (aged_state t s) name (changed_row t meta row) ≡ change_state (aged_state t s) name generation (changed_row t meta row)
    = replaced t name generation s row (changed_row t meta row) rise (sym found) refl in
    rw (lives, chosen_row-aged t name generation s.rows, ← found, ← meta-is, ← passed, makes.shown_is, makes.settings_is, same) refl

-- ---- the deletion of a version
pub delete_dead : (slot : Slot) (t : ℕ) (name : List ℕ) (generation : Option ℕ) (pre : Pre)
    → slot.alive ≡ None → delete_step (aged slot t) t name generation pre ≡ (Refused NoBucket, aged slot t)
unfolding delete_step
delete_dead slot t name generation pre dead = rw dead refl

pub delete_missing : (slot : Slot) (t : ℕ) (name : List ℕ) (generation : Option ℕ) (pre : Pre) (s : State)
    → slot.alive ≡ Some s → None ≡ chosen_row name generation s.rows → delete_step (aged slot t) t name generation pre ≡ (Refused NoObject, aged slot t)
unfolding delete_step aged_state
delete_missing slot t name generation pre s lives none = rw (lives, chosen_row-aged t name generation s.rows, ← none) refl

pub delete_tested : (slot : Slot) (t : ℕ) (name : List ℕ) (generation : Option ℕ) (pre : Pre) (s : State) (row : Row) (reason : Reason)
    → slot.alive ≡ Some s → Some row ≡ chosen_row name generation s.rows → Some reason ≡ delete_refusal s.settings t (is_some generation) pre row
    → delete_step (aged slot t) t name generation pre ≡ (Refused reason, aged slot t)
unfolding delete_step aged_state
delete_tested slot t name generation pre s row reason lives found refused = rw (lives, chosen_row-aged t name generation s.rows, ← found, ← refused) refl

pub delete_made : (slot : Slot) (t : ℕ) (name : List ℕ) (generation : Option ℕ) (pre : Pre) (s : State) (row : Row)
    → slot.alive ≡ Some s → Some row ≡ chosen_row name generation s.rows → None ≡ delete_refusal s.settings t (is_some generation) pre row
    → delete_step (aged slot t) t name generation pre ≡ decided_deletion (Ok row.generation) t name generation (aged slot t)
unfolding delete_step aged_state
delete_made slot t name generation pre s row lives found passed = rw (lives, chosen_row-aged t name generation s.rows, ← found, ← passed) refl

-- ---- the put of a version
pub tested_err : (refusal : Option Reason) (live : Option Row) (reason : Reason) → Err reason ≡ tested_put refusal live → Some reason ≡ refusal
tested_err (Some other) live reason is = cc
tested_err None live reason is = cc

pub tested_ok : (refusal : Option Reason) (live : Option Row) (generation : Option ℕ) → Ok generation ≡ tested_put refusal live → (None ≡ refusal) × (generation ≡ generation_found live)
tested_ok (Some reason) live generation is = absurd (cc)
tested_ok None live generation is = (refl, cc)

pub put_dead : (slot : Slot) (t : ℕ) (name : List ℕ) (pre : Pre) (meta : Meta) (hashed : Digested) (components : Option ℕ) (expect : Expect)
    → slot.alive ≡ None → put_step (aged slot t) t name pre meta hashed components expect ≡ (Refused NoBucket, aged slot t)
unfolding put_step
put_dead slot t name pre meta hashed components expect dead = rw dead refl

pub put_tested : (slot : Slot) (t : ℕ) (name : List ℕ) (pre : Pre) (meta : Meta) (hashed : Digested) (components : Option ℕ) (expect : Expect) (s : State) (reason : Reason)
    → slot.alive ≡ Some s → Some reason ≡ put_refusal s.settings t pre expect hashed (live_row name s.rows)
    → put_step (aged slot t) t name pre meta hashed components expect ≡ (Refused reason, aged slot t)
unfolding put_step aged_state
put_tested slot t name pre meta hashed components expect s reason lives refused = rw (lives, chosen_row-aged t name None s.rows, ← refused) refl

pub put_made : (slot : Slot) (t g : ℕ) (name : List ℕ) (pre : Pre) (meta : Meta) (hashed : Digested) (components : Option ℕ) (expect : Expect) (s : State) (row : Row) (made : Prepared)
    → slot.alive ≡ Some s → None ≡ put_refusal s.settings t pre expect hashed (live_row name s.rows) → g ≡ next_generation t slot.last_object
    → row ≡ new_row s.settings t g name meta hashed components → made.row ≡ row → made.shown ≡ row → made.settings ≡ s.settings
    → put_step (aged slot t) t name pre meta hashed components expect ≡ decided_put (Ok made) t (aged slot t)
unfolding put_step aged_state
put_made slot t g name pre meta hashed components expect s row made lives passed g-is row-is made-is shown-is settings-is =
    rw (lives, chosen_row-aged t name None s.rows, ← passed, shown-is, settings-is, made-is, row-is, g-is) refl
