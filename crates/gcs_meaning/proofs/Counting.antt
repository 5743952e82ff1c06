-- The numbers of a slot over one command: none falls, and each rises by at most one, or to the moment.
use Rattle.std.proofs.Common.{◌≡◌, ◌≤◌, ℕ, suc, List, Option, refl, arith}
use Rattle.gcs_meaning.specs.declared.command.Answer.{Answer}
use Rattle.gcs_meaning.specs.declared.command.Command.{Command}
use Rattle.gcs_meaning.specs.declared.command.Command.TheVariants.{BucketInsert, BucketList, BucketGet, BucketChange, BucketDelete, BucketLock, BucketRestore, List as Listing, Get, Change, Delete, Put, Compose, Restore, Start, Append, Finish, Cancel}
use Rattle.gcs_meaning.specs.Moment.{next_generation}
use Rattle.gcs_meaning.specs.Slot.{State, Grave, Slot}
use Rattle.gcs_meaning.specs.Step.{command_step}
use Rattle.gcs_meaning.proofs.Cases.{IfRefused, IfMade, IfFinished, insert_cases, bucket_get_cases, bucket_change_cases, bucket_delete_cases, bucket_lock_cases, bucket_restore_cases, list_cases, get_cases, change_cases, delete_cases, put_cases, compose_cases, restore_cases, start_cases, append_cases, finish_cases, cancel_cases}

-- the numbers of a slot after a command at t
pub record IsCounted (before : Slot) (t : ℕ) (after : Slot) : Type 0 where
  pub moment : after.last_moment ≡ before.last_moment
  pub object : before.last_object ≤ after.last_object
  pub object_most : after.last_object ≤ next_generation t before.last_object
  pub bucket : before.last_bucket ≤ after.last_bucket
  pub bucket_most : after.last_bucket ≤ next_generation t before.last_bucket
  pub upload_most : after.next_upload ≤ suc before.next_upload

abbrev Counts : Slot → ℕ → Answer × Slot → Type 0
Counts slot t done = IsCounted slot t done.1

-- a slot that is as it was, but for its buckets
same_counted : (slot : Slot) (t : ℕ) → IsCounted slot t slot
same_counted slot t =
    record { moment = refl; object = omega arith; object_most = omega arith; bucket = omega arith; bucket_most = omega arith; upload_most = omega arith }

buckets_counted : (slot : Slot) (t : ℕ) (alive : Option State) (graves : List Grave) → IsCounted slot t (record slot { alive = alive; graves = graves })
buckets_counted slot t alive graves =
    record { moment = refl; object = omega arith; object_most = omega arith; bucket = omega arith; bucket_most = omega arith; upload_most = omega arith }

refused_counted : (slot : Slot) (t : ℕ) → IfRefused (Counts slot t) slot
refused_counted slot t reason = same_counted slot t

-- a slot with one version more
version_counted : (slot : Slot) (t : ℕ) (alive : Option State) → IsCounted slot t (record slot { alive = alive; last_object = next_generation t slot.last_object })
version_counted slot t alive =
    record { moment = refl; object = omega arith; object_most = omega arith; bucket = omega arith; bucket_most = omega arith; upload_most = omega arith }

made_counted : (slot : Slot) (t : ℕ) → IfMade (Counts slot t) slot t
made_counted slot t s name pre meta hashed components expect is passed = version_counted slot t _

finished_counted : (slot : Slot) (t number : ℕ) → IfFinished (Counts slot t) slot t number
finished_counted slot t number = record {
  keeps = λ n. same_counted slot t;
  was_done = λ s upload row is found ended. same_counted slot t;
  makes = λ s upload is found runs passed. version_counted slot t _;
}

pub command_counted : (command : Command) (slot : Slot) (t : ℕ) → IsCounted slot t (command_step slot t command).1
command_counted (BucketInsert bucket settings) slot t =
    insert_cases (Counts slot t) slot t bucket settings (refused_counted slot t)
    (λ free. record { moment = refl; object = omega arith; object_most = omega arith; bucket = omega arith; bucket_most = omega arith; upload_most = omega arith })
command_counted (BucketList shard prefix after most) slot t = same_counted slot t
command_counted (BucketGet bucket pre) slot t = bucket_get_cases (Counts slot t) slot bucket pre (refused_counted slot t) (λ s. same_counted slot t)
command_counted (BucketChange bucket pre change whole) slot t =
    bucket_change_cases (Counts slot t) slot t bucket pre change whole (refused_counted slot t) (λ s is passed. buckets_counted slot t _ slot.graves)
command_counted (BucketDelete bucket pre) slot t =
    bucket_delete_cases (Counts slot t) slot t pre (refused_counted slot t) (λ s is passed. buckets_counted slot t _ _)
command_counted (BucketLock bucket pre) slot t =
    bucket_lock_cases (Counts slot t) slot t bucket pre (refused_counted slot t) (λ s is. buckets_counted slot t _ slot.graves)
command_counted (BucketRestore bucket generation) slot t =
    bucket_restore_cases (Counts slot t) slot t bucket generation (refused_counted slot t) (λ g found free. buckets_counted slot t _ _)
command_counted (Listing bucket query) slot t = list_cases (Counts slot t) slot query (refused_counted slot t) (λ s. same_counted slot t)
command_counted (Get bucket name generation soft pre) slot t =
    get_cases (Counts slot t) slot name generation soft pre (refused_counted slot t) (λ row settings. same_counted slot t)
command_counted (Change bucket name generation pre change whole) slot t =
    change_cases (Counts slot t) slot t name generation pre change whole (refused_counted slot t) (λ s row is found. buckets_counted slot t _ slot.graves)
command_counted (Delete bucket name generation pre) slot t =
    delete_cases (Counts slot t) slot t name generation pre (refused_counted slot t) (λ s row is found passed. buckets_counted slot t _ slot.graves)
command_counted (Put bucket name pre meta hashed components expect) slot t =
    put_cases (Counts slot t) slot t name pre meta hashed components expect (refused_counted slot t) (made_counted slot t)
command_counted (Compose bucket name pre meta parts) slot t = compose_cases (Counts slot t) slot t name pre meta parts (refused_counted slot t) (made_counted slot t)
command_counted (Restore bucket name generation pre) slot t = restore_cases (Counts slot t) slot t name generation pre (refused_counted slot t) (made_counted slot t)
command_counted (Start bucket name pre meta expect total) slot t =
    start_cases (Counts slot t) slot t name pre meta expect total (refused_counted slot t)
    (λ s is. record { moment = refl; object = omega arith; object_most = omega arith; bucket = omega arith; bucket_most = omega arith; upload_most = omega arith })
command_counted (Append bucket upload offset total content) slot t =
    append_cases (Counts slot t) slot upload offset total content (refused_counted slot t) (λ s progress is answered. buckets_counted slot t _ slot.graves)
command_counted (Finish bucket upload hashed) slot t = finish_cases (Counts slot t) slot t upload (refused_counted slot t) (finished_counted slot t upload)
command_counted (Cancel bucket upload) slot t =
    cancel_cases (Counts slot t) slot upload (refused_counted slot t) (λ s progress is answered. buckets_counted slot t _ slot.graves)
