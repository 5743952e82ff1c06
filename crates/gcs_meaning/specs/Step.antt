-- One command on a slot: the answer, and the slot that it leaves. This is the one-thread API object.
use Rattle.std.specs.Prelude.{◌≤◌, ℕ, length}
use Rattle.gcs_meaning.specs.declared.reason.Reason.TheVariants.{NoBucket}
use Rattle.gcs_meaning.specs.declared.command.Answer.{Answer}
use Rattle.gcs_meaning.specs.declared.command.Answer.TheVariants.{Refused}
use Rattle.gcs_meaning.specs.declared.command.Command.{Command}
use Rattle.gcs_meaning.specs.declared.command.Command.TheVariants.{BucketInsert, BucketList, BucketGet, BucketChange, BucketDelete, BucketLock, BucketRestore, List as Listing, Get, Change, Delete, Put, Compose, Restore, Start, Append, Finish, Cancel}
use Rattle.gcs_meaning.specs.Moment.{effective_moment}
use Rattle.gcs_meaning.specs.Slot.{Slot}
use Rattle.gcs_meaning.specs.Aging.{aged}
use Rattle.gcs_meaning.specs.Policy.{AreInLimits}
use Rattle.gcs_meaning.specs.Insertion.{insert_step}
use Rattle.gcs_meaning.specs.BucketGet.{bucket_get_step}
use Rattle.gcs_meaning.specs.BucketChange.{bucket_change_step, AreSetInLimits}
use Rattle.gcs_meaning.specs.BucketDeletion.{bucket_delete_step}
use Rattle.gcs_meaning.specs.Listing.{list_step}
use Rattle.gcs_meaning.specs.Get.{get_step}
use Rattle.gcs_meaning.specs.ObjectChange.{change_step}
use Rattle.gcs_meaning.specs.ObjectDeletion.{delete_step}
use Rattle.gcs_meaning.specs.BucketLock.{bucket_lock_step}
use Rattle.gcs_meaning.specs.BucketRestore.{bucket_restore_step}
use Rattle.gcs_meaning.specs.Put.{put_step}
use Rattle.gcs_meaning.specs.Compose.{compose_step}
use Rattle.gcs_meaning.specs.Restore.{restore_step}
use Rattle.gcs_meaning.specs.Start.{start_step}
use Rattle.gcs_meaning.specs.Append.{append_step}
use Rattle.gcs_meaning.specs.Finish.{finish_step}
use Rattle.gcs_meaning.specs.Cancel.{cancel_step}

-- a command on a slot that is aged to t. The list of a shard's buckets is asked of no slot
abbrev pub command_step : Slot → ℕ → Command → Answer × Slot
command_step slot t (BucketInsert bucket settings) = insert_step slot t bucket settings
command_step slot t (BucketGet bucket pre) = bucket_get_step slot bucket pre
command_step slot t (BucketChange bucket pre change whole) = bucket_change_step slot t bucket pre change whole
command_step slot t (BucketDelete bucket pre) = bucket_delete_step slot t pre
command_step slot t (BucketLock bucket pre) = bucket_lock_step slot t bucket pre
command_step slot t (BucketRestore bucket generation) = bucket_restore_step slot t bucket generation
command_step slot t (Listing bucket query) = list_step slot query
command_step slot t (Get bucket name generation soft pre) = get_step slot name generation soft pre
command_step slot t (Change bucket name generation pre change whole) = change_step slot t name generation pre change whole
command_step slot t (Delete bucket name generation pre) = delete_step slot t name generation pre
command_step slot t (Put bucket name pre meta hashed components expect) = put_step slot t name pre meta hashed components expect
command_step slot t (Compose bucket name pre meta parts) = compose_step slot t name pre meta parts
command_step slot t (Restore bucket name generation pre) = restore_step slot t name generation pre
command_step slot t (Start bucket name pre meta expect total) = start_step slot t name pre meta expect total
command_step slot t (Append bucket upload offset total content) = append_step slot upload offset total content
command_step slot t (Finish bucket upload hashed) = finish_step slot t upload
command_step slot t (Cancel bucket upload) = cancel_step slot upload
command_step slot t (BucketList shard prefix after most) = (Refused NoBucket, slot)

-- the step of a command whose request took this reading
abbrev pub step : Slot → ℕ → Command → Answer × Slot
step slot reading command =
    let t = effective_moment slot.last_moment reading in
    command_step (aged slot t) t command

-- the numbers of a command are in their limits: a period and a duration, and at most 32 sources
abbrev pub IsInRange : Command → Type 0
IsInRange (BucketInsert bucket settings) = AreInLimits settings
IsInRange (BucketChange bucket pre change whole) = AreSetInLimits change
IsInRange (Compose bucket name pre meta parts) = length parts ≤ 32
IsInRange _ = Unit {0}

-- what one slot may be asked: all of them but the list of the buckets
abbrev pub IsOnSlot : Command → Type 0
IsOnSlot (BucketList shard prefix after most) = ⊥
IsOnSlot command = IsInRange command
