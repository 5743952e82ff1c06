-- A command that a slot can be asked.
use Rattle.gcs_meaning.specs.declared.command.Command.{Command}
use Rattle.gcs_meaning.specs.declared.command.Command.TheVariants.{BucketInsert, BucketList, BucketGet, BucketChange, BucketDelete, BucketLock, BucketRestore, List as Listing, Get, Change, Delete, Put, Compose, Restore, Start, Append, Finish, Cancel}
use Rattle.gcs_meaning.specs.Step.{IsInRange, IsOnSlot}

-- what a slot can be asked is built
pub in_range_of : (command : Command) → IsOnSlot command → IsInRange command
in_range_of (BucketList shard prefix after most) is = absurd is
in_range_of (BucketInsert bucket settings) is = is
in_range_of (BucketGet bucket pre) is = is
in_range_of (BucketChange bucket pre change whole) is = is
in_range_of (BucketDelete bucket pre) is = is
in_range_of (BucketLock bucket pre) is = is
in_range_of (BucketRestore bucket generation) is = is
in_range_of (Listing bucket query) is = is
in_range_of (Get bucket name generation soft pre) is = is
in_range_of (Change bucket name generation pre change whole) is = is
in_range_of (Delete bucket name generation pre) is = is
in_range_of (Put bucket name pre meta hashed components expect) is = is
in_range_of (Compose bucket name pre meta parts) is = is
in_range_of (Restore bucket name generation pre) is = is
in_range_of (Start bucket name pre meta expect total) is = is
in_range_of (Append bucket upload offset total content) is = is
in_range_of (Finish bucket upload hashed) is = is
in_range_of (Cancel bucket upload) is = is
