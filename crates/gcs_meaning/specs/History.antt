-- A shard: its slots by name, and the history that they come from.
use Rattle.std.specs.Prelude.{◌≡◌, ℕ, ◌==◌, ◌&&◌, Bool, false, List, [], ◌∷◌, ◌++◌, take, Option, Some, None, if◌then◌else◌}
use Rattle.std.specs.List.{AllByRecursion, filter, flat_map}
use Rattle.std.specs.Ordering.{nat_cmp}
use Rattle.std.specs.Cmp.Lexicographic.{slice_cmp}
use Rattle.std.specs.declared.cmp.Ordering.{Ordering}
use Rattle.std.specs.declared.cmp.Ordering.TheVariants.{Less, Equal, Greater}
use Rattle.gcs_meaning.specs.declared.reason.Reason.TheVariants.{NoBucket, NoGrave}
use Rattle.gcs_meaning.specs.declared.command.Answer.{Answer}
use Rattle.gcs_meaning.specs.declared.command.Answer.TheVariants.{Refused, Buckets}
use Rattle.gcs_meaning.specs.declared.command.Command.{Command}
use Rattle.gcs_meaning.specs.declared.command.Command.TheVariants.{BucketInsert, BucketList, BucketGet, BucketChange, BucketDelete, BucketLock, BucketRestore, List as Listing, Get, Change, Delete, Put, Compose, Restore, Start, Append, Finish, Cancel}
use Rattle.gcs_meaning.specs.declared.command.Entry.{Entry}
use Rattle.gcs_meaning.specs.declared.version.BucketRow.{BucketRow}
use Rattle.gcs_meaning.specs.Slot.{State, Slot, bucket_row, fresh_slot}
use Rattle.gcs_meaning.specs.Texts.{begins}
use Rattle.gcs_meaning.specs.Order.{is_below}
use Rattle.gcs_meaning.specs.Step.{step}

-- the slots of a shard, rising by name
abbrev pub Slots : Type 0
Slots = List (List ℕ × Slot)

-- the slot that the order of two names finds: this one, or what comes after it
abbrev pub found_by : Ordering → Slot → Option Slot → Option Slot
found_by Less slot rest = None
found_by Equal slot rest = Some slot
found_by Greater slot rest = rest

-- the slot of a name
abbrev pub slot_of : List ℕ → Slots → Option Slot
slot_of name [] = None
slot_of name (p ∷ ps) = found_by (slice_cmp nat_cmp name p.0) p.1 (slot_of name ps)

-- the slots with this one at the place that the order of two names tells
abbrev pub set_by : Ordering → List ℕ → Slot → List ℕ × Slot → Slots → Slots → Slots
set_by Less name slot p ps rest = (name, slot) ∷ p ∷ ps
set_by Equal name slot p ps rest = (p.0, slot) ∷ ps
set_by Greater name slot p ps rest = p ∷ rest

-- the slots with this one at the name
abbrev pub with_slot : List ℕ → Slot → Slots → Slots
with_slot name slot [] = (name, slot) ∷ []
with_slot name slot (p ∷ ps) = set_by (slice_cmp nat_cmp name p.0) name slot p ps (with_slot name slot ps)

-- the bucket that a command names
abbrev pub bucket_of : Command → Option (List ℕ)
bucket_of (BucketInsert bucket settings) = Some bucket
bucket_of (BucketList shard prefix after most) = None
bucket_of (BucketGet bucket pre) = Some bucket
bucket_of (BucketChange bucket pre change whole) = Some bucket
bucket_of (BucketDelete bucket pre) = Some bucket
bucket_of (BucketLock bucket pre) = Some bucket
bucket_of (BucketRestore bucket generation) = Some bucket
bucket_of (Listing bucket query) = Some bucket
bucket_of (Get bucket name generation soft pre) = Some bucket
bucket_of (Change bucket name generation pre change whole) = Some bucket
bucket_of (Delete bucket name generation pre) = Some bucket
bucket_of (Put bucket name pre meta hashed components expect) = Some bucket
bucket_of (Compose bucket name pre meta parts) = Some bucket
bucket_of (Restore bucket name generation pre) = Some bucket
bucket_of (Start bucket name pre meta expect total) = Some bucket
bucket_of (Append bucket upload offset total content) = Some bucket
bucket_of (Finish bucket upload hashed) = Some bucket
bucket_of (Cancel bucket upload) = Some bucket

-- what a step answers, and the slots with what it leaves
abbrev pub set_slot : List ℕ → Slots → Answer × Slot → Answer × Slots
set_slot name slots done = (done.0, with_slot name done.1 slots)

-- a command on a name without a slot: an insert makes it, and nothing else does
abbrev pub first_step : List ℕ → Slots → ℕ → Command → Answer × Slots
first_step name slots reading (BucketInsert bucket settings) = set_slot name slots (step fresh_slot reading (BucketInsert bucket settings))
first_step name slots reading (BucketRestore bucket generation) = (Refused NoGrave, slots)
first_step name slots reading _ = (Refused NoBucket, slots)

-- a command on a name, where its slot was found and where it has none
abbrev pub slot_step : Option Slot → List ℕ → Slots → ℕ → Command → Answer × Slots
slot_step (Some slot) name slots reading command = set_slot name slots (step slot reading command)
slot_step None name slots reading command = first_step name slots reading command

-- what is shown of a bucket, where it is alive
abbrev pub shown_bucket : List ℕ → Option State → List BucketRow
shown_bucket name None = []
shown_bucket name (Some s) = bucket_row name s ∷ []

-- the name begins with the prefix and comes after that one
abbrev pub is_listed : List ℕ → List ℕ → List ℕ → Bool
is_listed prefix after name = begins prefix name && is_below after name

-- the buckets that are alive and whose names begin with the prefix and come after that one, in order, and at most so many
abbrev pub listed_buckets : List ℕ → List ℕ → ℕ → Slots → List BucketRow
listed_buckets prefix after most slots = take most (flat_map (λ p. shown_bucket p.0 p.1.alive) (filter (λ p. is_listed prefix after p.0) slots))

-- the answer to a command that names no bucket
abbrev pub unnamed_answer : Slots → Command → Answer
unnamed_answer slots (BucketList shard prefix after most) = Buckets (listed_buckets prefix after most slots)
unnamed_answer slots _ = Refused NoBucket

-- a command that names no bucket changes nothing, and no slot ages
abbrev pub named_step : Option (List ℕ) → Slots → ℕ → Command → Answer × Slots
named_step (Some name) slots reading command = slot_step (slot_of name slots) name slots reading command
named_step None slots reading command = (unnamed_answer slots command, slots)

-- one entry on a shard: the answer and the slots after it
unfoldable pub shard_step : Slots → ℕ → Command → Answer × Slots
shard_step slots reading command = named_step (bucket_of command) slots reading command

-- the slots once these entries were made
abbrev pub replay_from : Slots → List Entry → Slots
replay_from slots [] = slots
replay_from slots (e ∷ es) = replay_from (shard_step slots e.moment e.command).1 es

-- the slots after a history
abbrev pub replay : List Entry → Slots
replay entries = replay_from [] entries

-- the entry has this caller and number
abbrev pub is_entry : ℕ → ℕ → Entry → Bool
is_entry caller number e = (e.caller == caller) && (e.number == number)

-- the answer at the entry with these two numbers, on these slots
abbrev pub answer_from : Slots → List Entry → ℕ → ℕ → Option Answer
answer_from slots [] caller number = None
answer_from slots (e ∷ es) caller number =
    if is_entry caller number e then Some (shard_step slots e.moment e.command).0
    else answer_from (shard_step slots e.moment e.command).1 es caller number

-- the answer at the entry with these two numbers
abbrev pub answer_at : List Entry → ℕ → ℕ → Option Answer
answer_at entries caller number = answer_from [] entries caller number

-- the answer to a command that comes after this history
abbrev pub answer_of : List Entry → ℕ → Command → Answer
answer_of before moment command = (shard_step (replay before) moment command).0

-- an entry of this caller, number, moment and command stands in the history, and a is its answer there
abbrev pub AnswersAt : List Entry → ℕ → ℕ → ℕ → Command → Answer → Type 0
AnswersAt history caller number moment command a =
    (before : List Entry) × (after : List Entry)
    × (history ≡ before ++ record { caller = caller; number = number; moment = moment; command = command } ∷ after)
    × (a ≡ answer_of before moment command)

-- no two entries have the same caller and number
abbrev pub AreDistinct : List Entry → Type 0
AreDistinct [] = Unit {0}
AreDistinct (e ∷ es) = AllByRecursion (λ f. is_entry e.caller e.number f ≡ false) es × AreDistinct es
