-- Laws over every slot, history and command.
use Rattle.std.specs.Prelude.{◌≡◌, ◌≤◌, ◌+◌, ◌^◌, ℕ, Bool, true, false, List, length, Some}
use Rattle.gcs_chunks.specs.Content.{ChunksValue}
use Rattle.gcs_meaning.specs.declared.command.Answer.{Answer}
use Rattle.gcs_meaning.specs.declared.command.Answer.TheVariants.{Bucket, Buckets, Empty, Object, Page as Paged, Started, Kept, Complete, Cancelled, Refused}
use Rattle.gcs_meaning.specs.declared.command.Command.{Command}
use Rattle.gcs_meaning.specs.declared.command.Command.TheVariants.{BucketInsert, BucketList, BucketGet, BucketChange, BucketDelete, BucketLock, BucketRestore, List as Listing, Get, Change, Delete, Put, Compose, Restore, Start, Append, Finish, Cancel}
use Rattle.gcs_meaning.specs.declared.command.Entry.{Entry}
use Rattle.gcs_meaning.specs.declared.settings.Retention.{Retention}
use Rattle.gcs_meaning.specs.declared.version.Kind.TheVariants.{Soft}
use Rattle.gcs_meaning.specs.declared.version.Row.{Row}
use Rattle.gcs_meaning.specs.Choosing.{is_readable}
use Rattle.gcs_meaning.specs.Content.{bytes_in}
use Rattle.gcs_meaning.specs.Moment.{effective_moment}
use Rattle.gcs_meaning.specs.Policy.{retained_until}
use Rattle.gcs_meaning.specs.Slot.{State, Slot, fresh_slot}
use Rattle.gcs_meaning.specs.Fit.{IsFit}
use Rattle.gcs_meaning.specs.Keeping.{IsOneOf, buckets_of, IsCovered, IsKept, IsReadableIn}
use Rattle.gcs_meaning.specs.Step.{step}
use Rattle.gcs_meaning.specs.Contents.{AnswerLiesIn, CommandLiesIn, HistoryLiesIn, SlotLiesIn, SlotsLieIn}
use Rattle.gcs_meaning.specs.History.{AnswersAt, AreDistinct, Slots, answer_at, answer_of, replay, shard_step, slot_of}
use Rattle.gcs_meaning.specs.Bounds.{IsSmall, IsWithin}
use Rattle.gcs_meaning.specs.Runs.{slot_after, AreBefore}
use Rattle.gcs_meaning.specs.Making.{made_in, IsRising, NewAreAbove}

-- the generations of one bucket name rise strictly, over every list of entries, and what a step makes is above all that was made
-- before: versions, and buckets
pub record GenerationsRise : Type 0 where
  pub rise : (slot : Slot) (entries : List Entry) → IsRising slot.last_object (made_in slot entries)
  pub above : (slot : Slot) (moment : ℕ) (command : Command) → NewAreAbove slot (step slot moment command).1

-- the fresh slot is fit, a slot that is fit stays so at every command, and so every slot of a history is fit
pub record FitIsKept : Type 0 where
  pub fresh : IsFit fresh_slot
  pub kept : (slot : Slot) (moment : ℕ) (command : Command) → IsFit slot → IsFit (step slot moment command).1
  pub replayed : (history : List Entry) (name : List ℕ) (slot : Slot) → slot_of name (replay history) ≡ Some slot → IsFit slot

-- the numbers of a slot grow by at most one with each command, so that those of a history leave room for one more step
pub record SmallIsKept : Type 0 where
  pub fresh : IsWithin 0 fresh_slot
  pub kept : (n : ℕ) (slot : Slot) (moment : ℕ) (command : Command) → IsWithin n slot → IsWithin (n + 1) (step slot moment command).1
  pub replayed : (history : List Entry) (name : List ℕ) (slot : Slot) → slot_of name (replay history) ≡ Some slot → IsWithin (length history) slot
  pub small : (n : ℕ) (slot : Slot) → n ≤ 2 ^ 61 → IsWithin n slot → IsSmall slot

-- a version of a fit slot that is covered at the moment of a step, by the settings before the step, is kept by the step with its bytes
abbrev pub CoveredIsKept : Type 0
CoveredIsKept = (slot : Slot) (moment : ℕ) (command : Command) (s : State) (row : Row) → IsFit slot
    → IsOneOf (buckets_of slot) s → IsOneOf s.rows row → IsCovered s (effective_moment slot.last_moment moment) row
    → IsKept (step slot moment command).1 row.name row.generation (bytes_in row.hashed)

-- a live or noncurrent version of a fit slot, in a bucket whose policy is locked, stays live or noncurrent with its bytes until its end
abbrev pub LockedIsKept : Type 0
LockedIsKept = (slot : Slot) (entries : List Entry) (s : State) (policy : Retention) (row : Row) → IsFit slot
    → slot.alive ≡ Some s → s.settings.retention ≡ Some policy → policy.locked ≡ true
    → IsOneOf s.rows row → is_readable row.kind ≡ true → AreBefore (retained_until row.retention_start policy.period) slot entries
    → IsReadableIn (slot_after slot entries).alive row.name row.generation (bytes_in row.hashed)

-- a soft-deleted version of a fit slot, in the bucket or in a deleted one, is kept with its bytes until its hard time
abbrev pub SoftIsKept : Type 0
SoftIsKept = (slot : Slot) (entries : List Entry) (s : State) (row : Row) (at hard : ℕ) → IsFit slot
    → IsOneOf (buckets_of slot) s → IsOneOf s.rows row → row.kind ≡ Soft at hard → AreBefore hard slot entries
    → IsKept (slot_after slot entries) row.name row.generation (bytes_in row.hashed)

-- an answer that a command can give
abbrev pub is_answer_to : Command → Answer → Bool
is_answer_to command (Refused reason) = true
is_answer_to (BucketInsert bucket settings) (Bucket row) = true
is_answer_to (BucketList shard prefix after most) (Buckets rows) = true
is_answer_to (BucketGet bucket pre) (Bucket row) = true
is_answer_to (BucketChange bucket pre change whole) (Bucket row) = true
is_answer_to (BucketDelete bucket pre) Empty = true
is_answer_to (BucketLock bucket pre) (Bucket row) = true
is_answer_to (BucketRestore bucket generation) (Bucket row) = true
is_answer_to (Listing bucket query) (Paged page) = true
is_answer_to (Get bucket name generation soft pre) (Object row settings) = true
is_answer_to (Change bucket name generation pre change whole) (Object row settings) = true
is_answer_to (Delete bucket name generation pre) Empty = true
is_answer_to (Put bucket name pre meta hashed components expect) (Object row settings) = true
is_answer_to (Compose bucket name pre meta parts) (Object row settings) = true
is_answer_to (Restore bucket name generation pre) (Object row settings) = true
is_answer_to (Start bucket name pre meta expect total) (Started upload) = true
is_answer_to (Append bucket upload offset total content) (Kept n) = true
is_answer_to (Append bucket upload offset total content) (Complete whole) = true
is_answer_to (Append bucket upload offset total content) (Object row settings) = true
is_answer_to (Finish bucket upload hashed) (Kept n) = true
is_answer_to (Finish bucket upload hashed) (Object row settings) = true
is_answer_to (Cancel bucket upload) Cancelled = true
is_answer_to (Cancel bucket upload) (Object row settings) = true
is_answer_to command answer = false

-- each command gets an answer of its kind, after every history; and the answer at an entry is found by the entry's numbers
pub record AnswersFit : Type 0 where
  pub kinds : (before : List Entry) (moment : ℕ) (command : Command) → is_answer_to command (answer_of before moment command) ≡ true
  pub found : (history : List Entry) (caller number moment : ℕ) (command : Command) (a : Answer) → AreDistinct history
      → AnswersAt history caller number moment command a → answer_at history caller number ≡ Some a

-- what a step answers and leaves lies in the chunks in which the slot and the command lie; so does it on the slots of a shard, and
-- so do the slots of a history whose commands lie in them
pub record ContentsStay : Type 0 where
  pub slot : (chunks : ChunksValue) (slot : Slot) (moment : ℕ) (command : Command) → SlotLiesIn chunks slot → CommandLiesIn chunks command
      → AnswerLiesIn chunks (step slot moment command).0 × SlotLiesIn chunks (step slot moment command).1
  pub shard : (chunks : ChunksValue) (slots : Slots) (moment : ℕ) (command : Command) → SlotsLieIn chunks slots → CommandLiesIn chunks command
      → AnswerLiesIn chunks (shard_step slots moment command).0 × SlotsLieIn chunks (shard_step slots moment command).1
  pub replayed : (chunks : ChunksValue) (history : List Entry) → HistoryLiesIn chunks history → SlotsLieIn chunks (replay history)
