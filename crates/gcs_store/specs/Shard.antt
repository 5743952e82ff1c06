-- A shard, and slots by name, as it keeps them.
use Rattle.std.specs.Prelude.{◌≡◌, ◌≤◌, ◌<◌, ◌^◌, ℕ, Bool, not, ◌||◌, List, [], ◌∷◌, ◌++◌, length, insert, slice_get, Some, None}
use Rattle.std.specs.List.{AllByRecursion}
use Rattle.std.specs.Ordering.{nat_cmp}
use Rattle.std.specs.Cmp.Lexicographic.{slice_cmp}
use Rattle.std.specs.declared.cmp.Ordering.TheVariants.{Less}
use Rattle.gcs_chunks.specs.Content.{ChunksValue}
use Rattle.gcs_meaning.specs.declared.command.Answer.{Answer}
use Rattle.gcs_meaning.specs.declared.command.Command.{Command}
use Rattle.gcs_meaning.specs.declared.command.Entry.{Entry}
use Rattle.gcs_meaning.specs.Slot.{Slot}
use Rattle.gcs_meaning.specs.Order.{is_below}
use Rattle.gcs_meaning.specs.Bounds.{IsSmall}
use Rattle.gcs_meaning.specs.Contents.{HistoryLiesIn}
use Rattle.gcs_meaning.specs.Step.{step}
use Rattle.gcs_meaning.specs.declared.version.BucketRow.{BucketRow}
use Rattle.gcs_meaning.specs.History.{Slots, slot_of, with_slot, replay, shown_bucket}
use Rattle.gcs_versions.specs.Rows.{map_at}

-- the value of a shard: the chunks in which its contents lie, and its history
pub record ShardValue : Type 0 where
  pub chunks : ChunksValue
  pub history : List Entry

-- the slots rise strictly by name, in byte order
abbrev pub NamesRise : Slots → Type 0
NamesRise [] = Unit {0}
NamesRise (p ∷ ps) = AllByRecursion (λ q. slice_cmp nat_cmp p.0 q.0 ≡ Less) ps × NamesRise ps

-- the name comes before all that a list shows: it isn't after that one, or it is below the prefix
abbrev pub is_passed : List ℕ → List ℕ → List ℕ → Bool
is_passed prefix after name = not (is_below after name) || is_below name prefix

-- the buckets that are alive in these slots
abbrev pub all_shown : Slots → List BucketRow
all_shown [] = []
all_shown (p ∷ ps) = shown_bucket p.0 p.1.alive ++ all_shown ps

-- the numbers of all slots leave room for one more step
abbrev pub AreSmall : Slots → Type 0
AreSmall [] = Unit {0}
AreSmall (p ∷ ps) = IsSmall p.1 × AreSmall ps

-- the pair with another slot
abbrev pub with_second : Slot → List ℕ × Slot → List ℕ × Slot
with_second slot p = (p.0, slot)

-- the slot of the name stands here
pub record IsSlotAt (name : List ℕ) (slots : Slots) (i : ℕ) : Type 0 where
  pub within : i < length slots
  pub slot_is : (p : List ℕ × Slot) → slice_get slots i ≡ Some p → slot_of name slots ≡ Some p.1
  pub set_is : (slot : Slot) → with_slot name slot slots ≡ map_at i (with_second slot) slots

-- the name has no slot, and its place is here
pub record IsGapAt (name : List ℕ) (slots : Slots) (i : ℕ) : Type 0 where
  pub within : i ≤ length slots
  pub none : slot_of name slots ≡ None
  pub set_is : (slot : Slot) → with_slot name slot slots ≡ insert slots i (name, slot)

-- the slot at this place made a step, and the others stayed
pub record IsSteppedAt (place moment : ℕ) (command : Command) (old : Slots) (answer : Answer) (new : Slots) : Type 0 where
  pub slot : Slot
  pub stepped : (p : List ℕ × Slot) → slice_get old place ≡ Some p → step p.1 moment command ≡ (answer, slot)
  pub new_is : new ≡ map_at place (with_second slot) old

-- the slots of a shard are those of its history, which has room for its numbers and whose contents lie in the chunks
pub record IsShard (chunks : ChunksValue) (slots : Slots) (history : List Entry) : Type 0 where
  pub replayed : slots ≡ replay history
  pub few : length history < 2 ^ 59
  pub contents : HistoryLiesIn chunks history
