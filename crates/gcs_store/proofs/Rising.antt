-- The slots of a history rise by name.
use Rattle.std.proofs.Common.{◌≡◌, ℕ, List, [], ◌∷◌, Option, Some, None, refl, ap, sym, ◌∙◌, subst}
use Rattle.std.specs.List.{AllByRecursion}
use Rattle.std.specs.Ordering.{nat_cmp, ordering_reverse}
use Rattle.std.specs.Cmp.Lexicographic.{slice_cmp}
use Rattle.std.specs.declared.cmp.Ordering.{Ordering}
use Rattle.std.specs.declared.cmp.Ordering.TheVariants.{Less, Equal, Greater}
use Rattle.std.proofs.lemmas.Cmp.{nat_list_cmp_total}
use Rattle.gcs_chunks.specs.Content.{ChunksValue}
use Rattle.gcs_meaning.specs.declared.command.Command.{Command}
use Rattle.gcs_meaning.specs.declared.command.Command.TheVariants.{BucketInsert, BucketRestore}
use Rattle.gcs_meaning.specs.declared.command.Entry.{Entry}
use Rattle.gcs_meaning.specs.Slot.{Slot}
use Rattle.gcs_meaning.specs.History.{Slots, bucket_of, first_step, named_step, replay_from, set_by, shard_step, slot_of, slot_step, with_slot}
use Rattle.gcs_store.specs.Shard.{IsShard, NamesRise}

-- all of the names are greater
abbrev AreAbove : List ℕ → Slots → Type 0
AreAbove name slots = AllByRecursion (λ q. slice_cmp nat_cmp name q.0 ≡ Less) slots

above_trans : (name k : List ℕ) → slice_cmp nat_cmp name k ≡ Less → (ps : Slots) → AreAbove k ps → AreAbove name ps
above_trans name k less [] h = tt
above_trans name k less (q ∷ qs) h = (nat_list_cmp_total.trans name k q.0 less h.0, above_trans name k less qs h.1)

-- ---- where a slot is set
above_by : (o : Ordering) (k name : List ℕ) (slot : Slot) (q : List ℕ × Slot) (qs rest : Slots) → slice_cmp nat_cmp k name ≡ Less → slice_cmp nat_cmp k q.0 ≡ Less
    → AreAbove k qs → AreAbove k rest → AreAbove k (set_by o name slot q qs rest)
above_by Less k name slot q qs rest less first more deeper = (less, (first, more))
above_by Equal k name slot q qs rest less first more deeper = (first, more)
above_by Greater k name slot q qs rest less first more deeper = (first, deeper)

above_set : (k name : List ℕ) (slot : Slot) (ps : Slots) → slice_cmp nat_cmp k name ≡ Less → AreAbove k ps → AreAbove k (with_slot name slot ps)
above_set k name slot [] less h = (less, tt)
above_set k name slot (q ∷ qs) less h =
    above_by (slice_cmp nat_cmp name q.0) k name slot q qs (with_slot name slot qs) less h.0 h.1 (above_set k name slot qs less h.1)

rising_by : (o : Ordering) (name : List ℕ) (slot : Slot) (q : List ℕ × Slot) (qs : Slots) → slice_cmp nat_cmp name q.0 ≡ o → NamesRise (q ∷ qs) → NamesRise (with_slot name slot qs)
    → NamesRise (set_by o name slot q qs (with_slot name slot qs))
rising_by Less name slot q qs is h deeper = ((is, above_trans name q.0 is qs h.0), h)
rising_by Equal name slot q qs is h deeper = h
rising_by Greater name slot q qs is h deeper =
    (above_set q.0 name slot qs (nat_list_cmp_total.antisymm q.0 name ∙ ap ordering_reverse is) h.0, deeper)

rising_set : (name : List ℕ) (slot : Slot) (ps : Slots) → NamesRise ps → NamesRise (with_slot name slot ps)
rising_set name slot [] h = (tt, tt)
rising_set name slot (q ∷ qs) h = rising_by (slice_cmp nat_cmp name q.0) name slot q qs refl h (rising_set name slot qs h.1)

-- ---- over a command and a history
first_rises : (command : Command) (name : List ℕ) (slots : Slots) (moment : ℕ) → NamesRise slots → NamesRise (first_step name slots moment command).1
first_rises (BucketInsert bucket settings) name slots moment h = rising_set name _ slots h
first_rises (BucketRestore bucket generation) name slots moment h = h
first_rises _ name slots moment h = h

slot_rises : (found : Option Slot) (name : List ℕ) (slots : Slots) (moment : ℕ) (command : Command) → NamesRise slots → NamesRise (slot_step found name slots moment command).1
slot_rises None name slots moment command h = first_rises command name slots moment h
slot_rises (Some slot) name slots moment command h = rising_set name _ slots h

named_rises : (named : Option (List ℕ)) (slots : Slots) (moment : ℕ) (command : Command) → NamesRise slots → NamesRise (named_step named slots moment command).1
named_rises None slots moment command h = h
named_rises (Some name) slots moment command h = slot_rises (slot_of name slots) name slots moment command h

shard_rises : (slots : Slots) (moment : ℕ) (command : Command) → NamesRise slots → NamesRise (shard_step slots moment command).1
unfolding shard_step
shard_rises slots moment command h = named_rises (bucket_of command) slots moment command h

replay_rises : (es : List Entry) (slots : Slots) → NamesRise slots → NamesRise (replay_from slots es)
replay_rises [] slots h = h
replay_rises (e ∷ es) slots h = replay_rises es (shard_step slots e.moment e.command).1 (shard_rises slots e.moment e.command h)

pub rising_from_shard : (chunks : ChunksValue) (slots : Slots) (history : List Entry) → IsShard chunks slots history → NamesRise slots
rising_from_shard chunks slots history h = subst NamesRise (sym h.replayed) (replay_rises history [] tt)
