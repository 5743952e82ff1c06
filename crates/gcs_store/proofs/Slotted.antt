-- Where a name is among slots that rise, and the slots of a history with one more entry.
use Rattle.std.proofs.Common.{◌≡◌, ℕ, zero, suc, ◌+◌, ◌^◌, ◌<◌, ◌≤◌, List, [], ◌∷◌, ◌++◌, length, get_or, Result, Ok, Err, Some, refl, ap, sym, ◌∙◌, length-append, subst, arith}
use Rattle.std.specs.Prelude.{false, IfErr, IfOk, insert, slice_get, slice_index_or, slice_set}
use Rattle.std.proofs.Math.ListN.{set}
use Rattle.std.specs.List.{AllByRecursion, HoldsAt}
use Rattle.std.specs.List.Sorted.{IsBinarySearchResult, IsNonDecreasingBy, IsPartitionPoint, IsSearchInRange}
use Rattle.std.specs.Ordering.{is_lt, nat_cmp, ordering_index, ordering_reverse}
use Rattle.std.specs.Cmp.Lexicographic.{slice_cmp}
use Rattle.std.specs.declared.cmp.Ordering.TheVariants.{Less, Equal, Greater}
use Rattle.std.proofs.lemmas.Cmp.{alike_right, nat_list_cmp_total}
use Rattle.std.proofs.lemmas.List.Sorted.{searchable_from_sorted}
use Rattle.std.proofs.lemmas.Option.{slice_get-get_or}
use Rattle.gcs_chunks.specs.Content.{ChunksValue}
use Rattle.gcs_meaning.specs.declared.command.Answer.{Answer}
use Rattle.gcs_meaning.specs.declared.command.Command.{Command}
use Rattle.gcs_meaning.specs.declared.command.Command.TheVariants.{BucketInsert}
use Rattle.gcs_meaning.specs.declared.command.Entry.{Entry}
use Rattle.gcs_meaning.specs.declared.settings.Settings.{Settings}
use Rattle.gcs_meaning.specs.Slot.{Slot, fresh_slot}
use Rattle.gcs_meaning.specs.Bounds.{AreWithin, IsSmall}
use Rattle.gcs_meaning.specs.Contents.{CommandLiesIn, HistoryLiesIn, SlotLiesIn, SlotsLieIn}
use Rattle.gcs_meaning.specs.History.{Slots, bucket_of, set_slot, first_step, shard_step, replay}
use Rattle.gcs_meaning.specs.Step.{step}
use Rattle.gcs_meaning.proofs.Bounded.{replay_within, small_within}
use Rattle.gcs_meaning.proofs.Replays.{replay-push}
use Rattle.gcs_store.specs.Shard.{IsGapAt, IsSlotAt, IsSteppedAt, AreSmall, NamesRise, with_second, IsShard}
use Rattle.gcs_bucket.proofs.Firsts.{set-map_at}

-- the element at a place
slice_get-is : {X : Type 0} → (xs : List X) (i : ℕ) (d y : X) → slice_get xs i ≡ Some y → get_or xs i d ≡ y
slice_get-is [] i d y is = grind arith
slice_get-is (x ∷ xs) zero d y is = grind arith
slice_get-is (x ∷ xs) (suc i) d y is = slice_get-is xs i d y is

-- ---- the place that a binary search finds
-- what holds of all is so at a place
pub at_of : {X : Type 0} (P : X → Type 0) (xs : List X) (j : ℕ) (d : X) → j < length xs → AllByRecursion P xs → P (slice_index_or xs j d)
at_of P [] j d within all = absurd (omega arith)
at_of P (x ∷ xs) zero d within all = all.0
at_of P (x ∷ xs) (suc j) d within all = at_of P xs j d (omega arith) all.1

next_above : (slots : Slots) → NamesRise slots → (k : ℕ) (d : List ℕ × Slot) → suc k < length slots
    → is_lt (slice_cmp nat_cmp (slice_index_or slots (suc k) d).0 (slice_index_or slots k d).0) ≡ false
next_above [] rise k d within = absurd (omega arith)
next_above (p ∷ []) rise k d within = absurd (omega arith)
next_above (p ∷ (q ∷ ps)) rise zero d within = ap is_lt (nat_list_cmp_total.antisymm q.0 p.0 ∙ ap ordering_reverse rise.0.0)
next_above (p ∷ (q ∷ ps)) rise (suc k) d within = next_above (q ∷ ps) rise.1 k d (omega arith)

rises_along : (name : List ℕ) (slots : Slots) → NamesRise slots → IsNonDecreasingBy (λ p. ordering_index (slice_cmp nat_cmp p.0 name)) slots
rises_along name slots rise = searchable_from_sorted nat_list_cmp_total (λ (p : List ℕ × Slot). p.0) slots name (λ k d low high.
    let next : suc k ≡ k + 1 = omega arith in
    subst (λ n. is_lt (slice_cmp nat_cmp (slice_index_or slots n d).0 (slice_index_or slots k d).0) ≡ false) next (next_above slots rise k d (omega arith)))

-- the names before the one that was found are smaller
past_name : (name : List ℕ) (p : List ℕ × Slot) (ps : Slots) (i : ℕ) → NamesRise (p ∷ ps) → i < length ps → slice_cmp nat_cmp (slice_index_or ps i p).0 name ≡ Equal
    → slice_cmp nat_cmp name p.0 ≡ Greater
past_name name p ps i rise within equal =
    let less = at_of (λ (q : List ℕ × Slot). slice_cmp nat_cmp p.0 q.0 ≡ Less) ps i p within rise.0 in
    nat_list_cmp_total.antisymm name p.0 ∙ ap ordering_reverse (sym (alike_right nat_list_cmp_total (slice_index_or ps i p).0 name p.0 equal) ∙ less)

slot_at : (name : List ℕ) (slots : Slots) (i : ℕ) → NamesRise slots → i < length slots → HoldsAt (λ p. slice_cmp nat_cmp p.0 name ≡ Equal) slots i → IsSlotAt name slots i
slot_at name [] i rise within equals = absurd (omega arith)
slot_at name (p ∷ ps) zero rise within equals =
    let equal : slice_cmp nat_cmp name p.0 ≡ Equal = nat_list_cmp_total.antisymm name p.0 ∙ ap ordering_reverse (equals p) in
    record {
      within = within;
      slot_is = λ q is. rw equal (ap (λ (r : List ℕ × Slot). Some r.1) (slice_get-is (p ∷ ps) zero p q is));
      set_is = λ slot. rw equal refl;
    }
slot_at name (p ∷ ps) (suc i) rise within equals =
    let rest = slot_at name ps i rise.1 (omega arith) (λ d. equals d) in
    let greater : slice_cmp nat_cmp name p.0 ≡ Greater = past_name name p ps i rise (omega arith) (equals p) in
    record {
      within = within;
      slot_is = λ q is. rw greater (rest.slot_is q is);
      set_is = λ slot. rw greater (ap (λ qs. p ∷ qs) (rest.set_is slot));
    }

gap_at : (name : List ℕ) (slots : Slots) (i : ℕ) → i ≤ length slots → IsPartitionPoint (λ p. slice_cmp nat_cmp p.0 name ≡ Less) (λ p. slice_cmp nat_cmp p.0 name ≡ Greater) slots i
    → IsGapAt name slots i
gap_at name [] zero within point = record { within = within; none = refl; set_is = λ slot. refl }
gap_at name [] (suc i) within point = absurd (omega arith)
gap_at name (p ∷ ps) zero within point =
    let less : slice_cmp nat_cmp name p.0 ≡ Less = nat_list_cmp_total.antisymm name p.0 ∙ ap ordering_reverse (point.1 0 p (omega arith) (omega arith)) in
    record { within = within; none = rw less refl; set_is = λ slot. rw less refl }
gap_at name (p ∷ ps) (suc i) within point =
    let rest = gap_at name ps i (omega arith) (λ k d low high. point.0 (suc k) d (omega arith) (omega arith), λ k d low high. point.1 (suc k) d (omega arith) (omega arith)) in
    let greater : slice_cmp nat_cmp name p.0 ≡ Greater = nat_list_cmp_total.antisymm name p.0 ∙ ap ordering_reverse (point.0 0 p (omega arith) (omega arith)) in
    record {
      within = within;
      none = rw greater rest.none;
      set_is = λ slot. rw greater (ap (λ qs. p ∷ qs) (rest.set_is slot));
    }

pub slot_found : (name : List ℕ) (slots : Slots) (r : Result ℕ ℕ) → NamesRise slots → IsSearchInRange r (length slots) → IsBinarySearchResult (λ p. slice_cmp nat_cmp p.0 name) slots r
    → IfOk r (IsSlotAt name slots)
slot_found name slots (Ok i) rise within found = slot_at name slots i rise within found
slot_found name slots (Err i) rise within found = tt

pub gap_found : (name : List ℕ) (slots : Slots) (r : Result ℕ ℕ) → NamesRise slots → IsSearchInRange r (length slots) → IsBinarySearchResult (λ p. slice_cmp nat_cmp p.0 name) slots r
    → IfErr r (IsGapAt name slots)
gap_found name slots (Ok i) rise within found = tt
gap_found name slots (Err i) rise within found = gap_at name slots i within (found (rises_along name slots rise))

-- the slot at a place is small
pub small_at : (slots : Slots) (i : ℕ) (d : List ℕ × Slot) → i < length slots → AreSmall slots → IsSmall (get_or slots i d).1
small_at [] i d within h = absurd (omega arith)
small_at (p ∷ ps) zero d within h = h.0
small_at (p ∷ ps) (suc i) d within h = small_at ps i d (omega arith) h.1

-- and lies in the chunks
pub lies_at : (chunks : ChunksValue) (slots : Slots) (i : ℕ) (d : List ℕ × Slot) → i < length slots → SlotsLieIn chunks slots → SlotLiesIn chunks (get_or slots i d).1
lies_at chunks slots i d within h = at_of (λ (p : List ℕ × Slot). SlotLiesIn chunks p.1) slots i d within h

-- a write of what a step leaves
pub stepped_at : (slots : Slots) (i : ℕ) (p : List ℕ × Slot) (moment : ℕ) (command : Command) (answer : Answer) (slot : Slot) → i < length slots → p ≡ get_or slots i p → step p.1 moment command ≡ (answer, slot) → IsSteppedAt i moment command slots answer (slice_set slots i (p.0, slot))
stepped_at slots i p moment command answer slot within is stepped = record {
  slot = slot;
  stepped = λ q at. ap (λ r. step r.1 moment command) (sym (is ∙ slice_get-is slots i p q at)) ∙ stepped;
  new_is = ap (λ q. set slots i (with_second slot q)) is ∙ set-map_at (with_second slot) slots i p within;
}

-- a step of the slot that was found is one of the shard
pub found_step : (name : List ℕ) (slots : Slots) (place moment : ℕ) (command : Command) (answer : Answer) (new : Slots) → bucket_of command ≡ Some name → IsSlotAt name slots place → IsSteppedAt place moment command slots answer new → shard_step slots moment command ≡ (answer, new)
unfolding shard_step
found_step name slots place moment command answer new named found stepped =
    let at = slice_get-get_or slots place ([], fresh_slot) found.within in
    rw (named, found.slot_is _ at, stepped.stepped _ at, found.set_is stepped.slot, ← stepped.new_is) refl

-- the slots of a history below 2^59 entries have room for one more step
pub small_from_within : (n : ℕ) (slots : Slots) → n ≤ 2 ^ 59 → AreWithin n slots → AreSmall slots
small_from_within n [] few h = tt
small_from_within n (p ∷ ps) few h = (small_within n p.1 (omega (arith, few)) h.0, small_from_within n ps few h.1)

pub small_from_shard : (chunks : ChunksValue) (slots : Slots) (history : List Entry) → IsShard chunks slots history → AreSmall slots
small_from_shard chunks slots history h = small_from_within (length history) slots (omega (arith, h.few)) (subst (AreWithin (length history)) (sym h.replayed) (replay_within history))

-- an insert on a name without a slot makes it
pub first_done : (name : List ℕ) (slots new : Slots) (place reading : ℕ) (command : Command) (bucket : List ℕ) (settings : Settings) (answer : Answer) (made : List ℕ × Slot)
    → command ≡ BucketInsert bucket settings → IsGapAt name slots place → step fresh_slot reading command ≡ (answer, made.1) → made.0 ≡ name
    → new ≡ insert slots place made → first_step name slots reading command ≡ (answer, new)
first_done name slots new place reading command bucket settings answer made is gap done named new-is =
    ap (first_step name slots reading) is
    ∙ ap (set_slot name slots) (ap (step fresh_slot reading) (sym is) ∙ done)
    ∙ ap (λ s. (answer, s)) (gap.set_is made.1 ∙ ap (λ n. insert slots place (n, made.1)) (sym named) ∙ sym new-is)

-- one more entry, with the slots that its step leaves
contents-push : (chunks : ChunksValue) (es : List Entry) (e : Entry) → HistoryLiesIn chunks es → CommandLiesIn chunks e.command → HistoryLiesIn chunks (es ++ e ∷ [])
contents-push chunks [] e h lies = (lies, tt)
contents-push chunks (first ∷ es) e h lies = (h.0, contents-push chunks es e h.1 lies)

pub shard_push : (chunks : ChunksValue) (slots new : Slots) (history : List Entry) (e : Entry) (answer : Answer) → slots ≡ replay history → length history + 1 < 2 ^ 59 → HistoryLiesIn chunks history
    → CommandLiesIn chunks e.command → shard_step slots e.moment e.command ≡ (answer, new) → IsShard chunks new (history ++ e ∷ [])
shard_push chunks slots new history e answer replayed few contents lies stepped = record {
  replayed = sym (ap (λ r. r.1) stepped) ∙ ap (λ s. (shard_step s e.moment e.command).1) replayed ∙ sym (replay-push history e);
  few = omega (arith, length-append history (e ∷ []));
  contents = contents-push chunks history e contents lies;
}
