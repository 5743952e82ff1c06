-- A bucket stands apart from the others of its shard: what is done to them leaves its slot, and its own answers look at that slot alone.
use Rattle.std.proofs.Common.{◌≡◌, ◌≢◌, ℕ, Bool, true, false, List, [], ◌∷◌, ◌++◌, Option, Some, None, refl, ap, sym, ◌∙◌}
use Rattle.std.specs.Prelude.{if◌then◌else◌}
use Rattle.std.specs.Ordering.{nat_cmp, ordering_reverse, is_eq}
use Rattle.std.specs.Cmp.Lexicographic.{slice_cmp}
use Rattle.std.specs.declared.cmp.Ordering.{Ordering}
use Rattle.std.specs.declared.cmp.Ordering.TheVariants.{Less, Equal, Greater}
use Rattle.std.proofs.lemmas.Cmp.{nat_list_cmp_total}
use Rattle.std.proofs.lemmas.List.Elements.{filter-append}
use Rattle.std.proofs.lemmas.Map.Text.{is_eq-slice_cmp}
use Rattle.std.proofs.lemmas.Slice.Eq.{bytes_eq-Decides}
use Rattle.gcs_meaning.specs.declared.command.Answer.{Answer}
use Rattle.gcs_meaning.specs.declared.command.Command.{Command}
use Rattle.gcs_meaning.specs.declared.command.Command.TheVariants.{BucketInsert, BucketRestore}
use Rattle.gcs_meaning.specs.declared.command.Entry.{Entry}
use Rattle.gcs_meaning.specs.Slot.{Slot, fresh_slot}
use Rattle.gcs_meaning.specs.Step.{step}
use Rattle.gcs_meaning.specs.History.{Slots, AnswersAt, answer_of, bucket_of, first_step, found_by, replay, replay_from, set_by, shard_step, slot_of, slot_step, with_slot}
use Rattle.gcs_meaning.specs.Apart.{BucketsStandApart, is_named, only}

-- ---- the slot of a name where another one is set

found_new : (r : Ordering) (slot : Slot) (rest : Option Slot) → r ≢ Equal → (r ≡ Less → rest ≡ None) → found_by r slot rest ≡ rest
found_new Less slot rest differ none = sym (none refl)
found_new Equal slot rest differ none = absurd (differ refl)
found_new Greater slot rest differ none = refl

found_other : (q : Ordering) (s t : Slot) (rest : Option Slot) → q ≢ Equal → found_by q s rest ≡ found_by q t rest
found_other Less s t rest differ = refl
found_other Equal s t rest differ = absurd (differ refl)
found_other Greater s t rest differ = refl

apart_by : (o : Ordering) (a b : List ℕ) (s : Slot) (p : List ℕ × Slot) (ps placed : Slots) → o ≡ slice_cmp nat_cmp b p.0 → slice_cmp nat_cmp a b ≢ Equal
    → slot_of a placed ≡ slot_of a ps → slot_of a (set_by o b s p ps placed) ≡ slot_of a (p ∷ ps)
apart_by Less a b s p ps placed is differ same =
    found_new (slice_cmp nat_cmp a b) s (slot_of a (p ∷ ps)) differ
    (λ less. ap (λ o. found_by o p.1 (slot_of a ps)) (nat_list_cmp_total.trans a b p.0 less (sym is)))
apart_by Equal a b s p ps placed is differ same =
    found_other (slice_cmp nat_cmp a p.0) s p.1 (slot_of a ps)
    (λ equal. differ (nat_list_cmp_total.congr a p.0 b equal ∙ nat_list_cmp_total.antisymm p.0 b ∙ ap ordering_reverse (sym is)))
apart_by Greater a b s p ps placed is differ same = ap (found_by (slice_cmp nat_cmp a p.0) p.1) same

set_apart : (a b : List ℕ) (s : Slot) → slice_cmp nat_cmp a b ≢ Equal → (slots : Slots) → slot_of a (with_slot b s slots) ≡ slot_of a slots
set_apart a b s differ [] = found_new (slice_cmp nat_cmp a b) s None differ (λ less. refl)
set_apart a b s differ (p ∷ ps) = apart_by (slice_cmp nat_cmp b p.0) a b s p ps (with_slot b s ps) refl differ (set_apart a b s differ ps)

-- ---- the slot of a name where it is set

is_equal : (o : Ordering) → o ≡ ordering_reverse o → o ≡ Equal
is_equal Less h = cc
is_equal Equal h = refl
is_equal Greater h = cc

own_by : (o : Ordering) (a : List ℕ) (s : Slot) (p : List ℕ × Slot) (ps placed : Slots) → o ≡ slice_cmp nat_cmp a p.0 → slot_of a placed ≡ Some s
    → slot_of a (set_by o a s p ps placed) ≡ Some s
own_by Less a s p ps placed is deeper =
    ap (λ o. found_by o s (slot_of a (p ∷ ps))) (is_equal (slice_cmp nat_cmp a a) (nat_list_cmp_total.antisymm a a))
own_by Equal a s p ps placed is deeper = ap (λ o. found_by o s (slot_of a ps)) (sym is)
own_by Greater a s p ps placed is deeper = ap (λ o. found_by o p.1 (slot_of a placed)) (sym is) ∙ deeper

set_own : (a : List ℕ) (s : Slot) (slots : Slots) → slot_of a (with_slot a s slots) ≡ Some s
set_own a s [] = ap (λ o. found_by o s None) (is_equal (slice_cmp nat_cmp a a) (nat_list_cmp_total.antisymm a a))
set_own a s (p ∷ ps) = own_by (slice_cmp nat_cmp a p.0) a s p ps (with_slot a s ps) refl (set_own a s ps)

-- ---- one command

-- what a command makes of the slot that it names
abbrev first_after : ℕ → Command → Option Slot
first_after reading (BucketInsert bucket settings) = Some (step fresh_slot reading (BucketInsert bucket settings)).1
first_after reading _ = None

abbrev after : Option Slot → ℕ → Command → Option Slot
after (Some s) reading command = Some (step s reading command).1
after None reading command = first_after reading command

first_own : (command : Command) (a : List ℕ) (slots : Slots) (reading : ℕ) → slot_of a slots ≡ None → slot_of a (first_step a slots reading command).1 ≡ first_after reading command
first_own (BucketInsert bucket settings) a slots reading none = set_own a (step fresh_slot reading (BucketInsert bucket settings)).1 slots
first_own _ a slots reading none = none

slot_own : (found : Option Slot) (a : List ℕ) (slots : Slots) (reading : ℕ) (command : Command) → slot_of a slots ≡ found
    → slot_of a (slot_step found a slots reading command).1 ≡ after found reading command
slot_own (Some s) a slots reading command is = set_own a (step s reading command).1 slots
slot_own None a slots reading command is = first_own command a slots reading is

-- a command that names the bucket makes of its slot what depends on that slot alone
shard_own : (a : List ℕ) (slots : Slots) (reading : ℕ) (command : Command) → bucket_of command ≡ Some a → slot_of a (shard_step slots reading command).1 ≡ after (slot_of a slots) reading command
unfolding shard_step
shard_own a slots reading command named = rw named (slot_own (slot_of a slots) a slots reading command refl)

first_other : (command : Command) (a b : List ℕ) (slots : Slots) (reading : ℕ) → slice_cmp nat_cmp a b ≢ Equal → slot_of a (first_step b slots reading command).1 ≡ slot_of a slots
first_other (BucketInsert bucket settings) a b slots reading differ = set_apart a b (step fresh_slot reading (BucketInsert bucket settings)).1 differ slots
first_other _ a b slots reading differ = refl

slot_other : (found : Option Slot) (a b : List ℕ) (slots : Slots) (reading : ℕ) (command : Command) → slice_cmp nat_cmp a b ≢ Equal
    → slot_of a (slot_step found b slots reading command).1 ≡ slot_of a slots
slot_other (Some s) a b slots reading command differ = set_apart a b (step s reading command).1 differ slots
slot_other None a b slots reading command differ = first_other command a b slots reading differ

-- a command that names another bucket leaves the slot
shard_other : (a b : List ℕ) (slots : Slots) (reading : ℕ) (command : Command) → bucket_of command ≡ Some b → slice_cmp nat_cmp a b ≢ Equal
    → slot_of a (shard_step slots reading command).1 ≡ slot_of a slots
unfolding shard_step
shard_other a b slots reading command named differ = rw named (slot_other (slot_of b slots) a b slots reading command differ)

none_stays : (a : List ℕ) (slots : Slots) (reading : ℕ) (command : Command) → bucket_of command ≡ None → slot_of a (shard_step slots reading command).1 ≡ slot_of a slots
unfolding shard_step
none_stays a slots reading command named = rw named refl

-- ---- a history

alone_by : (b : Bool) (named : Option (List ℕ)) (a : List ℕ) (e : Entry) (es : List Entry) (xs ys : Slots) → bucket_of e.command ≡ named → is_named a named ≡ b → slot_of a xs ≡ slot_of a ys
    → ((us vs : Slots) → slot_of a us ≡ slot_of a vs → slot_of a (replay_from us es) ≡ slot_of a (replay_from vs (only a es)))
    → slot_of a (replay_from (shard_step xs e.moment e.command).1 es) ≡ slot_of a (replay_from ys (if b then e ∷ only a es else only a es))
alone_by true None a e es xs ys is h same more = cc
alone_by true (Some c) a e es xs ys is h same more =
    let named : bucket_of e.command ≡ Some a = is ∙ ap Some (sym ((bytes_eq-Decides a c).0 h)) in
    more _ _ (shard_own a xs e.moment e.command named ∙ ap (λ s. after s e.moment e.command) same ∙ sym (shard_own a ys e.moment e.command named))
alone_by false None a e es xs ys is h same more = more _ _ (none_stays a xs e.moment e.command is ∙ same)
alone_by false (Some c) a e es xs ys is h same more =
    let differ : slice_cmp nat_cmp a c ≢ Equal = λ equal. (let yes : true ≡ false = sym (ap is_eq equal) ∙ is_eq-slice_cmp a c ∙ h in cc) in
    more _ _ (shard_other a c xs e.moment e.command is differ ∙ same)

alone : (a : List ℕ) (es : List Entry) (xs ys : Slots) → slot_of a xs ≡ slot_of a ys → slot_of a (replay_from xs es) ≡ slot_of a (replay_from ys (only a es))
alone a [] xs ys same = same
alone a (e ∷ es) xs ys same = alone_by (is_named a (bucket_of e.command)) (bucket_of e.command) a e es xs ys refl refl same (alone a es)

slot_alone : (a : List ℕ) (history : List Entry) → slot_of a (replay (only a history)) ≡ slot_of a (replay history)
slot_alone a history = sym (alone a history [] [] refl)

-- ---- answers

first_answer : (command : Command) (a : List ℕ) (xs ys : Slots) (reading : ℕ) → (first_step a xs reading command).0 ≡ (first_step a ys reading command).0
first_answer (BucketInsert bucket settings) a xs ys reading = refl
first_answer (BucketRestore bucket generation) a xs ys reading = refl
first_answer _ a xs ys reading = refl

slot_answer : (found : Option Slot) (a : List ℕ) (xs ys : Slots) (reading : ℕ) (command : Command)
    → (slot_step found a xs reading command).0 ≡ (slot_step found a ys reading command).0
slot_answer (Some s) a xs ys reading command = refl
slot_answer None a xs ys reading command = first_answer command a xs ys reading

-- a command that names the bucket is answered by its slot alone
shard_answer : (a : List ℕ) (xs ys : Slots) (reading : ℕ) (command : Command) → bucket_of command ≡ Some a → slot_of a xs ≡ slot_of a ys
    → (shard_step xs reading command).0 ≡ (shard_step ys reading command).0
unfolding shard_step
shard_answer a xs ys reading command named same =
    rw named (ap (λ found. (slot_step found a xs reading command).0) same ∙ slot_answer (slot_of a ys) a xs ys reading command)

answer_alone : (a : List ℕ) (before : List Entry) (moment : ℕ) (command : Command) → bucket_of command ≡ Some a
    → answer_of (only a before) moment command ≡ answer_of before moment command
answer_alone a before moment command named = shard_answer a (replay (only a before)) (replay before) moment command named (slot_alone a before)

-- an entry that names the bucket stands among its own
kept_own : (a : List ℕ) (e : Entry) (es : List Entry) → bucket_of e.command ≡ Some a → only a (e ∷ es) ≡ e ∷ only a es
kept_own a e es named =
    let own : is_named a (bucket_of e.command) ≡ true = ap (is_named a) named ∙ (bytes_eq-Decides a a).1 refl in
    ap (λ b. if b then e ∷ only a es else only a es) own

answers_alone : (a : List ℕ) (history : List Entry) (caller number moment : ℕ) (command : Command) (answer : Answer) → bucket_of command ≡ Some a
    → AnswersAt history caller number moment command answer → AnswersAt (only a history) caller number moment command answer
answers_alone a history caller number moment command answer named (before, after, whole, is) =
    let e : Entry = record { caller = caller; number = number; moment = moment; command = command } in (
      only a before,
      only a after,
      ap (only a) whole ∙ filter-append (λ e. is_named a (bucket_of e.command)) before (e ∷ after) ∙ ap (λ es. only a before ++ es) (kept_own a e after named),
      is ∙ sym (answer_alone a before moment command named),
    )

pub buckets_stand_apart : BucketsStandApart
buckets_stand_apart = record {
  slot = slot_alone;
  answer = answer_alone;
  answers = answers_alone;
}
