-- What is known of a shard, once its turn was closed by the passes of all callers.
use Rattle.std.proofs.Common.{◌≡◌, ℕ, ◌≤◌, inl, inr, List, [], length, map, ap, sym, ◌∙◌, subst, arith}
use Rattle.std.proofs.lemmas.Bool.{cases_lt}
use mathlib.Core.Option.{some}
use mathlib.Core.List.{map-append}
use lib.ListN.{get_elem?, length-map}
use Rattle.atomic_table.proofs.Lists.{at_map}
use Rattle.gcs_chunks.specs.Content.{ChunksValue}
use Rattle.gcs_meaning.specs.declared.command.Answer.{Answer}
use Rattle.gcs_meaning.specs.declared.command.Command.{Command}
use Rattle.gcs_meaning.specs.declared.command.Entry.{Entry}
use Rattle.gcs_meaning.specs.Desk.{entries_of}
use Rattle.gcs_meaning.specs.History.{AreDistinct}
use Rattle.gcs_turn.specs.declared.object.Entry.{Entry as Turned}
use Rattle.gcs_turn.specs.declared.object.Object.{Ghosts}
use Rattle.gcs_turn.specs.declared.seats.Pass.{Pass}
use Rattle.gcs_turn.specs.Passes.{HasAll, IsFirstOf, callers_of, mine_of, own_of, seen_of, taken_of}
use Rattle.gcs_turn.specs.Turning.{AllNumbered, Made, Numbered, calls_by}
use Rattle.gcs_turn.proofs.Finishes.{all_taken, made_by_each}
use Rattle.gcs_turn.proofs.Histories.{at_below, there_is}
use Rattle.gcs_store.specs.declared.passes.Passes.{Passes}
use Rattle.gcs_store.specs.Closed.{AreClosed, IsClosedAs, IsOneHistory, IsPartOf}
use Rattle.gcs_store.specs.Entries.{meant, turned}
use Rattle.gcs_store.specs.Passes.{AreAllAt, AreAllPassesOf, AreGathered, rows_of, told_at, told_in}
use Rattle.gcs_store.specs.Shard.{ShardValue}
use Rattle.gcs_store.specs.Store.{AreTurns, ShardTurn, row_at, row_of, store_at, table_of}
use Rattle.gcs_store.proofs.Calls.{get_or_at}
use Rattle.gcs_store.proofs.Entries.{calls_meant, distinct_meant, numbers_meant, there_and_back}
use Rattle.gcs_store.proofs.Seats.{pass_of}

-- a caller's part of a turn's history is its part of the shard's
pub part_meant : (h : List Entry) (c : ℕ) (seen mine : List (Turned Command)) → Made (map turned h) c seen mine → IsPartOf h c (map meant seen, map meant mine)
part_meant h c seen mine made = record {
  seen = (map meant made.prefix.0, sym (there_and_back h) ∙ (ap (λ (l : List (Turned Command)). map meant l) made.prefix.1 ∙ map-append meant seen made.prefix.0));
  own = ap (entries_of c) (sym (there_and_back h)) ∙ (calls_meant c (map turned h) ∙ ap (λ (l : List (Turned Command)). map meant l) made.calls);
  numbered = numbers_meant 0 mine made.numbers;
}

-- a caller without an entry in the one has none in the other
none_meant : (h : List Entry) (c : ℕ) → calls_by c (map turned h) ≡ [] → entries_of c h ≡ []
none_meant h c none = ap (entries_of c) (sym (there_and_back h)) ∙ (calls_meant c (map turned h) ∙ ap (λ (l : List (Turned Command)). map meant l) none)

-- each caller's passes are at the store's turns
pub all_at : (chunks : ChunksValue) (callers : ℕ) (turns : List ShardTurn) (all : List Passes) → AreTurns chunks callers turns → AreAllPassesOf (store_at chunks callers turns) all → AreAllAt turns all
all_at chunks callers turns all turns_are passes_are i passes at = let own = passes_are.each i passes at in (
  record {
    as_many = own.0.as_many ∙ length-map turns table_of;
    each = λ s turn seat turn_at seat_at. let of = turns_are.each s turn turn_at in
        let p = pass_of (store_at chunks callers turns) passes.caller passes.seats.items own.0 s turn seat (record { table = at_map table_of turns s turn turn_at; home = of.0; callers = of.1 }) seat_at in (p.0, p.1 ∙ own.1);
  },
  own.1,
)

module _ (turns : List ShardTurn) (all : List Passes) (all_are : AreAllAt turns all) (s : ℕ) (turn : ShardTurn) (turn_at : get_elem? turns s ≡ some turn) where
  -- what a caller's pass at the turn tells is told by that caller
  told_caller : (i : ℕ) (passes : Passes) → get_elem? all i ≡ some passes → (told_at s passes).caller ≡ i
  told_caller i passes at = let own = all_are i passes at in let seat = there_is passes.seats.items s (let n = at_below turns s turn turn_at in omega (arith, own.0.as_many)) in
      ap (λ o. (told_in o).caller) seat.1 ∙ (sym seat.0.caller_is ∙ (own.0.each s turn seat.0 turn_at seat.1).1)

  -- and it tells the row of the shard
  told_row : (h : List Entry) (i : ℕ) (passes : Passes) → get_elem? all i ≡ some passes → Made (map turned h) i (told_at s passes).seen (told_at s passes).mine → IsPartOf h i (row_at (rows_of passes) s)
  told_row h i passes at made = let own = all_are i passes at in let seat = there_is passes.seats.items s (let n = at_below turns s turn turn_at in omega (arith, own.0.as_many)) in
      subst (IsPartOf h i) (sym (get_or_at (rows_of passes) s (row_of seat.0) ([], []) (at_map row_of passes.seats.items s seat.0 seat.1)))
      (part_meant h i (seen_of seat.0) (mine_of seat.0) (subst (λ o. Made (map turned h) i (told_in o).seen (told_in o).mine) seat.1 made))

module _ {g : Ghosts ShardValue Command Answer ChunksValue} (chunks : ChunksValue) (callers : ℕ) (turns : List ShardTurn) (all : List Passes) (firsts : List (Pass ShardValue Command Answer ChunksValue g)) (turns_are : AreTurns chunks callers turns)
    (passes_are : AreAllPassesOf (store_at chunks callers turns) all) (gathered : AreGathered turns all firsts) where
  -- the first caller's passes have taken in all others
  pub has_all : (s : ℕ) (turn : ShardTurn) (first : Pass ShardValue Command Answer ChunksValue g) → get_elem? turns s ≡ some turn → get_elem? firsts s ≡ some first → IsFirstOf turn first × HasAll turn first
  has_all s turn first turn_at first_at = let f = gathered.each s turn first turn_at first_at in (
    f.0,
    all_taken (told_at s) gathered.first gathered.others all (taken_of first) gathered.all_is f.1 (told_caller turns all (all_at chunks callers turns all turns_are passes_are) s turn turn_at) (callers_of turn)
        (passes_are.count ∙ sym (turns_are.each s turn turn_at).1),
  )

  -- the shard has one history
  one_history : (s : ℕ) (turn : ShardTurn) (first : Pass ShardValue Command Answer ChunksValue g) (shard : ShardValue) → get_elem? turns s ≡ some turn → get_elem? firsts s ≡ some first → IsClosedAs turn first shard → IsOneHistory s all shard.history
  one_history s turn first shard turn_at first_at closed =
      let f = gathered.each s turn first turn_at first_at in let all_are = all_at chunks callers turns all turns_are passes_are in let h = shard.history in
      let made : (i : ℕ) (passes : Passes) → get_elem? all i ≡ some passes → Made (map turned h) i (told_at s passes).seen (told_at s passes).mine
      = made_by_each (told_at s) gathered.first gathered.others all (taken_of first) gathered.all_is f.1 (told_caller turns all all_are s turn turn_at) (map turned h) (own_of first) (mine_of first) f.2 f.3 closed.first_made closed.taken_made in
      let none : (c : ℕ) → length all ≤ c → calls_by c (map turned h) ≡ [] = λ c above. closed.all c (let n = passes_are.count in let m = (turns_are.each s turn turn_at).1 in omega arith) in
      let numbered : AllNumbered (map turned h) = λ c. elim (cases_lt c (length all)) [
        | inl below ↦ let passes = there_is all c below in let m = made c passes.0 passes.1 in subst (Numbered 0) (sym m.calls) m.numbers
        | inr above ↦ subst (Numbered 0) (sym (none c above)) tt
      ] in
      record {
        parts = λ i passes at. told_row turns all all_are s turn turn_at h i passes at (made i passes at);
        known = λ c above. none_meant h c (none c above);
        distinct = subst AreDistinct (there_and_back h) (distinct_meant (map turned h) numbered);
      }

  -- and so has each
  pub closed : (shards : List ShardValue) → length shards ≡ length turns
      → ((s : ℕ) (turn : ShardTurn) (first : Pass ShardValue Command Answer ChunksValue g) (shard : ShardValue) → get_elem? turns s ≡ some turn → get_elem? firsts s ≡ some first → get_elem? shards s ≡ some shard → IsClosedAs turn first shard)
      → AreClosed (store_at chunks callers turns) all shards
  closed shards as_many each = record {
    sixteen = as_many ∙ turns_are.sixteen;
    chunks = λ s shard at. let n = at_below shards s shard at in let turn = there_is turns s (omega (arith, as_many)) in let first = there_is firsts s (omega (arith, as_many, gathered.as_many)) in
        (each s turn.0 first.0 shard turn.1 first.1 at).home ∙ (turns_are.each s turn.0 turn.1).0;
    histories = λ s shard at. let n = at_below shards s shard at in let turn = there_is turns s (omega (arith, as_many)) in let first = there_is firsts s (omega (arith, as_many, gathered.as_many)) in
        one_history s turn.0 first.0 shard turn.1 first.1 (each s turn.0 first.0 shard turn.1 first.1 at);
  }
