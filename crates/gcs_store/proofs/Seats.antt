-- A caller's passes at a store, one of them changed, and what they tell.
use Rattle.std.proofs.Common.{◌≡◌, ℕ, zero, suc, List, [], ◌∷◌, map, set, refl, ap, sym, ◌∙◌, subst, ⊎_elim, arith, length-set}
use mathlib.Core.Option.{some, some-injective}
use lib.ListN.{get_elem?}
use Rattle.atomic_table.proofs.Lists.{at_set}
use Rattle.atomic_table.specs.Seated.{TableId}
use Rattle.gcs_chunks.specs.Content.{ChunksValue}
use Rattle.gcs_meaning.specs.declared.command.Answer.{Answer}
use Rattle.gcs_meaning.specs.declared.command.Command.{Command}
use Rattle.gcs_meaning.specs.Desk.{AreLists, AreNumbered, entries_of}
use Rattle.gcs_meaning.specs.History.{AreDistinct}
use Rattle.gcs_turn.specs.declared.object.Entry.{Entry as Turned}
use Rattle.gcs_turn.specs.declared.object.Object.{Ghosts}
use Rattle.gcs_turn.specs.declared.seats.Pass.{Pass}
use Rattle.gcs_turn.specs.Passes.{IsPassOf, caller_of, callers_of, made_with, mine_of, seen_of}
use Rattle.gcs_turn.specs.Seating.{OfTurn}
use Rattle.gcs_turn.specs.Turning.{AllNumbered, Numbered, calls_by}
use Rattle.gcs_turn.proofs.Histories.{at_below, there_is}
use Rattle.gcs_store.specs.Entries.{meant}
use Rattle.gcs_store.specs.Shard.{ShardValue}
use Rattle.gcs_store.specs.Store.{AreSeatsOf, IsSeatOf, Row, ShardTurn, StoreValue, home_of, mine_in, row_at, row_of, seen_in, table_of}
use Rattle.gcs_store.proofs.Entries.{calls_meant, distinct_meant, numbers_meant}

-- the turn is the one of the shard s at this store
pub record IsTurnOf (store : StoreValue) (s : ℕ) (turn : ShardTurn) : Type 0 where
  pub table : get_elem? store.tables s ≡ some (table_of turn)
  pub home : home_of (made_with turn) ≡ store.chunks
  pub callers : callers_of turn ≡ store.callers

-- what a caller knows of a shard: its entries there are its own list, numbered from 0, and no two are alike
abbrev Known : ℕ → Row → Type 0
Known caller row = (entries_of caller row.0 ≡ row.1) × AreNumbered 0 row.1 × AreDistinct row.0

-- a pass tells that
known_row : (caller : ℕ) (seen mine : List (Turned Command)) → calls_by caller seen ≡ mine → AllNumbered seen → Known caller (map meant seen, map meant mine)
known_row caller seen mine own numbered = (
  calls_meant caller seen ∙ ap (λ (l : List (Turned Command)). map meant l) own,
  numbers_meant 0 mine (subst (Numbered 0) own (numbered caller)),
  distinct_meant seen numbered,
)

-- what holds of each row, and of one without an entry, holds of every shard
pub each_row : {A : Type 0} (row : A → Row) (P : Row → Type 0) (l : List A) → ((s : ℕ) (a : A) → get_elem? l s ≡ some a → P (row a)) → P ([], []) → (s : ℕ) → P (row_at (map row l) s)
each_row row P [] each none s = none
each_row row P (x ∷ xs) each none zero = each zero x refl
each_row row P (x ∷ xs) each none (suc s) = each_row row P xs (λ t a at. each (suc t) a at) none s

module _ {g : Ghosts ShardValue Command Answer ChunksValue} (store : StoreValue) (caller : ℕ) (seats : List (Pass ShardValue Command Answer ChunksValue g)) (all : AreSeatsOf store caller seats) where
  -- the caller's pass for a shard is one of the shard's turn
  pub pass_of : (s : ℕ) (turn : ShardTurn) (seat : Pass ShardValue Command Answer ChunksValue g) → IsTurnOf store s turn → get_elem? seats s ≡ some seat → IsPassOf home_of turn seat × (caller_of seat ≡ caller)
  pass_of s turn seat of at = let own = all.each s (table_of turn) seat of.table at in
      (subst (λ (z : ChunksValue × ℕ). OfTurn (table_of turn) z.0 z.1 seat.seat) (λ i. (sym of.home i, sym of.callers i)) own.0, own.1)

  -- they are the caller's passes still after one made a call
  pub seats_with : (s : ℕ) (turn : ShardTurn) (new : Pass ShardValue Command Answer ChunksValue g) → IsTurnOf store s turn → IsPassOf home_of turn new → caller_of new ≡ caller → AreSeatsOf store caller (set seats s new)
  seats_with s turn new of own same = record {
    as_many = length-set seats s new ∙ all.as_many;
    each = λ q table seat table_at at. ⊎_elim
        (λ (e : (q ≡ s) × (new ≡ seat)).
        let is : table_of turn ≡ table = some-injective (table_of turn) table (sym of.table ∙ (ap (λ (k : ℕ). get_elem? store.tables k) (sym e.0) ∙ table_at)) in
        subst (λ (x : Pass ShardValue Command Answer ChunksValue g). IsSeatOf store caller table x) e.1
        (subst (λ (z : TableId × ChunksValue × ℕ). OfTurn z.0 z.1 z.2 new.seat) (λ i. (is i, of.home i, of.callers i)) own, same))
        (λ e. all.each q table seat table_at e.1)
        (at_set seats s q new seat at);
  }

  -- what a pass has seen and made of its shard
  seat_tells : (s : ℕ) (seat : Pass ShardValue Command Answer ChunksValue g) → get_elem? seats s ≡ some seat → (calls_by caller (seen_of seat) ≡ mine_of seat) × AllNumbered (seen_of seat)
  seat_tells s seat at = let below = at_below seats s seat at in let z = there_is store.tables s (omega (arith, all.as_many)) in let own = all.each s z.0 seat z.1 at in
      (ap (λ (c : ℕ). calls_by c (seen_of seat)) (sym own.1 ∙ seat.caller_is) ∙ own.0.calls, own.0.numbers)

  -- what the caller knows
  pub known_lists : AreLists caller (seen_in (map row_of seats)) (mine_in (map row_of seats))
  known_lists = let known : (s : ℕ) → Known caller (row_at (map row_of seats) s) = each_row row_of (Known caller) seats (λ s seat at. let told = seat_tells s seat at in known_row caller (seen_of seat) (mine_of seat) told.0 told.1) (refl, tt, tt) in record {
    own = λ s. (known s).0;
    numbered = λ s. (known s).1;
    distinct = λ s. (known s).2;
  }
