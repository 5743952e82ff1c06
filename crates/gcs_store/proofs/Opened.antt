-- How a store and its callers' passes come about, turn by turn.
use Rattle.std.proofs.Common.{◌≡◌, ℕ, zero, suc, List, [], ◌∷◌, ◌++◌, length, map, refl, sym, ◌∙◌, subst, ⊎_elim, arith, length-append}
use mathlib.Core.Option.{some, some-injective, some-ne-none}
use lib.ListN.{get_elem?, length-map}
use Rattle.atomic_table.specs.Seated.{TableId}
use Rattle.gcs_chunks.specs.Content.{ChunksValue}
use Rattle.gcs_meaning.specs.declared.command.Answer.{Answer}
use Rattle.gcs_meaning.specs.declared.command.Command.{Command}
use Rattle.gcs_turn.specs.declared.object.Object.{Ghosts}
use Rattle.gcs_turn.specs.declared.seats.Pass.{Pass}
use Rattle.gcs_turn.specs.Passes.{AreAllOf, IsPassOf, caller_of, callers_of, made_with, mine_of, seen_of}
use Rattle.gcs_turn.specs.Seating.{OfTurn}
use Rattle.gcs_turn.proofs.Histories.{at_below, at_end, there_is}
use Rattle.gcs_store.specs.declared.passes.Passes.{Passes}
use Rattle.gcs_store.specs.Entries.{meant}
use Rattle.gcs_store.specs.Passes.{AreAllPassesOf, HasSeenNothing}
use Rattle.gcs_store.specs.Shard.{ShardValue}
use Rattle.gcs_store.specs.Store.{AreSeatsOf, Row, ShardTurn, home_of, row_at, row_of, store_at, table_of}
use Rattle.gcs_store.proofs.Seats.{each_row}

-- an element of a list that was mapped comes from one of the list
from_map : {A B : Type 0} (f : A → B) (l : List A) (i : ℕ) (b : B) → get_elem? (map f l) i ≡ some b → (a : A) × (get_elem? l i ≡ some a) × (f a ≡ b)
from_map f [] i b e = absurd (some-ne-none b (sym e))
from_map f (x ∷ xs) zero b e = (x, refl, some-injective (f x) b e)
from_map f (x ∷ xs) (suc i) b e = from_map f xs i b e

-- each turn is one of a shard over these chunks, with so many callers
abbrev pub AreOpen : ChunksValue → ℕ → List ShardTurn → Type 0
AreOpen chunks callers turns = (s : ℕ) (turn : ShardTurn) → get_elem? turns s ≡ some turn → (home_of (made_with turn) ≡ chunks) × (callers_of turn ≡ callers)

module _ {g : Ghosts ShardValue Command Answer ChunksValue} where
  -- the pass is the caller's at this turn, and has seen nothing
  pub record IsNewSeat (turn : ShardTurn) (caller : ℕ) (seat : Pass ShardValue Command Answer ChunksValue g) : Type 0 where
    pub own : IsPassOf home_of turn seat × (caller_of seat ≡ caller)
    pub fresh : (seen_of seat ≡ []) × (mine_of seat ≡ [])

  -- the caller has such a pass at each turn
  pub record AreNewSeats (turns : List ShardTurn) (caller : ℕ) (seats : List (Pass ShardValue Command Answer ChunksValue g)) : Type 0 where
    pub as_many : length seats ≡ length turns
    pub each : (s : ℕ) (turn : ShardTurn) (seat : Pass ShardValue Command Answer ChunksValue g) → get_elem? turns s ≡ some turn → get_elem? seats s ≡ some seat → IsNewSeat turn caller seat

  -- one more turn, and its pass
  seat_more : (turns : List ShardTurn) (caller : ℕ) (seats : List (Pass ShardValue Command Answer ChunksValue g)) (turn : ShardTurn) (seat : Pass ShardValue Command Answer ChunksValue g)
      → AreNewSeats turns caller seats → IsNewSeat turn caller seat → AreNewSeats (turns ++ turn ∷ []) caller (seats ++ seat ∷ [])
  seat_more turns caller seats turn seat old new = record {
    as_many = let a = length-append seats (seat ∷ []) in let b = length-append turns (turn ∷ []) in omega (arith, old.as_many);
    each = λ s t p t_at p_at. ⊎_elim
        (λ was. ⊎_elim
        (λ own. old.each s t p was own)
        (λ (e : (s ≡ length seats) × (seat ≡ p)). let below = at_below turns s t was in let last = e.0 in absurd (omega (arith, old.as_many)))
        (at_end seats seat p s p_at))
        (λ (e : (s ≡ length turns) × (turn ≡ t)). ⊎_elim
        (λ own. let below = at_below seats s p own in let last = e.0 in absurd (omega (arith, old.as_many)))
        (λ (f : (s ≡ length seats) × (seat ≡ p)). subst (λ (x : ShardTurn × Pass ShardValue Command Answer ChunksValue g). IsNewSeat x.0 caller x.1) (λ i. (e.1 i, f.1 i)) new)
        (at_end seats seat p s p_at))
        (at_end turns turn t s t_at);
  }

  -- they are the caller's at the store of these turns
  seats_of_store : (chunks : ChunksValue) (callers : ℕ) (turns : List ShardTurn) (caller : ℕ) (seats : List (Pass ShardValue Command Answer ChunksValue g))
      → AreOpen chunks callers turns → AreNewSeats turns caller seats → AreSeatsOf (store_at chunks callers turns) caller seats
  seats_of_store chunks callers turns caller seats are_open new = record {
    as_many = new.as_many ∙ sym (length-map turns table_of);
    each = λ s table pass table_at at. let turn = from_map table_of turns s table table_at in let is = are_open s turn.0 turn.1 in let own = (new.each s turn.0 pass turn.1 at).own in
        (subst (λ (z : TableId × ChunksValue × ℕ). OfTurn z.0 z.1 z.2 pass.seat) (λ i. (turn.2 i, is.0 i, is.1 i)) own.0, own.1);
  }

  -- and they tell nothing
  fresh_rows : (turns : List ShardTurn) (caller : ℕ) (seats : List (Pass ShardValue Command Answer ChunksValue g)) → AreNewSeats turns caller seats → (s : ℕ) → row_at (map row_of seats) s ≡ ([], [])
  fresh_rows turns caller seats new = each_row row_of (λ (r : Row). r ≡ ([], [])) seats
      (λ s seat at. let below = at_below seats s seat at in let turn = there_is turns s (omega (arith, new.as_many)) in let fresh = (new.each s turn.0 seat turn.1 at).fresh in λ i. (map meant (fresh.0 i), map meant (fresh.1 i)))
      refl

-- a store of these turns, with the passes of all its callers, none of whom has seen anything
pub record IsOpened (chunks : ChunksValue) (callers : ℕ) (turns : List ShardTurn) (all : List Passes) : Type 0 where
  pub are_open : AreOpen chunks callers turns
  pub count : length all ≡ callers
  pub each : (i : ℕ) (p : Passes) → get_elem? all i ≡ some p → (p.caller ≡ i) × AreNewSeats turns i p.seats.items

-- one turn more
pub one_opened : (chunks : ChunksValue) (callers : ℕ) (turns : List ShardTurn) (all new : List Passes) (turn : ShardTurn) (seats : List _) → IsOpened chunks callers turns all
    → (callers_of turn ≡ callers) × (home_of (made_with turn) ≡ chunks) → AreAllOf home_of turn seats → ((i : ℕ) (p : _) → get_elem? seats i ≡ some p → (seen_of p ≡ []) × (mine_of p ≡ []))
    → length new ≡ length all
    → ((i : ℕ) (p : Passes) → get_elem? new i ≡ some p → (o : Passes) × (seat : _) × (get_elem? all i ≡ some o) × (get_elem? seats i ≡ some seat) × (p.caller ≡ o.caller) × (p.seats.items ≡ o.seats.items ++ seat ∷ []))
    → IsOpened chunks callers (turns ++ turn ∷ []) new
one_opened chunks callers turns all new turn seats old is own fresh as_many more = record {
  are_open = λ s t at. ⊎_elim (λ was. old.are_open s t was) (λ (e : (s ≡ length turns) × (turn ≡ t)). subst (λ (x : ShardTurn). (home_of (made_with x) ≡ chunks) × (callers_of x ≡ callers)) e.1 (is.1, is.0)) (at_end turns turn t s at);
  count = as_many ∙ old.count;
  each = λ i p at. let m = more i p at in let was = old.each i m.0 m.2 in
      (m.4 ∙ was.0, subst (AreNewSeats (turns ++ turn ∷ []) i) (sym m.5) (seat_more turns i m.0.seats.items turn m.1 was.1 (record { own = own.each i m.1 m.3; fresh = fresh i m.1 m.3 })));
}

-- what the store of these turns and its passes are
pub passes_of_store : (chunks : ChunksValue) (callers : ℕ) (turns : List ShardTurn) (all : List Passes) → IsOpened chunks callers turns all → AreAllPassesOf (store_at chunks callers turns) all
passes_of_store chunks callers turns all opened = record {
  count = opened.count;
  each = λ i p at. let e = opened.each i p at in (subst (λ (c : ℕ). AreSeatsOf (store_at chunks callers turns) c p.seats.items) (sym e.0) (seats_of_store chunks callers turns i p.seats.items opened.are_open e.1), e.0);
}

pub fresh_passes : (chunks : ChunksValue) (callers : ℕ) (turns : List ShardTurn) (all : List Passes) → IsOpened chunks callers turns all → (i : ℕ) (p : Passes) → get_elem? all i ≡ some p → HasSeenNothing p
fresh_passes chunks callers turns all opened i p at = fresh_rows turns i p.seats.items (opened.each i p at).1
