-- What a call at the turn of a shard does to the rows of a desk.
use Rattle.std.proofs.Common.{◌≡◌, ℕ, zero, suc, ◌<◌, List, [], ◌∷◌, length, map, get_or, set, ap, sym, subst, arith}
use mathlib.Core.Option.{some, some-injective, some-ne-none}
use lib.ListN.{get_elem?, length-map}
use lib.Seq.{map-set}
use Rattle.atomic_table.proofs.Lists.{at_index, at_map}
use Rattle.gcs_chunks.specs.Content.{ChunksValue}
use Rattle.gcs_meaning.specs.declared.command.Answer.{Answer}
use Rattle.gcs_meaning.specs.declared.command.Command.{Command}
use Rattle.gcs_meaning.specs.Desk.{AreUnmoved, IsStepped}
use Rattle.gcs_turn.specs.declared.object.Object.{Ghosts}
use Rattle.gcs_turn.specs.declared.seats.Pass.{Pass}
use Rattle.gcs_turn.specs.Passes.{HasCalled, IsPassOf, caller_of, mine_of, seen_of}
use Rattle.gcs_turn.specs.Turning.{Called}
use Rattle.gcs_turn.proofs.Histories.{at_below}
use Rattle.gcs_store.specs.Entries.{meant}
use Rattle.gcs_store.specs.Shard.{ShardValue}
use Rattle.gcs_store.specs.Store.{AreSeatsOf, Row, ShardTurn, StoreValue, home_of, mine_in, row_at, row_of, seen_in, table_of}
use Rattle.gcs_store.proofs.Rows.{answers, called, unmoved}
use Rattle.gcs_store.proofs.Seats.{IsTurnOf, pass_of}

-- an element that is there is what is read at its place, whatever is read past the end
pub get_or_at : {A : Type 0} (l : List A) (i : ℕ) (a d : A) → get_elem? l i ≡ some a → get_or l i d ≡ a
get_or_at [] i a d e = absurd (some-ne-none a (sym e))
get_or_at (x ∷ xs) zero a d e = some-injective x a e
get_or_at (x ∷ xs) (suc i) a d e = get_or_at xs i a d e

module _ {g : Ghosts ShardValue Command Answer ChunksValue} (store : StoreValue) (caller : ℕ) (seats : List (Pass ShardValue Command Answer ChunksValue g)) (all : AreSeatsOf store caller seats) (s : ℕ) (turn : ShardTurn) (of : IsTurnOf store s turn) where
  -- the caller has a pass for the turn of a shard
  pub seat_there : s < length seats
  seat_there = let below = at_below store.tables s (table_of turn) of.table in omega (arith, all.as_many)

  -- which is the one that is read there
  pub seat_at : (pass : Pass ShardValue Command Answer ChunksValue g) → pass ≡ get_or seats s pass → get_elem? seats s ≡ some pass
  seat_at pass is = at_index seats s pass seat_there is

module _ {g : Ghosts ShardValue Command Answer ChunksValue} (store : StoreValue) (caller : ℕ) (seats : List (Pass ShardValue Command Answer ChunksValue g)) (all : AreSeatsOf store caller seats) (s : ℕ) (turn : ShardTurn) (of : IsTurnOf store s turn)
    (pass new : Pass ShardValue Command Answer ChunksValue g) (at : get_elem? seats s ≡ some pass) where
  -- the shard has a row
  within : s < length (map row_of seats)
  within = let below = at_below seats s pass at in omega (arith, length-map seats row_of)

  -- which the pass tells
  row_is : row_of pass ≡ row_at (map row_of seats) s
  row_is = sym (get_or_at (map row_of seats) s (row_of pass) ([], []) (at_map row_of seats s pass at))

  -- a call that went through is a step of the desk's caller
  pub moved : IsPassOf home_of turn new → (moment : ℕ) (command : Command) (a : Answer) → HasCalled answers pass new (record { caller = caller_of pass; number = length (mine_of pass); moment = moment; command = command }) a
      → IsStepped caller (seen_in (map row_of seats)) (mine_in (map row_of seats)) (seen_in (map row_of (set seats s new))) (mine_in (map row_of (set seats s new))) s moment command a
  moved own moment command a call =
      subst (λ (rows : List Row). IsStepped caller (seen_in (map row_of seats)) (mine_in (map row_of seats)) (seen_in rows) (mine_in rows) s moment command a) (sym (map-set row_of seats s new))
      (called (map row_of seats) s caller moment command a (seen_of pass) (mine_of pass) (seen_of new) (mine_of new) within row_is
      (subst (λ (c : ℕ). Called answers c (seen_of pass) (mine_of pass) (seen_of new) (mine_of new) (record { caller = c; number = length (mine_of pass); moment = moment; command = command }) a) (pass_of store caller seats all s turn pass of at).1 call)
      own.numbers)

  -- a call that did not leaves all rows
  pub stayed : seen_of new ≡ seen_of pass → mine_of new ≡ mine_of pass → AreUnmoved (seen_in (map row_of seats)) (mine_in (map row_of seats)) (seen_in (map row_of (set seats s new))) (mine_in (map row_of (set seats s new)))
  stayed seen mine =
      subst (λ (rows : List Row). AreUnmoved (seen_in (map row_of seats)) (mine_in (map row_of seats)) (seen_in rows) (mine_in rows)) (sym (map-set row_of seats s new))
      (unmoved (map row_of seats) s (row_of pass) (row_of new) within row_is (ap (λ l. map meant l) seen) (ap (λ l. map meant l) mine))
