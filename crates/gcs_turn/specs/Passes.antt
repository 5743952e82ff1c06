-- What a turn and its passes tell, in the words that clauses use.
use Rattle.std.specs.Prelude.{◌≡◌, ℕ, ◌<◌, List, length}
use mathlib.Core.Option.{some}
use lib.ListN.{get_elem?}
use Rattle.gcs_turn.specs.declared.object.Entry.{Entry}
use Rattle.gcs_turn.specs.declared.object.Object.{Ghosts}
use Rattle.gcs_turn.specs.declared.seats.Pass.{Pass}
use Rattle.gcs_turn.specs.declared.turn.Turn.{Turn}
use Rattle.gcs_turn.specs.declared.view.Joined.{Joined}
use Rattle.gcs_turn.specs.Turning.{Called, triple}
use Rattle.gcs_turn.specs.Seating.{OfTurn, IsFirst}

module _ {O C A H : Type 0} where
  -- the object as it was when the turn was made
  abbrev pub made_with : Turn O C A H → O
  made_with turn = turn.table.shared.key.value

  -- how many callers take turns
  abbrev pub callers_of : Turn O C A H → ℕ
  callers_of turn = turn.callers

  module _ {g : Ghosts O C A H} where
    -- the number of the caller who holds the pass
    abbrev pub caller_of : Pass O C A H g → ℕ
    caller_of pass = pass.caller

    -- the beginning of the history that the pass knows of
    abbrev pub seen_of : Pass O C A H g → List (Entry C)
    seen_of pass = pass.seat.me.0.seen

    -- the entries that were made by the pass
    abbrev pub mine_of : Pass O C A H g → List (Entry C)
    mine_of pass = pass.seat.me.0.mine

    -- the beginning of the history that the pass saw itself, without those that it took in
    abbrev pub own_of : Pass O C A H g → List (Entry C)
    own_of pass = pass.seat.me.0.own

    -- what the passes that it took in told, in that order
    abbrev pub taken_of : Pass O C A H g → List (Joined C)
    taken_of pass = pass.seat.me.0.joined

    -- the caller of the pass, what it has seen, and its entries
    abbrev pub told : Pass O C A H g → Joined C
    told pass = triple pass.seat.me.0

    -- the pass is one of this turn, and has taken no other in
    abbrev pub IsPassOf : (O → H) → Turn O C A H → Pass O C A H g → Type 0
    IsPassOf home turn pass = OfTurn turn.table.shared.table_id (home (made_with turn)) turn.callers pass.seat

    -- these are the passes of all callers of this turn, in order
    pub record AreAllOf (home : O → H) (turn : Turn O C A H) (passes : List (Pass O C A H g)) : Type 0 where
      pub count : length passes ≡ callers_of turn
      pub each : (i : ℕ) (p : Pass O C A H g) → get_elem? passes i ≡ some p → IsPassOf home turn p × (caller_of p ≡ i)

    -- the pass is the first of this turn
    abbrev pub IsFirstOf : Turn O C A H → Pass O C A H g → Type 0
    IsFirstOf turn pass = IsFirst turn.table.shared.table_id turn.callers pass.seat

    -- the passes of all other callers were taken in
    abbrev pub HasAll : Turn O C A H → Pass O C A H g → Type 0
    HasAll turn pass = (c : ℕ) → 0 < c → c < callers_of turn → (k : ℕ) × (x : Joined C) × (get_elem? (taken_of pass) k ≡ some x) × (x.caller ≡ c)

    -- the call added this entry with this answer, behind entries of others alone
    abbrev pub HasCalled : {R : Type 0} → (List (Entry C) → Entry C → R → Type 0) → Pass O C A H g → Pass O C A H g → Entry C → R → Type 0
    HasCalled answer old new e a = Called answer (caller_of old) (seen_of old) (mine_of old) (seen_of new) (mine_of new) e a
