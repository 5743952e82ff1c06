use Rattle.std.proofs.Common.{◌≡◌, [], ◌∷◌, ◌++◌, length, vec_len}
use mathlib.Core.Option.{some}
use lib.ListN.{get_elem?}
use Rattle.gcs_turn.specs.Passes.{IsFirstOf, mine_of, own_of, taken_of, told}
use Rattle.gcs_store.specs.Store.{ShardTurn}
use Rattle.gcs_store.proofs.Changes.{AreChanged}
use Rattle.gcs_store.proofs.closing.take_seats.Given as goal

-- the passes from that place on have taken in their partners
abbrev pub invariant-loop-seat : goal.invariant-loop-seat
invariant-loop-seat l = record {
  given : (rest : _) × (l.fn.seats.items ≡ l.seats.items ++ rest);
  changed : AreChanged (λ s o seat p. ((t : ShardTurn) → get_elem? l.turns s ≡ some t → IsFirstOf t p) × (taken_of p ≡ taken_of o ++ told seat ∷ []) × (own_of p ≡ own_of o) × (mine_of p ≡ mine_of o)) l.fn.firsts.items l.fn.seats.items (length l.seats.items) l.firsts.items;
}

abbrev pub decreases-loop-seat : goal.decreases-loop-seat
decreases-loop-seat l = vec_len l.seats
