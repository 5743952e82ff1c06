use Rattle.std.proofs.Common.{◌≡◌, ◌++◌, ℕ, map}
use mathlib.Core.Option.{some}
use lib.ListN.{get_elem?}
use Rattle.gcs_turn.specs.Passes.{IsFirstOf, IsPassOf, taken_of, own_of, mine_of, told}
use Rattle.gcs_turn.proofs.turn.Turn.take_all.Given as goal

abbrev pub invariant-loop-other : goal.invariant-loop-other
invariant-loop-other g l = record {
  first : IsFirstOf l.fn.self l.first;
  taken : taken_of l.first ≡ taken_of l.fn.first ++ map told l.yielded;
  kept : (own_of l.first ≡ own_of l.fn.first) × (mine_of l.first ≡ mine_of l.fn.first);
  each : (i : ℕ) (p : _) → get_elem? l.other-iterator.rest.items i ≡ some p → IsPassOf g.O.Object.home l.fn.self p;
}
