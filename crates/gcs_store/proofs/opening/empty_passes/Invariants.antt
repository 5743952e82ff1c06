use Rattle.std.proofs.Common.{◌≡◌, ℕ, [], length}
use mathlib.Core.Option.{some}
use lib.ListN.{get_elem?}
use Rattle.gcs_store.proofs.opening.empty_passes.Given as goal

-- so many callers have their passes
abbrev pub invariant-loop-caller : goal.invariant-loop-caller
invariant-loop-caller l = record {
  count : length l.all.items ≡ l.caller;
  each : (i : ℕ) (p : _) → get_elem? l.all.items i ≡ some p → (p.caller ≡ i) × (p.seats.items ≡ []);
}
