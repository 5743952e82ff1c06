use Rattle.std.proofs.Common.{◌≡◌, ℕ, ◌+◌, length}
use mathlib.Core.Option.{some}
use lib.ListN.{get_elem?}
use Rattle.gcs_turn.specs.Turning.{newcomer}
use Rattle.gcs_turn.proofs.seats.other_passes.Given as goal

abbrev pub invariant-loop-caller : goal.invariant-loop-caller
invariant-loop-caller g l = record {
  table : l.first.table_id ≡ l.fn.first.table_id;
  me : l.first.me ≡ (record l.fn.first.me.0 { made = l.caller }, l.fn.first.me.1);
  count : length l.passes.items + 1 ≡ l.caller;
  each : (i : ℕ) (p : _) → get_elem? l.passes.items i ≡ some p → (p.seat.table_id ≡ l.fn.first.table_id) × (p.seat.me.0 ≡ newcomer (i + 1) l.fn.first.me.0.home l.fn.first.me.0.seen);
}
