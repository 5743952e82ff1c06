use Rattle.std.proofs.Common.{◌≡◌, ℕ, ◌∷◌, ◌++◌, length, map}
use mathlib.Core.Option.{some}
use lib.ListN.{get_elem?}
use Rattle.gcs_turn.specs.Passes.{IsFirstOf, mine_of, own_of, taken_of}
use Rattle.gcs_store.specs.declared.passes.Passes.{Passes}
use Rattle.gcs_store.specs.Passes.{AreAtTurns, told_at}
use Rattle.gcs_store.specs.Store.{ShardTurn}
use Rattle.gcs_store.proofs.closing.gather.Given as goal

-- the first caller's passes have taken in those of the callers so far
abbrev pub invariant-loop-other : goal.invariant-loop-other
invariant-loop-other l = record {
  first : Passes;
  all : l.fn.passes.items ≡ first ∷ (l.yielded ++ l.other-iterator.rest.items);
  as_many : length l.firsts.items ≡ length l.turns;
  each : (s : ℕ) (t : ShardTurn) (p : _) → get_elem? l.turns s ≡ some t → get_elem? l.firsts.items s ≡ some p
      → IsFirstOf t p × (taken_of p ≡ map (told_at s) l.yielded) × (own_of p ≡ (told_at s first).seen) × (mine_of p ≡ (told_at s first).mine);
  others : (i : ℕ) (q : Passes) → get_elem? l.other-iterator.rest.items i ≡ some q → AreAtTurns l.turns q.caller q.seats.items;
}
