use Rattle.std.proofs.Common.{◌≡◌, ℕ, ◌+◌, ◌≤◌, length, vec_capacity}
use mathlib.Core.Option.{some}
use lib.ListN.{get_elem?}
use Rattle.gcs_store.specs.Closed.{IsClosedAs}
use Rattle.gcs_store.specs.Shard.{ShardValue}
use Rattle.gcs_store.specs.Store.{ShardTurn}
use Rattle.gcs_store.proofs.closing.close_turns.Given as goal

-- the turns so far are closed, and the first passes of the others are left
abbrev pub invariant-loop-turn : goal.invariant-loop-turn
invariant-loop-turn l = record {
  as_many : length l.firsts.items ≡ length l.turn-iterator.rest.items;
  count : length l.shards.items + length l.turn-iterator.rest.items ≡ length l.fn.turns.items;
  room : length l.fn.turns.items ≤ vec_capacity l.shards;
  turns : (s : ℕ) (t : ShardTurn) → get_elem? l.turn-iterator.rest.items s ≡ some t → get_elem? l.fn.turns.items (length l.shards.items + s) ≡ some t;
  firsts : (s : ℕ) (p : _) → get_elem? l.firsts.items s ≡ some p → get_elem? l.fn.firsts.items (length l.shards.items + s) ≡ some p;
  closed : (s : ℕ) (t : ShardTurn) (p : _) (shard : ShardValue) → get_elem? l.fn.turns.items s ≡ some t → get_elem? l.fn.firsts.items s ≡ some p → get_elem? l.shards.items s ≡ some shard → IsClosedAs t p shard;
}
