use Rattle.std.proofs.Common.{◌≡◌}
use Rattle.check_store.proofs.finishes.finish.Given as goal

abbrev pub invariant-loop-words : goal.invariant-loop-words
invariant-loop-words l = l.shard.chunks ≡ l.chunks
