use Rattle.std.proofs.Common.{◌≡◌, drop}
use Rattle.gcs_meaning.specs.Pairs.{set_pairs}
use Rattle.gcs_meaning.proofs.changing.set_each.Given as goal

-- what is asked for is what is set, and then the rest
abbrev pub invariant-loop-key : goal.invariant-loop-key
invariant-loop-key l = set_pairs l.fn.pairs l.key-items ≡ set_pairs l.pairs (drop l.key-index l.key-items)
