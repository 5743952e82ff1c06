use Rattle.std.proofs.Common.{◌≡◌, drop}
use Rattle.gcs_meaning.specs.Pairs.{set_pairs}
use Rattle.gcs_rewrite.proofs.made.set_each.Given as goal

-- what is given is what is set, and then the rest
abbrev pub invariant-loop-key : goal.invariant-loop-key
invariant-loop-key l = set_pairs l.fn.pairs l.given ≡ set_pairs l.pairs (drop l.key-index l.given)
