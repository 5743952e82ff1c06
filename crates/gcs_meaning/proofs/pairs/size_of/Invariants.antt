use Rattle.std.proofs.Common.{◌≡◌, ◌≤◌, ◌+◌, drop}
use Rattle.std.specs.Prelude.{min}
use Rattle.gcs_meaning.specs.Pairs.{pairs_size, most_shown}
use Rattle.gcs_meaning.proofs.pairs.size_of.Given as goal

-- what was counted and what is left are the size
abbrev pub invariant-loop-key : goal.invariant-loop-key
invariant-loop-key l = record {
  size : min (l.size + pairs_size (drop l.key-index l.entries)) most_shown ≡ min (pairs_size l.entries) most_shown;
  within : l.size ≤ most_shown;
}
