use Rattle.gcs_meaning.proofs.Keys.{IsAfter}
use Rattle.gcs_meaning.proofs.pairs.place_of.Given as goal

-- the key is after the pairs that were seen
abbrev pub invariant-loop-place : goal.invariant-loop-place
invariant-loop-place l = IsAfter l.key l.entries l.place
