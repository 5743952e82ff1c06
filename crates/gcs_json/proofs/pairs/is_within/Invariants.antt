use Rattle.std.proofs.Common.{◌≡◌, drop}
use Rattle.std.specs.Prelude.{nat_le}
use Rattle.gcs_json.specs.Pairs.{pairs_length}
use Rattle.gcs_json.proofs.pairs.is_within.Given as goal

-- the pairs fit exactly where those that are left fit into what is left
abbrev pub invariant-loop-key : goal.invariant-loop-key
invariant-loop-key l = nat_le (pairs_length l.pairs) l.most ≡ nat_le (pairs_length (drop l.key-index l.pairs)) l.left
