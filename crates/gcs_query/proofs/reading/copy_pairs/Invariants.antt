use Rattle.std.proofs.Common.{◌≡◌, map, take}
use Rattle.gcs_query.specs.Query.{pair_bytes}
use Rattle.gcs_query.proofs.reading.copy_pairs.Given as goal

-- the pairs so far are copied
abbrev pub invariant-loop-key : goal.invariant-loop-key
invariant-loop-key l = map pair_bytes l.made.items ≡ map pair_bytes (take l.key-index l.fn.pairs)
