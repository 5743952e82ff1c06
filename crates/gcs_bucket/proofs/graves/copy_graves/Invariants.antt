use Rattle.std.proofs.Common.{◌≡◌, take}
use Rattle.gcs_bucket.proofs.graves.copy_graves.Given as goal

-- the deleted buckets that were seen are copied
abbrev pub invariant-loop-grave : goal.invariant-loop-grave
invariant-loop-grave l = l.made.items ≡ take l.grave-index l.graves
