use Rattle.std.proofs.Common.{◌≡◌, ◌+◌, drop}
use Rattle.std.specs.List.{position_or_len}
use Rattle.gcs_meaning.specs.BucketRestore.{is_grave_of}
use Rattle.gcs_bucket.proofs.graves.place_of.Given as goal

-- it isn't among those that were seen
abbrev pub invariant-loop-place : goal.invariant-loop-place
invariant-loop-place l = position_or_len (is_grave_of l.generation) l.graves ≡ l.place + position_or_len (is_grave_of l.generation) (drop l.place l.graves)
