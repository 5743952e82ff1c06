use Rattle.std.proofs.Common.{◌≡◌, ◌++◌, take, drop, map}
use Rattle.std.specs.Prelude.{vec_len, vec_capacity}
use Rattle.gcs_meaning.specs.Aging.{aged_grave}
use Rattle.gcs_bucket.proofs.graves.age_each.Given as goal

-- those that were seen are aged, and the rest is as it was
abbrev pub invariant-loop-place : goal.invariant-loop-place
invariant-loop-place l = record {
  items : map (aged_grave l.moment) l.fn.graves.items ≡ take l.place l.graves.items ++ map (aged_grave l.moment) (drop l.place l.graves.items);
  len : vec_len l.graves ≡ vec_len l.fn.graves;
  capacity : vec_capacity l.graves ≡ vec_capacity l.fn.graves;
}
