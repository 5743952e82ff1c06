use Rattle.std.proofs.Common.{◌<◌, length, ◌∙◌, arith}
use Rattle.gcs_meaning.specs.Aging.{aged_grave}
use Rattle.gcs_bucket.proofs.Firsts.{mapped_next}
use Rattle.gcs_bucket.proofs.graves.age_each.Goals as goal

pub loop-place-preserved : goal.loop-place-preserved
loop-place-preserved c =
    let within : c.loop-place.place < length c.loop-place.graves.items = omega (arith, c.loop-place-test.true, c.len-place-end.ensures, c.loop-place.invariant.len, c.loop-place.graves.ok.0, c.args.graves.now.ok.0) in
    record {
      items = mapped_next (aged_grave c.args.moment) _ _ _ c.loop-place.place within c.loop-place.invariant.items c.age_at.ensures.items;
      len = c.age_at.ensures.len ∙ c.loop-place.invariant.len;
      capacity = c.age_at.ensures.capacity ∙ c.loop-place.invariant.capacity;
    }
