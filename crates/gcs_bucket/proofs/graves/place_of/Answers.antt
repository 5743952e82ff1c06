use Rattle.std.proofs.Common.{◌∙◌, sym}
use Rattle.gcs_meaning.specs.BucketRestore.{is_grave_of}
use Rattle.gcs_bucket.proofs.Buried.{place_end, place_here, place_later, within_end}
use Rattle.gcs_bucket.proofs.graves.place_of.Goals as goal

pub loop-place-preserved : goal.loop-place-preserved
loop-place-preserved c =
    place_later (is_grave_of c.args.generation) c.args.graves.now c.loop-place.place c.index-graves-place.result c.loop-place-test.true c.index-graves-place.is (sym c.is_of.ensures ∙ c.if-is_of.false)
    c.loop-place.invariant

pub returns-then-is_of : goal.returns-then-is_of
returns-then-is_of c =
    place_here (is_grave_of c.args.generation) c.args.graves.now c.loop-place.place c.index-graves-place.result c.loop-place-test.true c.index-graves-place.is (sym c.is_of.ensures ∙ c.if-is_of.true)
    c.loop-place.invariant

pub returns : goal.returns
returns c =
    within_end c.loop-place.place c.args.graves.now c.loop-place.auto.place-end c.loop-place-test.false
    ∙ place_end (is_grave_of c.args.generation) c.args.graves.now c.loop-place.place c.loop-place-test.false c.loop-place.invariant
