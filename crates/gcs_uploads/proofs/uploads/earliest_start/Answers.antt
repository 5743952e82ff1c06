use Rattle.std.proofs.Common.{◌≡◌, ◌∙◌, ap, arith, min}
use Rattle.gcs_uploads.specs.Earliest.{earliest_start, last_moment}
use Rattle.gcs_uploads.proofs.Earliest.{earliest_last}
use Rattle.gcs_uploads.proofs.uploads.earliest_start.Goals as goal

pub loop-upload-init : goal.loop-upload-init
loop-upload-init c = record {
  within = omega arith;
  same =
      let all : min last_moment (earliest_start c.args.uploads.now.entries) ≡ earliest_start c.args.uploads.now.entries = omega (arith, earliest_last c.args.uploads.now.entries) in
      ap (λ uploads. min last_moment (earliest_start uploads)) (c.into_iter-upload-iterator.ensures.into_iter_gives ∙ c.iter-upload-items.ensures.rest) ∙ all;
}
