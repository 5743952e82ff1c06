use Rattle.std.proofs.Common.{◌∙◌, ap}
use Rattle.std.specs.Prelude.{slice_set}
use Rattle.gcs_meaning.specs.Aging.{aged_grave}
use Rattle.gcs_bucket.proofs.Firsts.{set-map_at}
use Rattle.gcs_bucket.proofs.graves.age_at.Goals as goal

pub returns-clause-items : goal.returns-clause-items
returns-clause-items c =
    ap (slice_set c.args.graves.now.items c.args.place) c.age.ensures
    ∙ ap (λ grave. slice_set c.args.graves.now.items c.args.place (aged_grave c.args.moment grave)) c.index_mut-grave.ensures.value
    ∙ set-map_at (aged_grave c.args.moment) c.args.graves.now.items c.args.place _ c.requires
