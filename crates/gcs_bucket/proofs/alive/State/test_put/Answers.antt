use Rattle.std.proofs.Common.{sym, subst}
use Rattle.std.specs.Option.{IfSome}
use Rattle.gcs_bucket.specs.Alive.{IsEarly}
use Rattle.gcs_bucket.proofs.Sound.{live_early}
use Rattle.gcs_bucket.proofs.alive.State.test_put.Goals as goal

pub kept_live-kept-requires-clause-early : goal.kept_live-kept-requires-clause-early
kept_live-kept-requires-clause-early g c =
    subst (λ live. IfSome live IsEarly) (sym c.live-live.ensures.found) (live_early c.args.name.now _ c.requires.early)
