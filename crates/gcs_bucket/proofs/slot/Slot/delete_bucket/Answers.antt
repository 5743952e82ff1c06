use Rattle.std.proofs.Common.{sym, subst}
use Rattle.gcs_meaning.specs.Slot.{Slot}
use Rattle.gcs_bucket.specs.Alive.{AreLimited}
use Rattle.gcs_bucket.proofs.Sound.{aged_limited}
use Rattle.gcs_bucket.proofs.slot.Slot.delete_bucket.Goals as goal

pub bury-requires-clause-limits : goal.bury-requires-clause-limits
bury-requires-clause-limits c =
    subst (λ (slot : Slot). AreLimited slot.alive) (sym c.age.ensures.value) (aged_limited c.effective-moment.result _ c.requires.ready.limits)
