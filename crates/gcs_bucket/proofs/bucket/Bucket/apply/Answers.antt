use Rattle.gcs_bucket.proofs.Laws.{covered_after, rises_after}
use Rattle.gcs_bucket.proofs.Asked.{in_range_of}
use Rattle.gcs_bucket.proofs.Sound.{ready_when, sound_after}
use Rattle.gcs_bucket.proofs.bucket.Bucket.apply.Goals as goal

pub apply-requires-clause-ready : goal.apply-requires-clause-ready
apply-requires-clause-ready g c = ready_when _ c.self.invariant (rw (← c.self.view_is) at c.requires.small)

pub apply-requires-clause-lies : goal.apply-requires-clause-lies
apply-requires-clause-lies g c = rw (← c.self.view_is) at c.requires.lies

pub invariant_of-self : goal.invariant_of-self
invariant_of-self g c =
    sound_after c.apply.result _ _ _ _ (in_range_of _ c.requires.in_range) c.self.invariant c.apply.ensures.done c.apply.ensures.err

pub returns-clause-fit : goal.returns-clause-fit
returns-clause-fit g c =
    let sound = sound_after c.apply.result _ _ _ _ (in_range_of _ c.requires.in_range) c.self.invariant c.apply.ensures.done c.apply.ensures.err in
    sound.fit

pub returns-clause-covered : goal.returns-clause-covered
returns-clause-covered g c = rw (← c.self.view_is) (covered_after c.apply.result _ _ _ _ c.self.invariant.fit c.apply.ensures.done c.apply.ensures.err)

pub returns-clause-rises : goal.returns-clause-rises
returns-clause-rises g c = rw (← c.self.view_is) (rises_after c.apply.result _ _ _ _ c.apply.ensures.done c.apply.ensures.err)
