use Rattle.std.proofs.Common.{refl, ◌∙◌, ap}
use Rattle.gcs_meaning.specs.Aging.{aged}
use Rattle.gcs_bucket.specs.Put.{decided_put, IsNextAlive}
use Rattle.gcs_bucket.specs.Slot.{value_of}
use Rattle.gcs_bucket.proofs.Commands.{decided_made, decided_refused, fact_of_made}
use Rattle.gcs_bucket.proofs.Sound.{ready_aged}
use Rattle.gcs_bucket.proofs.slot.Slot.put_at.Goals as goal

pub add-requires-clause-ready : goal.add-requires-clause-ready
add-requires-clause-ready g c =
    ready_aged (value_of c.args.self.now) _ c.args.moment (c.age.ensures.value ∙ ap (λ slot. aged slot c.args.moment) c.prepare.ensures.value) c.requires.moment c.requires.ready

pub add-requires-clause-next : goal.add-requires-clause-next
add-requires-clause-next g c =
    fact_of_made (λ made slot. IsNextAlive made c.args.name.now slot) _ c.in-Ok.made _ _ c.in_ok-decision.ensures.next c.in-Ok.is
    (c.age.ensures.value ∙ ap (λ slot. aged slot c.args.moment) c.prepare.ensures.value)

pub returns-in-Ok-clause-done : goal.returns-in-Ok-clause-done
returns-in-Ok-clause-done g c =
    decided_made (λ d slot. decided_put d c.args.moment slot) _ _ c.in-Ok.made _ _ _ _ c.in_ok-decision.ensures.decided c.in-Ok.is
    (c.age.ensures.value ∙ ap (λ slot. aged slot c.args.moment) c.prepare.ensures.value) c.add.ensures

pub returns-in-Err-clause-done : goal.returns-in-Err-clause-done
returns-in-Err-clause-done g c =
    decided_refused (λ d slot. decided_put d c.args.moment slot) _ _ c.in-Err.reason _ _ c.in_ok-decision.ensures.decided c.in-Err.is
    (c.age.ensures.value ∙ ap (λ slot. aged slot c.args.moment) c.prepare.ensures.value) refl
