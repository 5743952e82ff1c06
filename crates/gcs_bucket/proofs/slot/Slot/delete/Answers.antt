use Rattle.std.proofs.Common.{refl, ◌∙◌, ap}
use Rattle.gcs_meaning.specs.Aging.{aged}
use Rattle.gcs_bucket.specs.ObjectDeletion.{decided_deletion, IsChosenAt}
use Rattle.gcs_bucket.specs.Slot.{value_of}
use Rattle.gcs_bucket.proofs.Commands.{decided_made, decided_refused, fact_of_made}
use Rattle.gcs_bucket.proofs.Sound.{ready_aged, soon}
use Rattle.gcs_bucket.proofs.slot.Slot.delete.Goals as goal

pub decide_delete-decision-requires-clause-moment : goal.decide_delete-decision-requires-clause-moment
decide_delete-decision-requires-clause-moment g c = soon (value_of c.args.self.now) _ c.args.reading c.requires.ready c.effective-moment.ensures

pub take_away-requires-clause-ready : goal.take_away-requires-clause-ready
take_away-requires-clause-ready g c =
    ready_aged (value_of c.args.self.now) _ c.effective-moment.result
    (c.age.ensures.value ∙ ap (λ slot. aged slot c.effective-moment.result) c.prepare.ensures.value)
    (soon (value_of c.args.self.now) _ c.args.reading c.requires.ready c.effective-moment.ensures) c.requires.ready

pub take_away-requires-clause-chosen : goal.take_away-requires-clause-chosen
take_away-requires-clause-chosen g c =
    fact_of_made (λ found slot. IsChosenAt c.args.name.now c.args.generation found slot) _ c.in-Ok.found _ _ c.decide_delete-decision.ensures.chosen c.in-Ok.is
    (c.age.ensures.value ∙ ap (λ slot. aged slot c.effective-moment.result) c.prepare.ensures.value)

pub returns-in-Ok-clause-done : goal.returns-in-Ok-clause-done
returns-in-Ok-clause-done g c =
    rw (← c.effective-moment.ensures)
    (decided_made (λ d slot. decided_deletion d c.effective-moment.result c.args.name.now c.args.generation slot) _ _ c.in-Ok.found _ _ _ _ c.decide_delete-decision.ensures.decided c.in-Ok.is
    (c.age.ensures.value ∙ ap (λ slot. aged slot c.effective-moment.result) c.prepare.ensures.value) c.take_away.ensures)

pub returns-in-Err-clause-done : goal.returns-in-Err-clause-done
returns-in-Err-clause-done g c =
    rw (← c.effective-moment.ensures)
    (decided_refused (λ d slot. decided_deletion d c.effective-moment.result c.args.name.now c.args.generation slot) _ _ c.in-Err.reason _ _ c.decide_delete-decision.ensures.decided c.in-Err.is
    (c.age.ensures.value ∙ ap (λ slot. aged slot c.effective-moment.result) c.prepare.ensures.value) refl)
