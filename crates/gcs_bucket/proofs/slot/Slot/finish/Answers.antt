use Rattle.std.proofs.Common.{◌∙◌, ap}
use Rattle.gcs_meaning.specs.Aging.{aged}
use Rattle.gcs_bucket.specs.Slot.{value_of}
use Rattle.gcs_bucket.proofs.Finishing.{finish_answered, finish_done, finishing_made}
use Rattle.gcs_bucket.proofs.Sound.{ready_aged, soon}
use Rattle.gcs_bucket.proofs.slot.Slot.finish.Goals as goal

pub complete-requires-clause-ready : goal.complete-requires-clause-ready
complete-requires-clause-ready g c =
    ready_aged (value_of c.args.self.now) _ c.effective-moment.result (c.age.ensures.value ∙ ap (λ slot. aged slot c.effective-moment.result) c.prepare.ensures.value)
    (soon (value_of c.args.self.now) c.effective-moment.result c.args.reading c.requires.ready c.effective-moment.ensures) c.requires.ready

pub complete-requires-clause-next : goal.complete-requires-clause-next
complete-requires-clause-next g c =
    finishing_made _ c.in-Ok.finished c.args.number _ _ c.in_ok-decision.ensures.next c.in-Ok.is
    (c.age.ensures.value ∙ ap (λ slot. aged slot c.effective-moment.result) c.prepare.ensures.value)

pub returns-in_ok-prepare-in-Ok-clause-done : goal.returns-in_ok-prepare-in-Ok-clause-done
returns-in_ok-prepare-in-Ok-clause-done g c =
    rw (← c.effective-moment.ensures)
    (finish_done _ _ c.in-Ok.finished c.effective-moment.result c.args.number _ _ _ _ c.in_ok-decision.ensures.decided c.in-Ok.is
    (c.age.ensures.value ∙ ap (λ slot. aged slot c.effective-moment.result) c.prepare.ensures.value) c.complete.ensures)

pub returns-in-Err-clause-done : goal.returns-in-Err-clause-done
returns-in-Err-clause-done g c =
    rw (← c.effective-moment.ensures)
    (finish_answered _ _ c.effective-moment.result c.args.number _ _ c.in-Err.answer c.in_ok-decision.ensures.decided c.in-Err.is c.age-in-Err.ensures.value)
