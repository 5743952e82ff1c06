use Rattle.gcs_bucket.specs.BucketChange.{decided_settings}
use Rattle.gcs_bucket.specs.Slot.{value_of}
use Rattle.gcs_bucket.proofs.Commands.{decided_made, decided_refused}
use Rattle.gcs_bucket.proofs.Sound.{ready_aged, soon}
use Rattle.gcs_bucket.proofs.slot.Slot.change_bucket.Goals as goal
use Rattle.std.proofs.Common.{refl}

pub set-requires : goal.set-requires
set-requires c = record {
  ready = ready_aged (value_of c.args.self.now) _ c.effective-moment.result c.age.ensures.value
      (soon (value_of c.args.self.now) _ c.args.reading c.requires.ready c.effective-moment.ensures) c.requires.ready;
}

pub returns-in-Ok-clause-done : goal.returns-in-Ok-clause-done
returns-in-Ok-clause-done c =
    rw (← c.effective-moment.ensures)
    (decided_made (λ d slot. decided_settings d c.effective-moment.result slot) _ _ c.in-Ok.made _ _ _ _ c.in_ok-decision.ensures c.in-Ok.is c.age.ensures.value c.set.ensures)

pub returns-in-Err-clause-done : goal.returns-in-Err-clause-done
returns-in-Err-clause-done c =
    rw (← c.effective-moment.ensures)
    (decided_refused (λ d slot. decided_settings d c.effective-moment.result slot) _ _ c.in-Err.reason _ _ c.in_ok-decision.ensures c.in-Err.is c.age.ensures.value refl)
