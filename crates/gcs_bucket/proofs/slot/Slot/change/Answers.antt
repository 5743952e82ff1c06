use Rattle.std.proofs.Common.{refl}
use Rattle.gcs_bucket.specs.ObjectChange.{decided_change, AreInPlace}
use Rattle.gcs_bucket.proofs.Commands.{decided_made, decided_refused, fact_of_made}
use Rattle.gcs_bucket.proofs.slot.Slot.change.Goals as goal

pub replace-requires : goal.replace-requires
replace-requires g c =
    fact_of_made (λ made slot. AreInPlace made c.args.name.now c.effective-moment.result slot) _ c.in-Ok.made _ _ c.in_ok-decision.ensures.place c.in-Ok.is c.age.ensures.value

pub returns-in-Ok-clause-done : goal.returns-in-Ok-clause-done
returns-in-Ok-clause-done g c =
    rw (← c.effective-moment.ensures)
    (decided_made (λ d slot. decided_change d c.args.name.now slot) _ _ c.in-Ok.made _ _ _ _ c.in_ok-decision.ensures.decided c.in-Ok.is c.age.ensures.value c.replace.ensures)

pub returns-in-Err-clause-done : goal.returns-in-Err-clause-done
returns-in-Err-clause-done g c =
    rw (← c.effective-moment.ensures)
    (decided_refused (λ d slot. decided_change d c.args.name.now slot) _ _ c.in-Err.reason _ _ c.in_ok-decision.ensures.decided c.in-Err.is c.age.ensures.value refl)
