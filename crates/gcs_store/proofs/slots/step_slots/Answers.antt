use Rattle.std.proofs.Common.{sym}
use Rattle.std.proofs.lemmas.Result.{IfOk-weaker}
use Rattle.gcs_store.proofs.Listed.{on_slot}
use Rattle.gcs_store.proofs.Slotted.{found_step}
use Rattle.gcs_store.proofs.slots.step_slots.Goals as goal

pub step_at-requires-clause-in_range : goal.step_at-requires-clause-in_range
step_at-requires-clause-in_range g c = on_slot _ _ c.requires.in_range c.in-Some.ensures

pub first_at-requires-clause-in_range : goal.first_at-requires-clause-in_range
first_at-requires-clause-in_range g c = on_slot _ _ c.requires.in_range c.in-Some.ensures

pub returns-in-Ok-clause-done : goal.returns-in-Ok-clause-done
returns-in-Ok-clause-done g c =
    IfOk-weaker c.step_at.result _ _
    (λ answer done. found_step c.in-Some.name.now _ c.in-Ok.place _ _ answer _ (sym c.in-Some.ensures) (rw c.deref-2.ensures.value at c.in-Ok.ensures.found) done)
    c.step_at.ensures.done
