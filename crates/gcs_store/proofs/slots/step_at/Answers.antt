use Rattle.std.proofs.lemmas.Result.{IfOk-weaker}
use Rattle.gcs_store.proofs.Slotted.{lies_at, small_at, stepped_at}
use Rattle.gcs_store.proofs.slots.step_at.Goals as goal

pub apply-requires-clause-small : goal.apply-requires-clause-small
apply-requires-clause-small g c =
    rw c.index_mut-entry.ensures.value (small_at _ _ _ c.requires.place c.requires.small)

pub apply-requires-clause-lies : goal.apply-requires-clause-lies
apply-requires-clause-lies g c =
    rw c.index_mut-entry.ensures.value (lies_at _ _ _ _ c.requires.place c.requires.lies)

pub returns-clause-done : goal.returns-clause-done
returns-clause-done g c =
    IfOk-weaker c.apply.result _ _ (λ answer done. stepped_at _ _ c.index_mut-entry.result.now _ _ answer _ c.requires.place c.index_mut-entry.ensures.value done) c.apply.ensures.done
