use Rattle.std.proofs.Common.{arith}
use Rattle.gcs_store.proofs.Contents.{answer_from_shard, slots_from_shard}
use Rattle.gcs_store.proofs.Rising.{rising_from_shard}
use Rattle.gcs_store.proofs.Slotted.{small_from_shard, shard_push}
use Rattle.gcs_store.proofs.shard.Shard.apply.Goals as goal

pub step_slots-requires-clause-rise : goal.step_slots-requires-clause-rise
step_slots-requires-clause-rise c = rising_from_shard _ _ _ c.self.invariant

pub step_slots-requires-clause-small : goal.step_slots-requires-clause-small
step_slots-requires-clause-small c = small_from_shard _ _ _ c.self.invariant

pub step_slots-requires-clause-lies : goal.step_slots-requires-clause-lies
step_slots-requires-clause-lies c = slots_from_shard _ _ _ c.self.invariant

pub step_slots-requires-clause-contents : goal.step_slots-requires-clause-contents
step_slots-requires-clause-contents c = rw (← c.self.view_is) at c.requires.contents

pub invariant_of-self-in-Ok : goal.invariant_of-self-in-Ok
invariant_of-self-in-Ok c =
    rw c.push_entry.ensures
    (shard_push _ c.self.inside.slots.items _ _ _ c.in-Ok.answer
    (rw c.reserve.ensures.items c.self.invariant.replayed)
    (rw c.reserve.ensures.items (omega (arith, c.self.inside.history.ok.0, c.len.ensures, c.if-len-ge-MOST_ENTRIES.false)))
    (rw c.reserve.ensures.items c.self.invariant.contents)
    (rw (← c.self.view_is) at c.requires.contents)
    c.in-Ok.ensures.done)

pub returns-in-Ok-clause-lies : goal.returns-in-Ok-clause-lies
returns-in-Ok-clause-lies c =
    rw (← c.self.view_is)
    (answer_from_shard _ c.self.inside.slots.items _ _ _ _ c.in-Ok.answer c.self.invariant (rw (← c.self.view_is) at c.requires.contents) c.in-Ok.ensures.done)
