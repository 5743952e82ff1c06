use Rattle.gcs_store.proofs.Rising.{rising_from_shard}
use Rattle.gcs_store.proofs.shard.Shard.slot.Goals as goal

pub find_slot-requires : goal.find_slot-requires
find_slot-requires c = rw c.deref.ensures.value (rising_from_shard _ _ _ c.self.invariant)
