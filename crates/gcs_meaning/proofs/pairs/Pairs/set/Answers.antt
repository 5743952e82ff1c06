use Rattle.gcs_meaning.proofs.Keys.{rising_after, rising_removed}
use Rattle.gcs_meaning.proofs.pairs.Pairs.set.Goals as goal

pub invariant_of-self : goal.invariant_of-self
invariant_of-self c = rising_after c.set_entry.result _ _ _ _ c.self.invariant c.set_entry.ensures.ok c.set_entry.ensures.err

pub invariant_of-self-in-None : goal.invariant_of-self-in-None
invariant_of-self-in-None c = rising_removed _ _ _ c.self.invariant c.remove_entry.ensures
