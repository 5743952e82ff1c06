use Rattle.std.proofs.Common.{ap, refl}
use Rattle.gcs_bucket.specs.Alive.{alive_of, state_of}
use Rattle.gcs_bucket.specs.Slot.{value_of}
use Rattle.gcs_bucket.proofs.Sources.{source_dead, source_made, source_missing}
use Rattle.gcs_bucket.proofs.slot.Slot.copy_soft.Goals as goal

pub returns-in_default-clause-decided : goal.returns-in_default-clause-decided
returns-in_default-clause-decided g c = λ pre. source_dead (value_of c.args.self.now) _ _ _ pre (ap alive_of c.in_default.is)

pub returns-in_default-find_soft-clause-decided : goal.returns-in_default-find_soft-clause-decided
returns-in_default-find_soft-clause-decided g c = λ pre.
    source_missing (value_of c.args.self.now) _ _ _ pre (state_of c.in-Some.state) (ap alive_of c.in-Some.is) c.in_default-find_soft.ensures.found

pub returns-clause-decided : goal.returns-clause-decided
returns-clause-decided g c = λ pre.
    source_made (value_of c.args.self.now) _ _ _ pre (state_of c.in-Some.state) c.in-Some-find_soft.row.now _ (ap alive_of c.in-Some.is) c.in-Some-find_soft.ensures.found
    c.in_ok-restore_meta.ensures c.in_ok-copy.ensures refl
