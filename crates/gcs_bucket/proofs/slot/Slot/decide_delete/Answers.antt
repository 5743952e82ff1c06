use Rattle.std.proofs.Common.{ap, sym}
use Rattle.gcs_meaning.proofs.Chosen.{all-chosen}
use Rattle.gcs_bucket.specs.Alive.{alive_of, IsEarly, state_of}
use Rattle.gcs_bucket.specs.Slot.{value_of}
use Rattle.gcs_bucket.proofs.Commands.{delete_dead, delete_made, delete_missing, delete_tested}
use Rattle.gcs_bucket.proofs.Removed.{chosen_aged}
use Rattle.gcs_bucket.proofs.Sound.{early_of}
use Rattle.gcs_bucket.proofs.slot.Slot.decide_delete.Goals as goal

pub deletion_refusal-requires-clause-early : goal.deletion_refusal-requires-clause-early
deletion_refusal-requires-clause-early g c =
    all-chosen IsEarly c.args.name.now c.args.generation c.in-Some-chosen.row.now _ (sym c.in-Some-chosen.ensures.found)
    (early_of (value_of c.args.self.now) (state_of c.in-Some.state) (ap alive_of c.in-Some.is) c.requires.ready)

pub returns-in_default-clause-decided : goal.returns-in_default-clause-decided
returns-in_default-clause-decided g c = delete_dead (value_of c.args.self.now) _ _ _ _ (ap alive_of c.in_default.is)

pub returns-in_default-chosen-clause-decided : goal.returns-in_default-chosen-clause-decided
returns-in_default-chosen-clause-decided g c =
    delete_missing (value_of c.args.self.now) _ _ _ _ (state_of c.in-Some.state) (ap alive_of c.in-Some.is) c.in_default-chosen.ensures.found

pub returns-in-Some-deletion_refusal-clause-decided : goal.returns-in-Some-deletion_refusal-clause-decided
returns-in-Some-deletion_refusal-clause-decided g c =
    delete_tested (value_of c.args.self.now) _ _ _ _ (state_of c.in-Some.state) c.in-Some-chosen.row.now c.in-Some-deletion_refusal.reason (ap alive_of c.in-Some.is)
    c.in-Some-chosen.ensures.found (rw c.is_some-named.ensures at c.in-Some-deletion_refusal.ensures)

pub returns-in-None-clause-decided : goal.returns-in-None-clause-decided
returns-in-None-clause-decided g c =
    delete_made (value_of c.args.self.now) _ _ _ _ (state_of c.in-Some.state) c.in-Some-chosen.row.now (ap alive_of c.in-Some.is)
    c.in-Some-chosen.ensures.found (rw c.is_some-named.ensures at c.in-None.ensures)

pub returns-in-None-clause-chosen : goal.returns-in-None-clause-chosen
returns-in-None-clause-chosen g c =
    chosen_aged c.args.moment c.args.name.now c.args.generation c.in-Some-chosen.row.now (value_of c.args.self.now) (state_of c.in-Some.state) (ap alive_of c.in-Some.is)
    (sym c.in-Some-chosen.ensures.found)
