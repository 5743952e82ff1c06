use Rattle.std.proofs.Common.{ap, sym, ◌≤◌, ◌^◌}
use Rattle.gcs_meaning.proofs.Chosen.{all-chosen}
use Rattle.gcs_bucket.specs.Alive.{alive_of, state_of}
use Rattle.gcs_bucket.specs.Slot.{value_of}
use Rattle.gcs_bucket.proofs.Commands.{change_dead, change_made, change_missing, change_tested}
use Rattle.gcs_bucket.proofs.Removed.{in_place_alive}
use Rattle.gcs_bucket.proofs.Sound.{changed_of}
use Rattle.gcs_bucket.proofs.slot.Slot.decide_change.Goals as goal

pub prepare_change-requires : goal.prepare_change-requires
prepare_change-requires g c =
    all-chosen (λ row. row.metageneration ≤ 2 ^ 62) c.args.name.now c.args.generation c.in-Some-chosen.row.now _ (sym c.in-Some-chosen.ensures.found)
    (changed_of (value_of c.args.self.now) (state_of c.in-Some.state) (ap alive_of c.in-Some.is) c.requires.ready)

pub returns-in_default-clause-decided : goal.returns-in_default-clause-decided
returns-in_default-clause-decided g c = change_dead (value_of c.args.self.now) _ _ _ _ _ _ (ap alive_of c.in_default.is)

pub returns-in_default-chosen-clause-decided : goal.returns-in_default-chosen-clause-decided
returns-in_default-chosen-clause-decided g c =
    change_missing (value_of c.args.self.now) _ _ _ _ _ _ (state_of c.in-Some.state) (ap alive_of c.in-Some.is) c.in_default-chosen.ensures.found

pub returns-in-Some-change_refusal-clause-decided : goal.returns-in-Some-change_refusal-clause-decided
returns-in-Some-change_refusal-clause-decided g c =
    change_tested (value_of c.args.self.now) _ _ _ _ _ _ (state_of c.in-Some.state) c.in-Some-chosen.row.now c.in_ok-meta.meta c.in-Some-change_refusal.reason
    (ap alive_of c.in-Some.is) c.in-Some-chosen.ensures.found c.in_ok-meta.ensures c.in-Some-change_refusal.ensures

pub returns-clause-decided : goal.returns-clause-decided
returns-clause-decided g c =
    change_made (value_of c.args.self.now) _ _ _ _ _ _ (state_of c.in-Some.state) c.in-Some-chosen.row.now c.in_ok-meta.meta c.in_ok-prepare_change.field-0
    (ap alive_of c.in-Some.is) c.in-Some-chosen.ensures.found c.in_ok-meta.ensures c.in_default-change_refusal.ensures c.known.ensures.rise c.in_ok-prepare_change.ensures

pub returns-clause-place : goal.returns-clause-place
returns-clause-place g c =
    in_place_alive c.in_ok-prepare_change.field-0 c.in-Some.state.settings c.args.moment c.args.name.now c.args.generation c.in_ok-meta.meta c.in-Some-chosen.row.now (value_of c.args.self.now)
    (state_of c.in-Some.state) (ap alive_of c.in-Some.is) c.known.ensures.rise (sym c.in-Some-chosen.ensures.found) c.in_ok-prepare_change.ensures
    (all-chosen (λ row. row.metageneration ≤ 2 ^ 62) c.args.name.now c.args.generation c.in-Some-chosen.row.now _ (sym c.in-Some-chosen.ensures.found)
    (changed_of (value_of c.args.self.now) (state_of c.in-Some.state) (ap alive_of c.in-Some.is) c.requires.ready))
