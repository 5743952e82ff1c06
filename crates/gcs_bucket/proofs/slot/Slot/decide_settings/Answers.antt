use Rattle.std.proofs.Common.{ap}
use Rattle.gcs_bucket.specs.Alive.{alive_of, state_of}
use Rattle.gcs_bucket.specs.Slot.{value_of}
use Rattle.gcs_bucket.proofs.Commands.{settings_dead, settings_made, settings_tested}
use Rattle.gcs_bucket.proofs.slot.Slot.decide_settings.Goals as goal

pub returns-in_default : goal.returns-in_default
returns-in_default c = settings_dead (value_of c.args.self.now) _ _ _ _ _ (ap alive_of c.in_default.is)

pub returns-in-Some-change_refusal : goal.returns-in-Some-change_refusal
returns-in-Some-change_refusal c =
    settings_tested (value_of c.args.self.now) _ _ _ _ _ (state_of c.in-Some.state) c.in-Some-change_refusal.reason (ap alive_of c.in-Some.is) c.in-Some-change_refusal.ensures

pub returns : goal.returns
returns c =
    settings_made (value_of c.args.self.now) _ _ _ _ _ (state_of c.in-Some.state) c.in_ok-settings.settings c.in_ok-prepare_settings.field-0
    (ap alive_of c.in-Some.is) c.in_default-change_refusal.ensures c.in_ok-settings.ensures c.in_ok-prepare_settings.ensures
