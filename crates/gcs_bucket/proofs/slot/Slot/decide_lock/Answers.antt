use Rattle.std.proofs.Common.{ap}
use Rattle.gcs_bucket.specs.Alive.{alive_of, state_of}
use Rattle.gcs_bucket.specs.Slot.{value_of}
use Rattle.gcs_bucket.proofs.Commands.{lock_dead, lock_made, lock_tested}
use Rattle.gcs_bucket.proofs.slot.Slot.decide_lock.Goals as goal

pub returns-in_default : goal.returns-in_default
returns-in_default c = lock_dead (value_of c.args.self.now) _ _ _ (ap alive_of c.in_default.is)

pub returns-in-Some-lock_refusal : goal.returns-in-Some-lock_refusal
returns-in-Some-lock_refusal c =
    lock_tested (value_of c.args.self.now) _ _ _ (state_of c.in-Some.state) c.in-Some-lock_refusal.reason (ap alive_of c.in-Some.is) c.in-Some-lock_refusal.ensures

pub returns : goal.returns
returns c =
    lock_made (value_of c.args.self.now) _ _ _ (state_of c.in-Some.state) c.in_ok-settings.settings c.in_ok-prepare_settings.field-0
    (ap alive_of c.in-Some.is) c.in_default-lock_refusal.ensures c.in_ok-settings.ensures c.in_ok-prepare_settings.ensures
