use Rattle.std.proofs.Common.{ap}
use Rattle.gcs_bucket.specs.Alive.{alive_of, state_of}
use Rattle.gcs_bucket.specs.Slot.{value_of}
use Rattle.gcs_bucket.proofs.Sources.{compose_dead, compose_lacking, compose_made, lack_told}
use Rattle.gcs_bucket.proofs.slot.Slot.join_sources.Goals as goal

pub returns-in_default-clause-decided : goal.returns-in_default-clause-decided
returns-in_default-clause-decided g c = λ name pre meta. compose_dead (value_of c.args.self.now) _ name pre meta _ (ap alive_of c.in_default.is)

pub returns-in-Ok-clause-decided : goal.returns-in-Ok-clause-decided
returns-in-Ok-clause-decided g c = λ name pre meta.
    compose_made (value_of c.args.self.now) _ name pre meta _ (state_of c.in-Some.state) c.in-Ok.composed (ap alive_of c.in-Some.is) c.in-Ok.ensures.made c.in-Ok.ensures.digests

pub returns-in-Err-Refused-clause-decided : goal.returns-in-Err-Refused-clause-decided
returns-in-Err-Refused-clause-decided g c = λ name pre meta.
    compose_lacking (value_of c.args.self.now) _ name pre meta _ (state_of c.in-Some.state) c.in-Err-Refused.reason (ap alive_of c.in-Some.is)
    (lack_told _ _ _ c.in-Err-Refused.field-0-is c.in-Err-Refused.ensures.refused)
