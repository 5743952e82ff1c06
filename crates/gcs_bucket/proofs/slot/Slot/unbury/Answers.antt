use Rattle.gcs_bucket.specs.Alive.{state_of}
use Rattle.gcs_bucket.specs.Slot.{value_of}
use Rattle.gcs_bucket.proofs.Buried.{nothing_revived, revived_done, taken_changed}
use Rattle.gcs_bucket.proofs.slot.Slot.unbury.Goals as goal

pub revive-requires : goal.revive-requires
revive-requires c = taken_changed (value_of c.args.self.now) c.args.generation (state_of c.in-Some.state) c.in-Some.ensures.state c.requires.ready

pub returns-in_default : goal.returns-in_default
returns-in_default c = nothing_revived (value_of c.args.self.now) c.args.moment c.args.generation c.args.shown _ c.in_default.ensures.state c.in_default.ensures.rest

pub returns : goal.returns
returns c =
    revived_done (value_of c.args.self.now) c.args.moment c.args.generation c.args.shown (state_of c.in-Some.state) _ _ c.in-Some.ensures.state c.revive.ensures c.take_grave.ensures.rest
