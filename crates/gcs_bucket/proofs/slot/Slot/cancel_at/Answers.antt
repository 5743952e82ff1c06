use Rattle.std.proofs.Common.{◌∙◌, ap, sym}
use Rattle.std.proofs.lemmas.Result.{IfOk-weaker}
use Rattle.gcs_meaning.specs.Aging.{aged}
use Rattle.gcs_bucket.specs.Alive.{alive_of, state_of}
use Rattle.gcs_bucket.specs.Slot.{value_of}
use Rattle.gcs_bucket.specs.Uploading.{IsUnderWay}
use Rattle.gcs_bucket.proofs.Uploading.{cancel_ended, cancel_told, cancel_under_way, runs_of}
use Rattle.gcs_bucket.proofs.slot.Slot.cancel_at.Goals as goal

pub returns-in-Some-clause-done : goal.returns-in-Some-clause-done
returns-in-Some-clause-done c =
    cancel_ended (aged (value_of c.args.self.now) c.args.moment) c.args.number c.in-Some.answer (sym c.in_ok-answer.ensures ∙ c.in-Some.is)

pub told-requires : goal.told-requires
told-requires c =
    let runs = runs_of (value_of c.args.self.now) c.args.moment c.args.number (state_of c.in-Some-alive.state) _ (ap alive_of c.in-Some-alive.is) c.in_ok-answer.ensures c.in_default.is in
    record {
      runs = IfOk-weaker c.cancel.result _ IsUnderWay (λ told done. cancel_under_way c.args.number c.in-Some-alive.state.uploads c.cancel.new.self runs.upload told runs.found runs.running done) c.cancel.ensures.done;
    }

pub returns-in-Some-alive-clause-done : goal.returns-in-Some-alive-clause-done
returns-in-Some-alive-clause-done c =
    let runs = runs_of (value_of c.args.self.now) c.args.moment c.args.number (state_of c.in-Some-alive.state) _ (ap alive_of c.in-Some-alive.is) c.in_ok-answer.ensures c.in_default.is in
    IfOk-weaker c.told.result _ _
    (λ answer told. cancel_told (value_of c.args.self.now) c.args.moment c.args.number (state_of c.in-Some-alive.state) c.cancel.new.self c.cancel.result answer
    (ap alive_of c.in-Some-alive.is) runs c.cancel.ensures.done c.cancel.ensures.refused c.cancel.ensures.unchanged told)
    (c.told.ensures.told c.in-Some-alive.state.settings)
