use Rattle.std.proofs.Common.{◌∙◌, ap, sym}
use Rattle.std.proofs.lemmas.Result.{IfOk-weaker}
use Rattle.gcs_meaning.specs.Aging.{aged}
use Rattle.gcs_bucket.specs.Alive.{alive_of, state_of}
use Rattle.gcs_bucket.specs.Slot.{value_of}
use Rattle.gcs_bucket.specs.Uploading.{IsUnderWay}
use Rattle.gcs_bucket.proofs.Uploading.{append_ended, append_told, append_under_way, runs_of}
use Rattle.gcs_bucket.proofs.slot.Slot.append_at.Goals as goal

pub returns-in-Some-clause-done : goal.returns-in-Some-clause-done
returns-in-Some-clause-done c =
    append_ended (aged (value_of c.args.self.now) c.args.moment) c.args.number c.args.offset c.args.total c.args.content.now c.in-Some.answer (sym c.in_ok-answer.ensures ∙ c.in-Some.is)

pub told-requires : goal.told-requires
told-requires c =
    let runs = runs_of (value_of c.args.self.now) c.args.moment c.args.number (state_of c.in-Some-alive.state) _ (ap alive_of c.in-Some-alive.is) c.in_ok-answer.ensures c.in_default.is in
    record {
      runs = IfOk-weaker c.append.result _ IsUnderWay (λ told done. append_under_way c.args.number c.args.offset c.args.total c.args.content.now c.in-Some-alive.state.uploads c.append.new.self runs.upload told runs.found runs.running done) c.append.ensures.done;
    }

pub returns-in-Some-alive-clause-done : goal.returns-in-Some-alive-clause-done
returns-in-Some-alive-clause-done c =
    let runs = runs_of (value_of c.args.self.now) c.args.moment c.args.number (state_of c.in-Some-alive.state) _ (ap alive_of c.in-Some-alive.is) c.in_ok-answer.ensures c.in_default.is in
    IfOk-weaker c.told.result _ _
    (λ answer told. append_told (value_of c.args.self.now) c.args.moment c.args.number c.args.offset c.args.total c.args.content.now (state_of c.in-Some-alive.state) c.append.new.self c.append.result answer
    (ap alive_of c.in-Some-alive.is) runs c.append.ensures.done c.append.ensures.refused c.append.ensures.unchanged told)
    (c.told.ensures.told c.in-Some-alive.state.settings)
