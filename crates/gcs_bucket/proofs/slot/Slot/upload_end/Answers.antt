use Rattle.std.proofs.Common.{◌∙◌, ap, sym, Option}
use Rattle.std.proofs.lemmas.Result.{IfOk-weaker}
use Rattle.gcs_meaning.specs.declared.command.Answer.{Answer}
use Rattle.gcs_bucket.specs.Alive.{alive_of, state_of}
use Rattle.gcs_bucket.specs.Slot.{value_of}
use Rattle.gcs_bucket.proofs.Uploading.{end_found, end_missing}
use Rattle.gcs_bucket.proofs.slot.Slot.upload_end.Goals as goal

pub returns-in-Some-get : goal.returns-in-Some-get
returns-in-Some-get c =
    let found = end_found (value_of c.args.self.now) c.args.moment c.args.number (state_of c.in-Some.state) c.in-Some-get.upload.now (ap alive_of c.in-Some.is) (sym c.in-Some-get.ensures) in
    IfOk-weaker c.ended.result _ _ (λ (end : Option Answer) is. is ∙ sym found) c.ended.ensures

pub returns-in-None : goal.returns-in-None
returns-in-None c =
    sym (end_missing (value_of c.args.self.now) c.args.moment c.args.number (state_of c.in-Some.state) (ap alive_of c.in-Some.is) (sym c.in-None.ensures))
