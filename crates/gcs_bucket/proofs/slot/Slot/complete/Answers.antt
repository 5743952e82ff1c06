use Rattle.std.proofs.Common.{◌∙◌, ap}
use Rattle.gcs_meaning.specs.Slot.{Slot}
use Rattle.gcs_bucket.specs.Finish.{with_done}
use Rattle.gcs_bucket.specs.Slot.{value_of}
use Rattle.gcs_bucket.proofs.Finishing.{complete_after}
use Rattle.gcs_bucket.proofs.slot.Slot.complete.Goals as goal

pub mark_done-requires : goal.mark_done-requires
mark_done-requires c = complete_after c.args.moment c.args.number c.args.finished.made (value_of c.args.self.now) (value_of c.add-answer.new.self) c.add-answer.result c.requires.next.complete c.add-answer.ensures

pub returns : goal.returns
returns c =
    ap (λ (slot : Slot). (c.add-answer.result, slot)) c.mark_done.ensures ∙ ap (with_done c.args.number c.args.finished.kept) c.add-answer.ensures
