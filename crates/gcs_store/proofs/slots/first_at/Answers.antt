use Rattle.std.proofs.Common.{◌∙◌, ap}
use Rattle.std.specs.Prelude.{insert}
use Rattle.gcs_store.proofs.Slotted.{first_done}
use Rattle.gcs_store.proofs.slots.first_at.Goals as goal

pub returns-in_ok-answer-in-BucketInsert-clause-done : goal.returns-in_ok-answer-in-BucketInsert-clause-done
returns-in_ok-answer-in-BucketInsert-clause-done g c =
    first_done _ _ _ c.args.place c.args.moment _ c.in-BucketInsert.bucket c.in-BucketInsert.settings _ c.in_ok-answer-in-BucketInsert.slot
    c.in-BucketInsert.is c.requires.gap c.in_ok-answer-in-BucketInsert.ensures.done c.in_ok-answer-in-BucketInsert.ensures.name
    (c.insert_slot.ensures ∙ ap (λ slots. insert slots c.args.place c.in_ok-answer-in-BucketInsert.slot) c.reserve.ensures.items)
