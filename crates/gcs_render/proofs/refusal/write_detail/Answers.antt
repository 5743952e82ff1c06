use Rattle.std.proofs.Common.{◌∙◌, ap, refl}
use Rattle.gcs_render.specs.Refusals.{detail_fields}
use Rattle.gcs_render.specs.Shown.{in_text, show_fields}
use Rattle.gcs_render.specs.Writing.{sent}
use Rattle.gcs_render.proofs.Written.{object-written}
use Rattle.gcs_render.proofs.refusal.write_detail.Goals as goal

-- the fields, whose keys rise, between brackets
pub returns : goal.returns
returns c =
    let fields = detail_fields c.args.message.now c.args.word.now in
    let shown = c.in_ok-put_detail.ensures ∙ ap (λ written. show_fields fields (in_text written)) c.in_ok-begin_object.ensures in
    c.in_ok-end_object.ensures ∙ object-written fields (sent c.args.fields.now) (sent c.put_detail.new.fields) refl shown
