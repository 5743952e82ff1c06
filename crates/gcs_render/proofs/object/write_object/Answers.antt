use Rattle.std.proofs.Common.{◌∙◌, ap, refl}
use Rattle.gcs_render.specs.Resources.{object_fields, object_data}
use Rattle.gcs_render.specs.Shown.{in_text, show_fields}
use Rattle.gcs_render.specs.Writing.{sent}
use Rattle.gcs_render.proofs.Written.{object-written}
use Rattle.gcs_render.proofs.object.write_object.Goals as goal

-- the fields, whose keys rise, between brackets
pub returns : goal.returns
unfolding object_data
returns c =
    let fields = object_fields c.args.bucket.now c.args.row.now c.args.settings.now in
    let shown = c.in_ok-put_object.ensures ∙ ap (λ written. show_fields fields (in_text written)) c.in_ok-begin_object.ensures in
    c.in_ok-end_object.ensures ∙ object-written fields (sent c.args.fields.now) (sent c.put_object.new.fields) refl shown
