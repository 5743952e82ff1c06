use Rattle.std.proofs.Common.{◌≡◌, ◌∙◌, ap}
use Rattle.serde_json.specs.View.{view}
use Rattle.gcs_render.specs.Fields.{held}
use Rattle.gcs_render.specs.Resources.{object_fields, object_data}
use Rattle.gcs_render.specs.Shown.{in_value, show_fields}
use Rattle.gcs_render.proofs.Whole.{object_data-whole}
use Rattle.gcs_render.proofs.Written.{object-shown}
use Rattle.gcs_render.proofs.object.object_in.Goals as goal

-- what is made is the resource, which has no float
pub returns : goal.returns
unfolding object_data
returns c =
    let fields = object_fields c.args.bucket.now c.args.row.now c.args.settings.now in
    let shown = c.in_ok-put_object.ensures ∙ ap (λ members. show_fields fields (in_value members)) c.new-fields.ensures in
    let made : view c.into_value.result ≡ object_data c.args.bucket.now c.args.row.now c.args.settings.now = c.into_value.ensures ∙ object-shown fields (held c.put_object.new.fields) shown in
    record { value = made; whole = rw made (object_data-whole c.args.bucket.now c.args.row.now c.args.settings.now) }
