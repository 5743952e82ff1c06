use Rattle.std.proofs.Common.{◌≡◌, ◌∙◌, ap}
use Rattle.serde_json.specs.View.{view}
use Rattle.gcs_render.specs.Fields.{held}
use Rattle.gcs_render.specs.Resources.{bucket_fields, bucket_data}
use Rattle.gcs_render.specs.Shown.{in_value, show_fields}
use Rattle.gcs_render.proofs.Whole.{bucket_data-whole}
use Rattle.gcs_render.proofs.Written.{object-shown}
use Rattle.gcs_render.proofs.bucket.bucket_in.Goals as goal

-- what is made is the resource, which has no float
pub returns : goal.returns
unfolding bucket_data
returns c =
    let fields = bucket_fields c.args.row.now in
    let shown = c.in_ok-put_bucket.ensures ∙ ap (λ members. show_fields fields (in_value members)) c.new-fields.ensures in
    let made : view c.into_value.result ≡ bucket_data c.args.row.now = c.into_value.ensures ∙ object-shown fields (held c.put_bucket.new.fields) shown in
    record { value = made; whole = rw made (bucket_data-whole c.args.row.now) }
