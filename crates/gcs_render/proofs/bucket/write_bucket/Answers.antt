use Rattle.std.proofs.Common.{◌∙◌, ap, refl}
use Rattle.gcs_render.specs.Resources.{bucket_fields, bucket_data}
use Rattle.gcs_render.specs.Shown.{in_text, show_fields}
use Rattle.gcs_render.specs.Writing.{sent}
use Rattle.gcs_render.proofs.Written.{object-written}
use Rattle.gcs_render.proofs.bucket.write_bucket.Goals as goal

-- the fields, whose keys rise, between brackets
pub returns : goal.returns
unfolding bucket_data
returns c =
    let fields = bucket_fields c.args.row.now in
    let shown = c.in_ok-put_bucket.ensures ∙ ap (λ written. show_fields fields (in_text written)) c.in_ok-begin_object.ensures in
    c.in_ok-end_object.ensures ∙ object-written fields (sent c.args.fields.now) (sent c.put_bucket.new.fields) refl shown
