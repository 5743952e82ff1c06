use Rattle.std.proofs.Common.{◌∙◌, ap, refl, option_map}
use Rattle.gcs_render.specs.Lists.{buckets_fields}
use Rattle.gcs_render.specs.Shown.{in_text, show_fields}
use Rattle.gcs_render.specs.Writing.{sent}
use Rattle.gcs_render.proofs.Written.{object-written}
use Rattle.gcs_render.proofs.lists.write_bucket_page.Goals as goal

-- the fields, whose keys rise, between brackets
pub returns : goal.returns
returns c =
    let fields = buckets_fields c.args.rows.now (option_map (λ t. t.now) c.args.token) in
    let shown = c.in_ok-put_bucket_page.ensures ∙ ap (λ written. show_fields fields (in_text written)) c.in_ok-begin_object.ensures in
    c.in_ok-end_object.ensures ∙ object-written fields (sent c.args.fields.now) (sent c.put_bucket_page.new.fields) refl shown
