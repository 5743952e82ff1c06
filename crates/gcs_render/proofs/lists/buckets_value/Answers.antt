use Rattle.std.proofs.Common.{◌≡◌, ◌∙◌, ap, option_map}
use Rattle.serde_json.specs.View.{view}
use Rattle.gcs_render.specs.Fields.{held}
use Rattle.gcs_render.specs.Lists.{buckets_fields, buckets_data}
use Rattle.gcs_render.specs.Shown.{in_value, show_fields}
use Rattle.gcs_render.proofs.Whole.{buckets_data-whole}
use Rattle.gcs_render.proofs.Written.{object-shown}
use Rattle.gcs_render.proofs.lists.buckets_value.Goals as goal

-- what is made is the resource, which has no float
pub returns : goal.returns
returns c =
    let fields = buckets_fields c.args.rows.now (option_map (λ t. t.now) c.args.token) in
    let shown = c.in_ok-put_bucket_page.ensures ∙ ap (λ members. show_fields fields (in_value members)) c.new-fields.ensures in
    let made : view c.into_value.result ≡ buckets_data c.args.rows.now (option_map (λ t. t.now) c.args.token) = c.into_value.ensures ∙ object-shown fields (held c.put_bucket_page.new.fields) shown in
    record { value = made; whole = rw made (buckets_data-whole c.args.rows.now (option_map (λ t. t.now) c.args.token)) }
