use Rattle.std.proofs.Common.{◌≡◌, ◌∙◌, ap}
use Rattle.serde_json.specs.View.{view}
use Rattle.gcs_render.specs.Fields.{held}
use Rattle.gcs_render.specs.Lists.{list_fields, list_data}
use Rattle.gcs_render.specs.Shown.{in_value, show_fields}
use Rattle.gcs_render.proofs.Whole.{list_data-whole}
use Rattle.gcs_render.proofs.Written.{object-shown}
use Rattle.gcs_render.proofs.lists.list_value.Goals as goal

-- what is made is the resource, which has no float
pub returns : goal.returns
returns c =
    let fields = list_fields c.args.bucket.now c.args.page.now in
    let shown = c.in_ok-put_page.ensures ∙ ap (λ members. show_fields fields (in_value members)) c.new-fields.ensures in
    let made : view c.into_value.result ≡ list_data c.args.bucket.now c.args.page.now = c.into_value.ensures ∙ object-shown fields (held c.put_page.new.fields) shown in
    record { value = made; whole = rw made (list_data-whole c.args.bucket.now c.args.page.now) }
