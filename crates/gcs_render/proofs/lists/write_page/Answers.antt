use Rattle.std.proofs.Common.{◌∙◌, ap, refl}
use Rattle.gcs_render.specs.Lists.{list_fields}
use Rattle.gcs_render.specs.Shown.{in_text, show_fields}
use Rattle.gcs_render.specs.Writing.{sent}
use Rattle.gcs_render.proofs.Written.{object-written}
use Rattle.gcs_render.proofs.lists.write_page.Goals as goal

-- the fields, whose keys rise, between brackets
pub returns : goal.returns
returns c =
    let fields = list_fields c.args.bucket.now c.args.page.now in
    let shown = c.in_ok-put_page.ensures ∙ ap (λ written. show_fields fields (in_text written)) c.in_ok-begin_object.ensures in
    c.in_ok-end_object.ensures ∙ object-written fields (sent c.args.fields.now) (sent c.put_page.new.fields) refl shown
