use Rattle.std.proofs.Common.{◌∙◌, [], ◌∷◌, ap, codes, refl}
use Rattle.json.specs.Token.{end_array}
use Rattle.serde_json.specs.Data.{Data}
use Rattle.gcs_render.specs.Fields.{object_of}
use Rattle.gcs_render.specs.Refusals.{detail_fields}
use Rattle.gcs_render.specs.Shown.{with_token, with_value}
use Rattle.gcs_render.specs.Writing.{sent}
use Rattle.gcs_render.proofs.Written.{list-written}
use Rattle.gcs_render.proofs.refusal.put_errors.Goals as goal

-- a list of one value
pub returns : goal.returns
returns c =
    let detail = object_of (detail_fields c.args.message.now c.args.word.now) in
    let same : Data → Data = (λ d. d) in
    let filled = c.in_ok-write_detail.ensures ∙ ap (with_value detail) c.in_ok-begin_list.ensures in
    list-written (codes "errors") same (detail ∷ []) (sent c.args.fields.now) (sent c.end_list.new.self) refl (c.in_ok-end_list.ensures ∙ ap (with_token end_array) filled)
