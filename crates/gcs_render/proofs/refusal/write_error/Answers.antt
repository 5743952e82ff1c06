use Rattle.std.proofs.Common.{◌∙◌, [], ◌∷◌, ap, codes, refl}
use Rattle.gcs_render.specs.Fields.{inner}
use Rattle.gcs_render.specs.Refusals.{error_fields}
use Rattle.gcs_render.specs.Shown.{Sent, in_text, show_fields, show_where}
use Rattle.gcs_render.specs.Writing.{sent}
use Rattle.gcs_render.proofs.Written.{inner-written, object-written}
use Rattle.gcs_render.proofs.refusal.write_error.Goals as goal

-- an object with the one field, which is an object
pub returns : goal.returns
returns c =
    let fields = error_fields c.args.code c.args.message.now c.args.word.now in
    let opened = sent c.begin_object.new.self in
    let shown = c.in_ok-put_error.ensures ∙ ap (λ written. show_fields fields (in_text written)) c.in_ok-begin_inner.ensures in
    let inside = ap in_text c.in_ok-end_object.ensures ∙ inner-written (codes "error") fields opened (sent c.put_error.new.fields) refl shown in
    let all = inside ∙ ap (λ (s : Sent). show_where (codes "error") (inner fields) (in_text s)) c.in_ok-begin_object.ensures in
    c.in_ok-end_object-2.ensures ∙ object-written ((codes "error", inner fields) ∷ []) (sent c.args.fields.now) (sent c.end_object.new.self) refl all
