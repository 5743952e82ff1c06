use Rattle.std.proofs.Common.{◌∙◌, ap, codes, refl}
use Rattle.gcs_render.specs.Lists.{rewrite_start, rewrite_end, rewrite_fields, where_done, version_data}
use Rattle.gcs_render.specs.Shown.{Shown, in_text, show_fields, show_where}
use Rattle.gcs_render.specs.Writing.{sent}
use Rattle.gcs_render.proofs.Written.{object-written}
use Rattle.gcs_render.proofs.rewriting.write_rewrite.Goals as goal

-- the fields, whose keys rise, between brackets
pub returns : goal.returns
returns c =
    let reply = c.args.reply.now in
    let resource = version_data c.args.bucket.now c.args.version.now in
    let started = c.in_ok-put_start.ensures ∙ ap (λ written. show_fields (rewrite_start reply) (in_text written)) c.in_ok-begin_object.ensures in
    let shown = c.in_ok-write_resource.ensures ∙ ap (λ (s : Shown). show_where (codes "resource") (where_done reply.token resource) s) started in
    let ended = c.in_ok-put_end.ensures ∙ ap (λ (s : Shown). show_fields (rewrite_end reply) s) shown in
    c.in_ok-end_object.ensures ∙ object-written (rewrite_fields reply resource) (sent c.args.fields.now) (sent c.put_end.new.fields) refl ended
