use Rattle.std.proofs.Common.{◌≡◌, ◌∙◌, ap, codes, option_map}
use Rattle.serde_json.specs.View.{view}
use Rattle.gcs_render.specs.Fields.{held}
use Rattle.gcs_render.specs.Lists.{rewrite_start, rewrite_end, rewrite_fields, rewrite_data, where_done}
use Rattle.gcs_render.specs.Shown.{Shown, in_value, show_fields, show_where}
use Rattle.gcs_render.proofs.Whole.{rewrite_data-whole, shown-whole}
use Rattle.gcs_render.proofs.Written.{object-shown}
use Rattle.gcs_render.proofs.rewriting.rewrite_value.Goals as goal

-- the fields are shown in the order of the table
pub returns-clause-value : goal.returns-clause-value
returns-clause-value c =
    let reply = c.args.reply.now in
    let resource = option_map view c.args.resource in
    let started = c.in_ok-put_start.ensures ∙ ap (λ members. show_fields (rewrite_start reply) (in_value members)) c.new-fields.ensures in
    let shown = c.in_ok-put_resource.ensures ∙ ap (λ (s : Shown). show_where (codes "resource") (where_done reply.token resource) s) started in
    let ended = c.in_ok-put_end.ensures ∙ ap (λ (s : Shown). show_fields (rewrite_end reply) s) shown in
    c.into_value.ensures ∙ object-shown (rewrite_fields reply resource) (held c.put_end.new.fields) ended

-- and have no float where the resource has none
pub returns-clause-whole : goal.returns-clause-whole
returns-clause-whole c whole =
    let made : view c.into_value.result ≡ rewrite_data c.args.reply.now (option_map view c.args.resource) = returns-clause-value c in
    rw made (rewrite_data-whole c.args.reply.now (option_map view c.args.resource) (shown-whole c.args.resource whole))
