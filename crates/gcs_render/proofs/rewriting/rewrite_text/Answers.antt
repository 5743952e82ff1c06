use Rattle.std.proofs.Common.{◌≡◌, ◌∙◌, [], ap, rules}
use Rattle.gcs_render.specs.Lists.{rewrite_data, version_data}
use Rattle.gcs_render.specs.Shown.{with_value}
use Rattle.gcs_render.specs.Writing.{sent}
use Rattle.gcs_render.proofs.Written.{text-written}
use Rattle.gcs_render.proofs.rewriting.rewrite_text.Goals as goal

pub returns : goal.returns
returns c =
    let value = rewrite_data c.args.reply.now (version_data c.args.bucket.now c.args.version.now) in
    let start : sent c.new-fields.result ≡ (c.args.text.items, []) = search rules in
    text-written value c.args.text.items c.into_text.result.items (sent c.write_rewrite.new.fields) (c.in_ok-write_rewrite.ensures ∙ ap (with_value value) start) c.into_text.ensures
