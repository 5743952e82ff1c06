use Rattle.std.proofs.Common.{◌≡◌, ◌∙◌, [], ap, rules, option_map}
use Rattle.gcs_render.specs.Lists.{buckets_data}
use Rattle.gcs_render.specs.Shown.{with_value}
use Rattle.gcs_render.specs.Writing.{sent}
use Rattle.gcs_render.proofs.Written.{text-written}
use Rattle.gcs_render.proofs.lists.buckets_text.Goals as goal

pub returns : goal.returns
returns c =
    let value = buckets_data c.args.rows.now (option_map (λ t. t.now) c.args.token) in
    let start : sent c.new-fields.result ≡ (c.args.text.items, []) = search rules in
    text-written value c.args.text.items c.into_text.result.items (sent c.write_bucket_page.new.fields) (c.in_ok-write_bucket_page.ensures ∙ ap (with_value value) start) c.into_text.ensures
