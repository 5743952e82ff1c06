use Rattle.std.proofs.Common.{◌≡◌, ◌∙◌, [], ap, rules}
use Rattle.gcs_render.specs.Resources.{bucket_data}
use Rattle.gcs_render.specs.Shown.{with_value}
use Rattle.gcs_render.specs.Writing.{sent}
use Rattle.gcs_render.proofs.Written.{text-written}
use Rattle.gcs_render.proofs.bucket.bucket_text.Goals as goal

pub returns : goal.returns
returns c =
    let value = bucket_data c.args.row.now in
    let start : sent c.new-fields.result ≡ (c.args.text.items, []) = search rules in
    text-written value c.args.text.items c.into_text.result.items (sent c.write_bucket.new.fields) (c.in_ok-write_bucket.ensures ∙ ap (with_value value) start) c.into_text.ensures
