use Rattle.std.proofs.Common.{◌∙◌, ap, map, rules}
use Rattle.json.specs.Token.{end_array}
use Rattle.gcs_meaning.specs.declared.version.Row.{Row}
use Rattle.serde_json.specs.Data.{Data}
use Rattle.gcs_render.specs.Resources.{object_data}
use Rattle.gcs_render.specs.Shown.{with_token, send_values}
use Rattle.gcs_render.specs.Writing.{sent}
use Rattle.gcs_render.proofs.Written.{list-written}
use Rattle.gcs_render.proofs.list_sink.FieldWriterListSink.objects_if.Goals as goal

-- the values, between brackets
pub returns : goal.returns
returns c =
    let shown : Row → Data = (λ row. object_data c.args.bucket.now row c.args.settings.now) in
    let items = c.args.rows.now in
    let filled = c.in_ok-write_objects.ensures ∙ ap (send_values (map shown items)) c.in_ok-begin_list.ensures in
    list-written c.args.key.now shown items (sent c.args.self.now) (sent c.end_list.new.self) (search rules) (c.in_ok-end_list.ensures ∙ ap (with_token end_array) filled)
