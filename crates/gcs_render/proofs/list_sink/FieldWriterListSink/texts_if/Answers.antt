use Rattle.std.proofs.Common.{◌∙◌, ap, map, rules}
use Rattle.json.specs.Token.{end_array}
use Rattle.serde_json.specs.Data.{string}
use Rattle.gcs_render.specs.Shown.{with_token, send_values}
use Rattle.gcs_render.specs.Writing.{sent}
use Rattle.gcs_render.proofs.Written.{list-written}
use Rattle.gcs_render.proofs.list_sink.FieldWriterListSink.texts_if.Goals as goal

-- the values, between brackets
pub returns : goal.returns
returns c =
    let shown = string in
    let items = c.args.texts.now in
    let filled = c.in_ok-write_strings.ensures ∙ ap (send_values (map shown items)) c.in_ok-begin_list.ensures in
    list-written c.args.key.now shown items (sent c.args.self.now) (sent c.end_list.new.self) (search rules) (c.in_ok-end_list.ensures ∙ ap (with_token end_array) filled)
