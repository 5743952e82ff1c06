use Rattle.std.proofs.Common.{◌≡◌, ◌++◌, ◌∷◌, [], take, map, get_or, ◌∙◌, sym, ap}
use Rattle.httparse.specs.Spans.{header_bytes}
use Rattle.gcs_http_in.specs.Fields.{coding_in, length_in}
use Rattle.gcs_http_in.proofs.FieldLemmas.{fields_more, no_header}
use Rattle.gcs_http_in.proofs.fields.body_fields.Goals as goal

pub loop-header-preserved : goal.loop-header-preserved
loop-header-preserved c =
    let i = c.loop-header.header-index in
    let fields = map (header_bytes c.args.text.now) (take i c.args.headers.now) in
    let next = fields ++ header_bytes c.args.text.now (get_or c.args.headers.now i no_header) ∷ [] in
    let coding : c.coding_with-coding.result ≡ coding_in next = c.coding_with-coding.ensures fields c.loop-header.invariant.coding in
    let known : c.length_with-length.result ≡ length_in next = c.length_with-length.ensures fields c.loop-header.invariant.length in
    let more = sym (fields_more c.args.text.now c.args.headers.now i no_header c.loop-header-test.true) in
    record { coding = coding ∙ ap coding_in more; length = known ∙ ap length_in more }
