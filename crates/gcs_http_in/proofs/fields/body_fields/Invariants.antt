use Rattle.std.proofs.Common.{◌≡◌, take, map}
use Rattle.httparse.specs.Spans.{header_bytes}
use Rattle.gcs_http_in.specs.Fields.{coding_in, length_in}
use Rattle.gcs_http_in.proofs.fields.body_fields.Given as goal

abbrev pub invariant-loop-header : goal.invariant-loop-header
invariant-loop-header l = let fields = map (header_bytes l.text) (take l.header-index l.headers) in
    record { coding : l.coding ≡ coding_in fields; length : l.length ≡ length_in fields }
