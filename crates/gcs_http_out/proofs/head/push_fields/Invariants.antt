use Rattle.std.proofs.Common.{◌≡◌, ◌++◌, take}
use Rattle.gcs_http_out.specs.Head.{field_lines, texts_of}
use Rattle.gcs_http_out.proofs.head.push_fields.Given as goal

-- the lines of the fields so far stand behind what was there
abbrev pub invariant-loop-name : goal.invariant-loop-name
invariant-loop-name l = l.bytes.items ≡ l.fn.bytes.items ++ field_lines (texts_of (take l.name-index l.fn.fields))
