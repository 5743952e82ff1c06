use Rattle.std.proofs.Common.{◌≡◌, drop, map}
use Rattle.serde_json.specs.Data.{string}
use Rattle.gcs_render.specs.Shown.{send_values}
use Rattle.gcs_render.specs.Writing.{sent}
use Rattle.gcs_render.proofs.list_sink.write_strings.Given as goal

-- the texts that are left make the same of what is written
abbrev pub invariant-loop-text : goal.invariant-loop-text
invariant-loop-text l = send_values (map string (drop l.text-index l.fn.texts)) (sent l.fields) ≡ send_values (map string l.fn.texts) (sent l.fn.fields)
