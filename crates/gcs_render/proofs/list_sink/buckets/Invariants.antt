use Rattle.std.proofs.Common.{◌≡◌, take, map}
use Rattle.serde_json.specs.View.{view}
use Rattle.gcs_render.specs.Lists.{bucket_list}
use Rattle.gcs_render.proofs.list_sink.buckets.Given as goal

-- the values so far are those of the elements so far
abbrev pub invariant-loop-row : goal.invariant-loop-row
invariant-loop-row l = map view l.values.items ≡ bucket_list (take l.row-index l.fn.rows)
