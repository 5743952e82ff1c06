use Rattle.std.proofs.Common.{◌≡◌, drop}
use Rattle.gcs_render.specs.Lists.{bucket_list}
use Rattle.gcs_render.specs.Shown.{send_values}
use Rattle.gcs_render.specs.Writing.{sent}
use Rattle.gcs_render.proofs.list_sink.write_buckets.Given as goal

-- the rows that are left make the same of what is written
abbrev pub invariant-loop-row : goal.invariant-loop-row
invariant-loop-row l = send_values (bucket_list (drop l.row-index l.fn.rows)) (sent l.fields) ≡ send_values (bucket_list l.fn.rows) (sent l.fn.fields)
