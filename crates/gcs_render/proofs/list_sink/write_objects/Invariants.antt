use Rattle.std.proofs.Common.{◌≡◌, drop}
use Rattle.gcs_render.specs.Lists.{object_list}
use Rattle.gcs_render.specs.Shown.{send_values}
use Rattle.gcs_render.specs.Writing.{sent}
use Rattle.gcs_render.proofs.list_sink.write_objects.Given as goal

-- the rows that are left make the same of what is written
abbrev pub invariant-loop-row : goal.invariant-loop-row
invariant-loop-row l =
    send_values (object_list l.fn.bucket (drop l.row-index l.fn.rows) l.fn.settings) (sent l.fields)
    ≡ send_values (object_list l.fn.bucket l.fn.rows l.fn.settings) (sent l.fn.fields)
