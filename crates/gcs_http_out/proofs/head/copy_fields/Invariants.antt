use Rattle.std.proofs.Common.{◌≡◌, take}
use Rattle.gcs_http_out.specs.Head.{texts_of}
use Rattle.gcs_http_out.proofs.head.copy_fields.Given as goal

-- the fields so far are copied
abbrev pub invariant-loop-name : goal.invariant-loop-name
invariant-loop-name l = texts_of l.made.items ≡ texts_of (take l.name-index l.fn.fields)
