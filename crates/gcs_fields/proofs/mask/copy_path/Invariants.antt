use Rattle.std.proofs.Common.{◌≡◌, take}
use Rattle.gcs_fields.specs.Views.{path_of}
use Rattle.gcs_fields.proofs.mask.copy_path.Given as goal

-- the names so far are copied
abbrev pub invariant-loop-name : goal.invariant-loop-name
invariant-loop-name l = path_of l.made.items ≡ path_of (take l.name-index l.fn.path)
