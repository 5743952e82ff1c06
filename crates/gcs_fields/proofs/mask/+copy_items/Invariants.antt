use Rattle.std.proofs.Common.{◌≡◌, map, take}
use Rattle.gcs_fields.specs.Views.{before}
use Rattle.gcs_fields.proofs.mask.+copy_items.Given as goal

-- the items so far are copied
abbrev pub invariant-copy_items-loop-item : goal.invariant-copy_items-loop-item
invariant-copy_items-loop-item l = map before l.made.items ≡ map before (take l.item-index l.items)
