use Rattle.std.proofs.Common.{◌≡◌, ◌≤◌, take}
use Rattle.std.specs.Vec.{vec_capacity}
use Rattle.gcs_index.proofs.copying.copy_block.Given as goal

-- the entries that were seen are copied
abbrev pub invariant-loop-entry : goal.invariant-loop-entry
invariant-loop-entry g l = record {
  items : l.copy.entries.items ≡ take l.entry-index l.entry-items;
  room : 512 ≤ vec_capacity l.copy.entries;
}
