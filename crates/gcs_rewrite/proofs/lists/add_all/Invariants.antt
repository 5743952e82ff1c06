use Rattle.std.proofs.Common.{◌≡◌, take, drop}
use Rattle.gcs_rewrite.specs.Lists.{with_all_listed, AreListed}
use Rattle.gcs_rewrite.proofs.lists.add_all.Given as goal

-- what is left leads to the same first buckets
abbrev pub invariant-loop-row : goal.invariant-loop-row
invariant-loop-row l = record {
  listed : AreListed l.most l.listed.items;
  same : take l.most (with_all_listed l.rows l.fn.listed.items) ≡ take l.most (with_all_listed (drop l.row-index l.rows) l.listed.items);
}
