use Rattle.std.proofs.Common.{◌≡◌, take, drop}
use Rattle.gcs_rewrite.specs.Lists.{listed_from, listed_in, AreListed}
use Rattle.gcs_rewrite.proofs.lists.listed_in.Given as goal

-- what is left leads to the same first buckets
abbrev pub invariant-loop-answer : goal.invariant-loop-answer
invariant-loop-answer l = record {
  listed : AreListed l.most l.listed.items;
  same : take l.most (listed_in l.answers) ≡ take l.most (listed_from l.listed.items (drop l.answer-index l.answers));
}
