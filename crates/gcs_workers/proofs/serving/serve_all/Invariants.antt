use Rattle.gcs_workers.specs.Working.{HaveWorked}
use Rattle.gcs_workers.proofs.serving.serve_all.Given as goal

abbrev pub invariant-loop : goal.invariant-loop
invariant-loop g l = record {
  can : (goal.iterator-loop g).can_next l.iterator';
  finite : (goal.iterator-loop g).is_finite l.iterator';
  worked : HaveWorked l.limits l.store l.fn.passes.items l.passes.items;
}
