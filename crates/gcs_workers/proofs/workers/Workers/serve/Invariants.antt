use Rattle.std.proofs.Common.{◌≡◌, List}
use Rattle.gcs_store.specs.Store.{mine_in, seen_in}
use Rattle.gcs_workers.specs.Serving.{AreServed, Served}
use Rattle.gcs_workers.proofs.workers.Workers.serve.Given as goal

abbrev pub invariant-loop : goal.invariant-loop
invariant-loop g l = record {
  can : (goal.iterator-loop g).can_next l.iterator';
  finite : (goal.iterator-loop g).is_finite l.iterator';
  home : l.desk.home ≡ l.fn.desk.home;
  caller : l.desk.caller ≡ l.fn.desk.caller;
  done : (connections : List Served) × AreServed l.self.limits.now l.fn.desk.caller connections
      (seen_in l.fn.desk.rows) (mine_in l.fn.desk.rows) (seen_in l.desk.rows) (mine_in l.desk.rows);
}
