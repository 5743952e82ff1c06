use Rattle.std.proofs.Common.{◌≡◌, ◌*◌, length}
use Rattle.gcs_listing.specs.Seeking.{listed_rows, passed_count, AreOfSearches, IsBoundAmong}
use Rattle.gcs_listing.proofs.PageLemmas.{IsTakenSo}
use Rattle.gcs_listing.proofs.paging.take_units.Given as goal

-- the units taken and those that are left are all that come after the token's, and the next is sought from the bound on
abbrev pub invariant-loop : goal.invariant-loop
invariant-loop g l = record {
  taken : IsTakenSo l.query (listed_rows l.query.view l.moment l.versions.rows) l.taken l.last l.counter;
  bound : IsBoundAmong l.query (listed_rows l.query.view l.moment l.versions.rows) l.last l.from;
  looks : AreOfSearches (2 * l.counter)
      (record {
        rows = length l.versions.rows;
        before = l.fn.steps;
        after = l.steps;
        gone_at_start = 0;
        gone_at_end = passed_count l.query.view l.moment l.versions.rows l.from;
      });
  most : l.end ≡ l.query.most;
}
