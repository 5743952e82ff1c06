use Rattle.std.proofs.Common.{◌≡◌, ◌-◌, length}
use Rattle.std.specs.List.{find}
use Rattle.gcs_meaning.specs.Order.{is_at_least}
use Rattle.gcs_listing.specs.Seeking.{gone_count, listed_rows, passed_count, AreOfSearches}
use Rattle.gcs_listing.proofs.seeking.first_listed.Given as goal

-- from here on the first listed version is the one from the bound on, and each search passed over one more
abbrev pub invariant-loop-row : goal.invariant-loop-row
invariant-loop-row g l = record {
  same : find (is_at_least l.from) (listed_rows l.view l.moment l.versions.rows) ≡ find (is_at_least l.fn.bound) (listed_rows l.view l.moment l.versions.rows);
  looks : AreOfSearches 0
      (record {
        rows = length l.versions.rows;
        before = l.fn.steps;
        after = l.steps;
        gone_at_start = passed_count l.view l.moment l.versions.rows l.fn.bound;
        gone_at_end = passed_count l.view l.moment l.versions.rows l.from;
      });
}

abbrev pub decreases-loop-row : goal.decreases-loop-row
decreases-loop-row g l = gone_count l.view l.moment l.versions.rows - passed_count l.view l.moment l.versions.rows l.from
