use Rattle.std.proofs.Common.{◌≡◌, length}
use Rattle.gcs_meaning.specs.Aging.{aged_rows}
use Rattle.gcs_versions.proofs.versions.Versions.age.Given as goal

-- what is gone by the moment and still there will be taken away, and what was prepared is
abbrev pub invariant-loop-self : goal.invariant-loop-self
invariant-loop-self l = record {
  rows : aged_rows l.moment l.self.rows ≡ aged_rows l.moment l.fn.self.rows;
  put : l.self.to_put ≡ l.fn.self.to_put;
  retire : l.self.to_retire ≡ l.fn.self.to_retire;
}

-- each turn takes a version away
abbrev pub decreases-loop-self : goal.decreases-loop-self
decreases-loop-self l = length l.self.rows
