use Rattle.std.proofs.Common.{ap}
use Rattle.gcs_index.specs.Entries.{entry_of, position}
use Rattle.gcs_versions.specs.Kept.{Kept}
use Rattle.gcs_versions.proofs.Seen.{latest_seen, none_latest_seen}
use Rattle.gcs_versions.proofs.versions.Versions.latest_hard.Goals as goal

pub returns-in-Some : goal.returns-in-Some
returns-in-Some c =
    latest_seen c.self.invariant.indexes (ap (λ (k : Kept). k.rows) c.self.view_is)
    (position c.self.inside.due.sizes c.in-Some.last) (entry_of c.at.result.0.now c.at.result.1.now) c.in-Some.ensures.last c.at.ensures

pub returns-in-None : goal.returns-in-None
returns-in-None c = none_latest_seen c.self.invariant.indexes (ap (λ (k : Kept). k.rows) c.self.view_is) c.in-None.ensures.none
