use Rattle.std.proofs.Common.{ap}
use Rattle.gcs_index.specs.Entries.{entry_of, position}
use Rattle.gcs_versions.specs.Kept.{Kept}
use Rattle.gcs_versions.proofs.Seen.{due_seen, none_due_seen}
use Rattle.gcs_versions.proofs.versions.Versions.has_due.Goals as goal

pub returns-in-Some : goal.returns-in-Some
returns-in-Some c =
    due_seen c.self.invariant.indexes (ap (λ (k : Kept). k.rows) c.self.view_is)
    c.args.moment (position c.self.inside.due.sizes c.in-Some.first) (entry_of c.at.result.0.now c.at.result.1.now) c.in-Some.ensures.first c.at.ensures

pub returns-in-None : goal.returns-in-None
returns-in-None c = none_due_seen c.self.invariant.indexes (ap (λ (k : Kept). k.rows) c.self.view_is) c.args.moment c.in-None.ensures.none
