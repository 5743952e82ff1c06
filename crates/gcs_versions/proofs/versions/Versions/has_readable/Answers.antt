use Rattle.std.proofs.Common.{ap}
use Rattle.gcs_versions.specs.Kept.{Kept}
use Rattle.gcs_versions.proofs.Seen.{readable_seen}
use Rattle.gcs_versions.proofs.versions.Versions.has_readable.Goals as goal

pub returns : goal.returns
returns c = readable_seen c.self.invariant.indexes (ap (λ (k : Kept). k.rows) c.self.view_is) c.is_empty.result c.is_empty.ensures
