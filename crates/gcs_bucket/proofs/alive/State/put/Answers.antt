use Rattle.std.proofs.Common.{◌≡◌, None, sym, subst}
use Rattle.std.specs.List.{find}
use Rattle.gcs_meaning.specs.Slot.{State}
use Rattle.gcs_versions.specs.Rows.{is_version}
use Rattle.gcs_bucket.specs.Alive.{state_of}
use Rattle.gcs_bucket.proofs.Removed.{absent_after}
use Rattle.gcs_bucket.proofs.alive.State.put.Goals as goal

pub put-requires-clause-absent : goal.put-requires-clause-absent
put-requires-clause-absent c =
    subst (λ (s : State). find (is_version c.args.row.name c.args.row.generation) s.rows ≡ None) (sym c.retire_live.ensures.state)
    (absent_after (state_of c.args.self.now) c.args.moment c.args.row.generation c.args.row.name c.requires.next.above)
