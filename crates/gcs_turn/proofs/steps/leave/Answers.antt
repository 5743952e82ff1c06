use Rattle.std.proofs.Common.{rules}
use Rattle.gcs_turn.proofs.Keeps.{leaves}
use Rattle.gcs_turn.proofs.steps.leave.Goals as goal

pub fetch_add-requires : goal.fetch_add-requires
fetch_add-requires g c = let h = c.requires.holds in (
  search rules,
  search rules,
  leaves g.O.Object.history g.O.Object.home _ _ _ _ h.0 c.requires.served.0 c.requires.served.1 h.1 h.2.0 h.2.1 h.2.2,
)
