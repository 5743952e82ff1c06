use Rattle.std.proofs.Common.{rules}
use Rattle.gcs_turn.proofs.Keeps.{draws}
use Rattle.gcs_turn.proofs.steps.draw.Goals as goal

pub fetch_add-requires : goal.fetch_add-requires
fetch_add-requires g c = (
  search rules,
  search rules,
  draws g.O.Object.history g.O.Object.home _ _ _ _ (search rules) (search rules),
)
