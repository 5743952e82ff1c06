use Rattle.std.proofs.Common.{rules}
use Rattle.gcs_turn.proofs.Keeps.{looks}
use Rattle.gcs_turn.proofs.steps.look_now.Goals as goal

pub load-requires : goal.load-requires
load-requires g c = (
  search rules,
  search rules,
  looks g.O.Object.history g.O.Object.home _ _ _ _ (search rules) (search rules),
)
