use Rattle.std.proofs.Common.{rules}
use Rattle.gcs_turn.proofs.Joining.{splits}
use Rattle.gcs_turn.proofs.steps.open_seat.Goals as goal

pub split_seat-requires : goal.split_seat-requires
split_seat-requires g c = (
  search rules,
  search rules,
  splits g.O.Object.history g.O.Object.home _ _ _ c.requires.maker.2 c.requires.maker.0 c.requires.maker.1,
)
