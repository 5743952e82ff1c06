use Rattle.std.proofs.Common.{rules}
use Rattle.gcs_turn.proofs.Joining.{joins}
use Rattle.gcs_turn.proofs.steps.join_seats.Goals as goal

pub join_seat-requires : goal.join_seat-requires
join_seat-requires g c = let m = c.requires.maker in let o = c.requires.other in (
  search rules,
  search rules,
  search rules,
  search rules,
  joins g.O.Object.history g.O.Object.home _ _ _ _ _ m.2 o.2 m.1 o.1 m.0,
)
