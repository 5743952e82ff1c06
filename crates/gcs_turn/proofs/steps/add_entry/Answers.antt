use Rattle.std.proofs.Common.{rules}
use Rattle.gcs_turn.proofs.Keeps.{adds}
use Rattle.gcs_turn.proofs.steps.add_entry.Goals as goal

pub fetch_add-requires : goal.fetch_add-requires
fetch_add-requires g c = (
  search rules,
  search rules,
  adds g.O.Object.history g.O.Object.home _ _ _ _ _ _ c.requires.entry (search rules) (search rules) (search rules) (search rules) c.requires.room,
)
