-- The deletion of a version: what was decided before ageing.
use Rattle.std.specs.Prelude.{◌≡◌, ℕ, List, Option, Some, Result, Ok, Err}
use Rattle.std.specs.Option.{IfSome, option_map}
use Rattle.gcs_meaning.specs.declared.reason.Reason.{Reason}
use Rattle.gcs_meaning.specs.declared.command.Answer.{Answer}
use Rattle.gcs_meaning.specs.declared.command.Answer.TheVariants.{Empty, Refused}
use Rattle.gcs_meaning.specs.Choosing.{chosen_row}
use Rattle.gcs_meaning.specs.ObjectDeletion.{delete_state}
use Rattle.gcs_meaning.specs.Slot.{Slot}
use Rattle.gcs_bucket.specs.Alive.{on_bucket}

-- in the bucket that is alive the version that was asked for is there, and has this generation
abbrev pub IsChosenAt : List ℕ → Option ℕ → ℕ → Slot → Type 0
IsChosenAt name asked found slot = IfSome slot.alive (λ s. option_map (λ row. row.generation) (chosen_row name asked s.rows) ≡ Some found)

-- what a decision at t comes to: the refusal, or the version that was asked for is taken away
abbrev pub decided_deletion : Result ℕ Reason → ℕ → List ℕ → Option ℕ → Slot → Answer × Slot
decided_deletion (Err reason) t name asked slot = (Refused reason, slot)
decided_deletion (Ok found) t name asked slot = (Empty, on_bucket (λ s. delete_state s t name asked) slot)
