-- The restore of a deleted bucket: what was decided before ageing.
use Rattle.std.specs.Prelude.{ℕ, Option, Some, None, Result, Ok, Err}
use Rattle.gcs_meaning.specs.declared.version.BucketRow.{BucketRow}
use Rattle.gcs_meaning.specs.declared.reason.Reason.{Reason}
use Rattle.gcs_meaning.specs.declared.command.Answer.{Answer}
use Rattle.gcs_meaning.specs.declared.command.Answer.TheVariants.{Bucket, Refused}
use Rattle.gcs_meaning.specs.BucketRestore.{grave_found, restored_state, unburied}
use Rattle.gcs_meaning.specs.Slot.{Grave, Slot}

-- the slot whose deleted bucket of a generation, where it was found, is alive again since t
abbrev pub revived : Option Grave → ℕ → ℕ → Slot → Slot
revived None t generation slot = slot
revived (Some g) t generation slot = unburied slot generation (restored_state t g.state)

-- what a decision at t comes to: the refusal, or the bucket that is alive again
abbrev pub decided_restore : Result BucketRow Reason → ℕ → ℕ → Slot → Answer × Slot
decided_restore (Err reason) t generation slot = (Refused reason, slot)
decided_restore (Ok shown) t generation slot = (Bucket shown, revived (grave_found generation slot.graves) t generation slot)
