-- The restore of a soft-deleted version: what was decided before ageing.
use Rattle.std.specs.Prelude.{ℕ, List, Result, Ok, Err}
use Rattle.gcs_meaning.specs.declared.settings.Pre.{Pre}
use Rattle.gcs_meaning.specs.declared.reason.Reason.{Reason}
use Rattle.gcs_meaning.specs.declared.command.Answer.{Answer}
use Rattle.gcs_meaning.specs.declared.command.Answer.TheVariants.{Refused}
use Rattle.gcs_meaning.specs.Put.{no_expect, put_step}
use Rattle.gcs_meaning.specs.Slot.{Slot}
use Rattle.gcs_bucket.specs.declared.restore.Source.{Source}

-- what a decision at t comes to: the refusal, or the put of the source
abbrev pub decided_source : Result Source Reason → ℕ → List ℕ → Pre → Slot → Answer × Slot
decided_source (Err reason) t name pre slot = (Refused reason, slot)
decided_source (Ok source) t name pre slot = put_step slot t name pre source.meta source.hashed source.components no_expect
