-- The compose of a version: what its sources came to before ageing.
use Rattle.std.specs.Prelude.{ℕ, List, Some, Result, Ok, Err}
use Rattle.gcs_meaning.specs.declared.settings.Meta.{Meta}
use Rattle.gcs_meaning.specs.declared.settings.Pre.{Pre}
use Rattle.gcs_meaning.specs.declared.reason.Reason.{Reason}
use Rattle.gcs_meaning.specs.declared.command.Answer.{Answer}
use Rattle.gcs_meaning.specs.declared.command.Answer.TheVariants.{Refused}
use Rattle.gcs_meaning.specs.Put.{no_expect, put_step}
use Rattle.gcs_meaning.specs.Slot.{Slot}
use Rattle.gcs_compose.specs.declared.composing.Composed.{Composed}

-- what a decision at t comes to: the refusal, or the put of what is joined
abbrev pub decided_compose : Result Composed Reason → ℕ → List ℕ → Pre → Meta → Slot → Answer × Slot
decided_compose (Err reason) t name pre meta slot = (Refused reason, slot)
decided_compose (Ok made) t name pre meta slot = put_step slot t name pre meta made.hashed (Some made.components) no_expect
