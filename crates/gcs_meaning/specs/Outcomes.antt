-- What a command answers and leaves: what it does where its bucket is alive, its version is there and its tests pass, and else a
-- refusal, with the slot as it is.
use Rattle.std.specs.Prelude.{Option, Some, None}
use Rattle.gcs_meaning.specs.declared.version.Row.{Row}
use Rattle.gcs_meaning.specs.declared.reason.Reason.{Reason}
use Rattle.gcs_meaning.specs.declared.reason.Reason.TheVariants.{NoBucket, NoObject}
use Rattle.gcs_meaning.specs.declared.command.Answer.{Answer}
use Rattle.gcs_meaning.specs.declared.command.Answer.TheVariants.{Refused}
use Rattle.gcs_meaning.specs.Slot.{State, Slot}

-- on the bucket, where one is alive
abbrev pub on_alive : Option State → Slot → (State → Answer × Slot) → Answer × Slot
on_alive None slot does = (Refused NoBucket, slot)
on_alive (Some s) slot does = does s

-- on the version, where one was found
abbrev pub on_found : Option Row → Slot → (Row → Answer × Slot) → Answer × Slot
on_found None slot does = (Refused NoObject, slot)
on_found (Some row) slot does = does row

-- unless a test fails
abbrev pub unless : Option Reason → Slot → Answer × Slot → Answer × Slot
unless (Some reason) slot done = (Refused reason, slot)
unless None slot done = done
