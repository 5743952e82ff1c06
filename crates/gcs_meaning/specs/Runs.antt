-- Entries on one slot, one after the other.
use Rattle.std.specs.Prelude.{◌<◌, ℕ, List, [], ◌∷◌}
use Rattle.gcs_meaning.specs.declared.command.Entry.{Entry}
use Rattle.gcs_meaning.specs.Moment.{effective_moment}
use Rattle.gcs_meaning.specs.Slot.{Slot}
use Rattle.gcs_meaning.specs.Step.{step}

-- the slot after these entries
abbrev pub slot_after : Slot → List Entry → Slot
slot_after slot [] = slot
slot_after slot (e ∷ es) = slot_after (step slot e.moment e.command).1 es

-- the moments of their steps are before the end
abbrev pub AreBefore : ℕ → Slot → List Entry → Type 0
AreBefore end slot [] = Unit {0}
AreBefore end slot (e ∷ es) = (effective_moment slot.last_moment e.moment < end) × AreBefore end (step slot e.moment e.command).1 es
