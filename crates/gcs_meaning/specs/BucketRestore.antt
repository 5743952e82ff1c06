-- The restore of a deleted bucket (Cloud Storage JSON API, "Buckets: restore").
use Rattle.std.specs.Prelude.{ℕ, ◌+◌, ◌==◌, Bool, List, [], Option, Some, None}
use Rattle.std.specs.List.{find}
use Rattle.gcs_meaning.specs.declared.reason.Reason.TheVariants.{NoGrave}
use Rattle.gcs_meaning.specs.declared.command.Answer.{Answer}
use Rattle.gcs_meaning.specs.declared.command.Answer.TheVariants.{Refused, Bucket}
use Rattle.gcs_meaning.specs.Slot.{State, Grave, Slot, bucket_row}
use Rattle.gcs_meaning.specs.Insertion.{exists_refusal}
use Rattle.gcs_meaning.specs.Outcomes.{unless}
use Rattle.gcs_meaning.specs.Retiring.{change_first}

-- the deleted bucket has this generation
abbrev pub is_grave_of : ℕ → Grave → Bool
is_grave_of generation g = g.state.generation == generation

-- the deleted bucket of a generation
abbrev pub grave_found : ℕ → List Grave → Option Grave
grave_found generation graves = find (is_grave_of generation) graves

-- the deleted buckets without that of a generation
abbrev pub without_grave : ℕ → List Grave → List Grave
without_grave generation graves = change_first (is_grave_of generation) (λ g. []) graves

-- on the deleted bucket, where one was found
abbrev pub on_grave : Option Grave → Slot → (Grave → Answer × Slot) → Answer × Slot
on_grave None slot does = (Refused NoGrave, slot)
on_grave (Some g) slot does = does g

-- a bucket that is alive again since t
abbrev pub restored_state : ℕ → State → State
restored_state t s = record s { metageneration = s.metageneration + 1; updated = t }

-- the slot whose deleted bucket of a generation is alive again
abbrev pub unburied : Slot → ℕ → State → Slot
unburied slot generation s = record slot { alive = Some s; graves = without_grave generation slot.graves }

-- the restore of a bucket, on a slot that is aged to t
unfoldable pub bucket_restore_step : Slot → ℕ → List ℕ → ℕ → Answer × Slot
bucket_restore_step slot t name generation = on_grave (grave_found generation slot.graves) slot (λ g.
    let after = restored_state t g.state in
    unless (exists_refusal slot.alive) slot (Bucket (bucket_row name after), unburied slot generation after))
