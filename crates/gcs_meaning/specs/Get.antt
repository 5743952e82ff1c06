-- The read of a version (Cloud Storage JSON API, "Objects: get").
use Rattle.std.specs.Prelude.{ℕ, Bool, List, Option}
use Rattle.gcs_meaning.specs.declared.settings.Pre.{Pre}
use Rattle.gcs_meaning.specs.declared.command.Answer.{Answer}
use Rattle.gcs_meaning.specs.declared.command.Answer.TheVariants.{Object}
use Rattle.gcs_meaning.specs.Slot.{Slot}
use Rattle.gcs_meaning.specs.Policy.{pre_refusal}
use Rattle.gcs_meaning.specs.Choosing.{asked_row}
use Rattle.gcs_meaning.specs.Outcomes.{on_alive, on_found, unless}

-- the read of a version, on an aged slot
unfoldable pub get_step : Slot → List ℕ → Option ℕ → Bool → Pre → Answer × Slot
get_step slot name generation soft pre = on_alive slot.alive slot (λ s. on_found (asked_row soft name generation s.rows) slot (λ row.
    unless (pre_refusal pre row.generation row.metageneration) slot (Object row s.settings, slot)))
