-- The deletion of a version (Cloud Storage JSON API, "Objects: delete").
use Rattle.std.specs.Prelude.{ℕ, Bool, is_some, List, Option}
use Rattle.gcs_meaning.specs.declared.settings.Pre.{Pre}
use Rattle.gcs_meaning.specs.declared.settings.Settings.{Settings}
use Rattle.gcs_meaning.specs.declared.version.Row.{Row}
use Rattle.gcs_meaning.specs.declared.reason.Reason.{Reason}
use Rattle.gcs_meaning.specs.declared.command.Answer.{Answer}
use Rattle.gcs_meaning.specs.declared.command.Answer.TheVariants.{Empty}
use Rattle.gcs_meaning.specs.Slot.{State, Slot, with_alive}
use Rattle.gcs_meaning.specs.Tests.{or_else}
use Rattle.gcs_meaning.specs.Policy.{pre_refusal, retired_to}
use Rattle.gcs_meaning.specs.Choosing.{chosen_row}
use Rattle.gcs_meaning.specs.Outcomes.{on_alive, on_found, unless}
use Rattle.gcs_meaning.specs.Retiring.{retired_rows, taken_refusal}

-- the first test of a deletion that fails, on the chosen version
unfoldable pub delete_refusal : Settings → ℕ → Bool → Pre → Row → Option Reason
delete_refusal settings t named pre row =
    or_else (pre_refusal pre row.generation row.metageneration) (taken_refusal settings t named row)

-- the bucket once the chosen version is retired
unfoldable pub delete_state : State → ℕ → List ℕ → Option ℕ → State
delete_state state t name generation =
    record state { rows = retired_rows (retired_to state.settings t (is_some generation)) t name generation state.rows }

-- the deletion of a version, on a slot that is aged to t
unfoldable pub delete_step : Slot → ℕ → List ℕ → Option ℕ → Pre → Answer × Slot
delete_step slot t name generation pre = on_alive slot.alive slot (λ s. on_found (chosen_row name generation s.rows) slot (λ row.
    unless (delete_refusal s.settings t (is_some generation) pre row) slot (Empty, with_alive (delete_state s t name generation) slot)))
