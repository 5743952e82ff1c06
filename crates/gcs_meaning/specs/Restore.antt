-- A soft-deleted version that is put again as a new one (Cloud Storage JSON API, "Objects: restore").
use Rattle.std.specs.Prelude.{ℕ, true, false, List, Some, None}
use Rattle.gcs_meaning.specs.declared.settings.Pre.{Pre}
use Rattle.gcs_meaning.specs.declared.settings.Meta.{Meta}
use Rattle.gcs_meaning.specs.declared.command.Answer.{Answer}
use Rattle.gcs_meaning.specs.Choosing.{asked_row}
use Rattle.gcs_meaning.specs.Slot.{Slot}
use Rattle.gcs_meaning.specs.Outcomes.{on_alive, on_found}
use Rattle.gcs_meaning.specs.Put.{no_expect, put_on}

-- the metadata of a version that is restored: it has no holds of its own, so that the bucket's default holds
abbrev pub restored_meta : Meta → Meta
restored_meta meta = record meta { temporary_hold = false; event_hold = None }

-- the restore of a version, on a slot that is aged to t. The soft-deleted one stays
unfoldable pub restore_step : Slot → ℕ → List ℕ → ℕ → Pre → Answer × Slot
restore_step slot t name generation pre = on_alive slot.alive slot (λ s. on_found (asked_row true name (Some generation) s.rows) slot (λ row.
    put_on s slot t name pre (restored_meta row.meta) row.hashed row.components no_expect))
