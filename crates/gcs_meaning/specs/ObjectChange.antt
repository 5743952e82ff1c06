-- The change of a version's metadata (Cloud Storage JSON API, "Objects: patch" and "Objects: update").
use Rattle.std.specs.Prelude.{ℕ, ◌+◌, min, nat_lt, nat_le, Bool, false, not, ◌&&◌, List, [], ◌∷◌, Option, Some, None, if◌then◌else◌, codes}
use Rattle.gcs_meaning.specs.declared.changes.MetaChange.{MetaChange}
use Rattle.gcs_meaning.specs.declared.settings.Pre.{Pre}
use Rattle.gcs_meaning.specs.declared.settings.Meta.{Meta}
use Rattle.gcs_meaning.specs.declared.version.Row.{Row}
use Rattle.gcs_meaning.specs.declared.reason.Reason.{Reason}
use Rattle.gcs_meaning.specs.declared.reason.Reason.TheVariants.{TimeBack, MetadataTooLong}
use Rattle.gcs_meaning.specs.declared.command.Answer.{Answer}
use Rattle.gcs_meaning.specs.declared.command.Answer.TheVariants.{Object}
use Rattle.gcs_meaning.specs.Pairs.{pairs_size, most_shown}
use Rattle.gcs_meaning.specs.Changes.{changed, changed_option, changed_pairs}
use Rattle.gcs_meaning.specs.Slot.{State, Slot, with_alive}
use Rattle.gcs_meaning.specs.Tests.{or_else}
use Rattle.gcs_meaning.specs.Policy.{pre_refusal}
use Rattle.gcs_meaning.specs.Choosing.{is_chosen, chosen_row}
use Rattle.gcs_meaning.specs.Outcomes.{on_alive, on_found, unless}
use Rattle.gcs_meaning.specs.Retiring.{change_first, has_event_hold}

-- the content type of an object that names none
abbrev pub default_content_type : List ℕ
default_content_type = codes "application/octet-stream"

-- what a change leaves of a version's metadata. The storage class isn't changed
unfoldable pub changed_meta : Bool → MetaChange → Meta → Meta
changed_meta whole change meta = record meta {
  content_type = changed whole default_content_type meta.content_type change.content_type;
  cache_control = changed_option whole meta.cache_control change.cache_control;
  content_disposition = changed_option whole meta.content_disposition change.content_disposition;
  content_encoding = changed_option whole meta.content_encoding change.content_encoding;
  content_language = changed_option whole meta.content_language change.content_language;
  custom_time = changed_option whole meta.custom_time change.custom_time;
  temporary_hold = changed whole false meta.temporary_hold change.temporary_hold;
  event_hold = Some (changed whole false (has_event_hold meta) change.event_hold);
  custom = changed_pairs whole meta.custom change.custom;
}

-- a custom time is neither removed, which shows as 0, nor made earlier
abbrev pub time_refusal : Option ℕ → Option ℕ → Option Reason
time_refusal None asked = None
time_refusal (Some had) None = Some (TimeBack had 0)
time_refusal (Some had) (Some asked) = if nat_lt asked had then Some (TimeBack had asked) else None

-- the most bytes of custom metadata (Cloud Storage, "Quotas and limits": 8 KiB)
abbrev pub largest_custom : ℕ
largest_custom = 8192

-- custom metadata of so many bytes is more than a version may have
abbrev pub custom_refusal : ℕ → Option Reason
custom_refusal size = if nat_le size largest_custom then None else Some (MetadataTooLong (min size most_shown))

-- the first test of a change that fails, on the chosen version and the metadata that it would have
unfoldable pub change_refusal : Pre → Row → Meta → Option Reason
change_refusal pre row meta =
    or_else (pre_refusal pre row.generation row.metageneration)
    (or_else (time_refusal row.meta.custom_time meta.custom_time)
    (custom_refusal (pairs_size meta.custom)))

-- the metadata releases the event-based hold that a version has
abbrev pub is_released : Meta → Meta → Bool
is_released had meta = has_event_hold had && not (has_event_hold meta)

-- a version with other metadata since t: where its event-based hold is released its retention begins anew
abbrev pub changed_row : ℕ → Meta → Row → Row
changed_row t meta row = record row {
  metageneration = row.metageneration + 1;
  meta = meta;
  updated = t;
  retention_start = if is_released row.meta meta then t else row.retention_start;
}

-- the bucket once the chosen version is this one
unfoldable pub change_state : State → List ℕ → Option ℕ → Row → State
change_state state name generation row =
    record state { rows = change_first (is_chosen name generation) (λ had. row ∷ []) state.rows }

-- the change of a version, on a slot that is aged to t
unfoldable pub change_step : Slot → ℕ → List ℕ → Option ℕ → Pre → MetaChange → Bool → Answer × Slot
change_step slot t name generation pre change whole = on_alive slot.alive slot (λ s. on_found (chosen_row name generation s.rows) slot (λ row.
    let meta = changed_meta whole change row.meta in
    let after = changed_row t meta row in
    unless (change_refusal pre row meta) slot (Object after s.settings, with_alive (change_state s name generation after) slot)))
