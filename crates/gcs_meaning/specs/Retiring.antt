-- What keeps a version in its place, and what becomes of it when it is taken away (Cloud Storage, "Object holds", "Bucket Lock",
-- "Object Versioning" and "Soft delete").
use Rattle.std.specs.Prelude.{ℕ, unwrap_or, Bool, false, true, not, ◌&&◌, List, [], ◌∷◌, ◌++◌, Option, Some, None, if◌then◌else◌}
use Rattle.gcs_meaning.specs.declared.settings.Meta.{Meta}
use Rattle.gcs_meaning.specs.declared.settings.Settings.{Settings}
use Rattle.gcs_meaning.specs.declared.version.Kind.TheVariants.{Noncurrent, Soft}
use Rattle.gcs_meaning.specs.declared.version.Row.{Row}
use Rattle.gcs_meaning.specs.declared.version.RowFacts.{RowFacts}
use Rattle.gcs_meaning.specs.declared.policy.Cover.{Cover}
use Rattle.gcs_meaning.specs.declared.policy.Cover.TheVariants.{Free, Temporary, EventBased, Retained as IsRetained, SoftDeleted}
use Rattle.gcs_meaning.specs.declared.policy.Retired.{Retired}
use Rattle.gcs_meaning.specs.declared.policy.Retired.TheVariants.{Noncurrent as ToNoncurrent, Soft as ToSoft, Out}
use Rattle.gcs_meaning.specs.declared.reason.Reason.{Reason}
use Rattle.gcs_meaning.specs.declared.reason.Reason.TheVariants.{Held, Retained}
use Rattle.gcs_meaning.specs.Choosing.{is_chosen}
use Rattle.gcs_meaning.specs.Policy.{cover_of}

-- the metadata has an event-based hold
abbrev pub has_event_hold : Meta → Bool
has_event_hold meta = unwrap_or meta.event_hold false

-- what of a version decides whether it is covered
abbrev pub facts_of : Row → RowFacts
facts_of row = record {
  temporary_hold = row.meta.temporary_hold;
  event_hold = has_event_hold row.meta;
  retention_start = row.retention_start;
  kind = row.kind;
}

-- a version that is covered stays, and the refusal names what covers it
abbrev pub cover_refusal : ℕ → Cover → Option Reason
cover_refusal t Free = None
cover_refusal t Temporary = Some (Held false)
cover_refusal t EventBased = Some (Held true)
cover_refusal t (IsRetained until) = Some (Retained until t)
cover_refusal t (SoftDeleted until) = Some (Retained until t)

-- why a version isn't taken away at t, replaced or deleted, with its generation named or not. In a versioned bucket one whose
-- generation isn't named only becomes noncurrent, so that no cover is asked
unfoldable pub taken_refusal : Settings → ℕ → Bool → Row → Option Reason
taken_refusal settings t named row =
    if settings.versioned && not named then None else cover_refusal t (cover_of settings (facts_of row) t)

-- a row that is retired
abbrev pub retired_row : Retired → ℕ → Row → List Row
retired_row ToNoncurrent t row = record row { kind = Noncurrent t } ∷ []
retired_row (ToSoft hard) t row = record row { kind = Soft t hard } ∷ []
retired_row Out t row = []

-- the list with its first element that passes replaced by what it becomes
abbrev pub change_first : {X : Type 0} → (X → Bool) → (X → List X) → List X → List X
change_first p becomes [] = []
change_first p becomes (x ∷ xs) = if p x then becomes x ++ xs else x ∷ change_first p becomes xs

-- the rows once the chosen one, of which there is at most one, is retired
abbrev pub retired_rows : Retired → ℕ → List ℕ → Option ℕ → List Row → List Row
retired_rows to t name generation rows = change_first (is_chosen name generation) (retired_row to t) rows
