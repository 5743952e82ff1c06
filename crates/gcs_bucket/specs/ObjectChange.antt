-- The change of a version: what was decided and prepared before ageing.
use Rattle.std.specs.Prelude.{◌≡◌, ◌≤◌, ◌^◌, ℕ, List, [], ◌∷◌, Some, Result, Ok, Err}
use Rattle.std.specs.List.{find}
use Rattle.std.specs.Option.{IfSome}
use Rattle.gcs_meaning.specs.declared.settings.Meta.{Meta}
use Rattle.gcs_meaning.specs.declared.settings.Settings.{Settings}
use Rattle.gcs_meaning.specs.declared.version.Row.{Row}
use Rattle.gcs_meaning.specs.declared.reason.Reason.{Reason}
use Rattle.gcs_meaning.specs.declared.command.Answer.{Answer}
use Rattle.gcs_meaning.specs.declared.command.Answer.TheVariants.{Refused, Object}
use Rattle.gcs_meaning.specs.Retiring.{change_first}
use Rattle.gcs_meaning.specs.Slot.{State, Slot}
use Rattle.gcs_versions.specs.Rows.{changed_version, is_version}
use Rattle.gcs_bucket.specs.Alive.{on_bucket}
use Rattle.gcs_bucket.specs.declared.object_change.Changed.{Changed}

-- the row with its metadata, and the settings to be shown
pub record MakesChange (made : Changed) (settings : Settings) (row : Row) : Type 0 where
  pub shown_is : made.shown ≡ row
  pub meta_is : made.meta ≡ row.meta
  pub settings_is : made.settings ≡ settings

-- the version of the generation that is shown is there, and with these metadata since t it is as it is shown
pub record IsInPlace (meta : Meta) (shown : Row) (name : List ℕ) (t : ℕ) (rows : List Row) : Type 0 where
  pub row : Row
  pub found : find (is_version name shown.generation) rows ≡ Some row
  pub shown_is : shown ≡ changed_version meta shown.retention_start t row
  pub few : row.metageneration ≤ 2 ^ 62

-- it is there in the bucket that is alive
abbrev pub AreInPlace : Changed → List ℕ → ℕ → Slot → Type 0
AreInPlace made name t slot = IfSome slot.alive (λ s. IsInPlace made.meta made.shown name t s.rows)

-- the bucket with this version in the place of that of its generation
abbrev pub with_changed : State → List ℕ → Row → State
with_changed s name row = record s { rows = change_first (is_version name row.generation) (λ had. row ∷ []) s.rows }

-- what a decision comes to: the refusal, or the version in its place
abbrev pub decided_change : Result Changed Reason → List ℕ → Slot → Answer × Slot
decided_change (Err reason) name slot = (Refused reason, slot)
decided_change (Ok made) name slot = (Object made.shown made.settings, on_bucket (λ s. with_changed s name made.shown) slot)
