-- What a bucket's versions are seen as: the rows, and what is prepared.
use Rattle.std.specs.Prelude.{◌≡◌, ℕ, List, Option, Some}
use Rattle.std.specs.Arc.{arc_value}
use Rattle.std.specs.Option.{IfSome}
use Rattle.slab.specs.Slab.{Slab}
use Rattle.gcs_index.specs.Entries.{Shelf}
use Rattle.gcs_meaning.specs.declared.listing.Unit as unit
use Rattle.gcs_meaning.specs.declared.version.Row.{Row}
use Rattle.gcs_meaning.specs.Order.{AreVersions}
use Rattle.gcs_versions.specs.declared.keys.DueKey.{DueKey}
use Rattle.gcs_versions.specs.declared.preparing.ForPut.{ForPut}
use Rattle.gcs_versions.specs.declared.preparing.ForRetirement.{ForRetirement}
use Rattle.gcs_versions.specs.Indexes.{rows_at, AreIndexes}
use Rattle.gcs_versions.specs.Ready.{HavePutRoom, HaveRetirementRoom, IsForPut, IsForRetirement}

-- the rows, rising by name and generation, and the names of which a put and a retirement are prepared
pub record Kept : Type 0 where
  pub rows : List Row
  pub to_put : Option (List ℕ)
  pub to_retire : Option (List ℕ)

-- a version of the name can be put without taking memory
unfoldable pub IsReadyToPut : List ℕ → Kept → Type 0
IsReadyToPut name kept = kept.to_put ≡ Some name

-- a version of the name can be retired without taking memory
unfoldable pub IsReadyToRetire : List ℕ → Kept → Type 0
IsReadyToRetire name kept = kept.to_retire ≡ Some name

-- what always holds of the slots, the five indexes and what is prepared
pub record IsKept (slots : Slab Row) (all readable live soft : Shelf unit.Unit ℕ) (due : Shelf DueKey ℕ) (to_put : Option ForPut) (to_retire : Option ForRetirement) : Type 0 where
  pub indexes : AreIndexes slots all.entries readable.entries live.entries soft.entries due.entries
  pub versions : AreVersions (rows_at slots all.entries)
  pub put : IfSome to_put (λ names. HavePutRoom slots all readable live × IsForPut (arc_value names.all) names)
  pub retire : IfSome to_retire (λ names. HaveRetirementRoom soft due × IsForRetirement (arc_value names.due) names)
