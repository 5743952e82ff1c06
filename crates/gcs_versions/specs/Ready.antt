-- What stands ready for a change of a bucket's versions.
use Rattle.std.specs.Prelude.{◌≡◌, ◌≤◌, ℕ, List, Option}
use Rattle.std.specs.Arc.{arc_value}
use Rattle.std.specs.Option.{option_map}
use Rattle.slab.specs.Slab.{Slab, HasRoomFor}
use Rattle.gcs_index.specs.Entries.{Shelf}
use Rattle.gcs_meaning.specs.declared.listing.Unit as unit
use Rattle.gcs_meaning.specs.declared.version.Row.{Row}
use Rattle.gcs_versions.specs.declared.keys.DueKey.{DueKey}
use Rattle.gcs_versions.specs.declared.preparing.ForPut.{ForPut}
use Rattle.gcs_versions.specs.declared.preparing.ForRetirement.{ForRetirement}

-- it is for a put of this name
pub record IsForPut (name : List ℕ) (names : ForPut) : Type 0 where
  pub all : arc_value names.all ≡ name
  pub readable : arc_value names.readable ≡ name
  pub live : arc_value names.live ≡ name

-- it is for a retirement of this name
pub record IsForRetirement (name : List ℕ) (names : ForRetirement) : Type 0 where
  pub soft : arc_value names.soft ≡ name
  pub due : arc_value names.due ≡ name

-- a slot and an entry in each of the three indexes of a live version
pub record HavePutRoom (slots : Slab Row) (all readable live : Shelf unit.Unit ℕ) : Type 0 where
  pub free_slot : HasRoomFor slots 1
  pub in_all : 1 ≤ all.spare
  pub in_readable : 1 ≤ readable.spare
  pub in_live : 1 ≤ live.spare

-- an entry in each of the two indexes that a soft-deleted version is put into
pub record HaveRetirementRoom (soft : Shelf unit.Unit ℕ) (due : Shelf DueKey ℕ) : Type 0 where
  pub in_soft : 1 ≤ soft.spare
  pub in_due : 1 ≤ due.spare

-- the name of which a put is prepared
abbrev pub put_name : Option ForPut → Option (List ℕ)
put_name names = option_map (λ n. arc_value n.all) names

-- the name of which a retirement is prepared
abbrev pub retirement_name : Option ForRetirement → Option (List ℕ)
retirement_name names = option_map (λ n. arc_value n.due) names
