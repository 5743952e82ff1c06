-- The order of versions and of the units of a listing: by text in byte order, then by number.
use Rattle.std.specs.Prelude.{◌≡◌, ◌≤◌, ◌<◌, ◌^◌, ℕ, Bool, true, not, List, [], ◌∷◌, None}
use Rattle.std.specs.List.{filter, AllByRecursion}
use Rattle.std.specs.Ordering.{nat_cmp, is_lt, ordering_then}
use Rattle.std.specs.declared.cmp.Ordering.{Ordering}
use Rattle.std.specs.Cmp.Lexicographic.{slice_cmp}
use Rattle.gcs_meaning.specs.declared.listing.Unit as unit
use Rattle.gcs_meaning.specs.declared.listing.View.{View}
use Rattle.gcs_meaning.specs.declared.listing.View.TheVariants.{Live, Versions, Soft}
use Rattle.gcs_meaning.specs.declared.version.Kind.{Kind}
use Rattle.gcs_meaning.specs.declared.version.Row.{Row}
use Rattle.gcs_meaning.specs.Choosing.{is_live, is_readable, live_row}

-- the text p is below the text x in byte order
abbrev pub is_below : List ℕ → List ℕ → Bool
is_below p x = is_lt (slice_cmp nat_cmp p x)

-- units by text, then by number
abbrev pub unit_cmp : unit.Unit → unit.Unit → Ordering
unit_cmp a b = ordering_then (slice_cmp nat_cmp a.text b.text) (nat_cmp a.number b.number)

-- the first unit comes before the second
abbrev pub comes_before : unit.Unit → unit.Unit → Bool
comes_before a b = is_lt (unit_cmp a b)

-- the unit of this text and number
abbrev pub unit_at : List ℕ → ℕ → unit.Unit
unit_at text number = record { text = text; number = number }

-- the place of a version: its name, then its generation
abbrev pub place_of : Row → unit.Unit
place_of row = unit_at row.name row.generation

-- the version's name and generation are at least these
abbrev pub is_at_least : unit.Unit → Row → Bool
is_at_least bound row = not (comes_before (place_of row) bound)

-- the versions rise strictly by name and generation
abbrev pub Rise : List Row → Type 0
Rise [] = Unit {0}
Rise (row ∷ rows) = AllByRecursion (λ later. comes_before (place_of row) (place_of later) ≡ true) rows × Rise rows

-- a name has at most one live version
abbrev pub AreSingle : List Row → Type 0
AreSingle [] = Unit {0}
AreSingle (row ∷ rows) = (is_live row.kind ≡ true → live_row row.name rows ≡ None) × AreSingle rows

-- the version has a generation
abbrev pub IsNumbered : Row → Type 0
IsNumbered row = (1 ≤ row.generation) × (row.generation < 2 ^ 64)

-- the versions of a bucket, as they are kept
pub record AreVersions (rows : List Row) : Type 0 where
  pub rise : Rise rows
  pub single : AreSingle rows
  pub numbered : AllByRecursion IsNumbered rows

-- a view shows versions of this kind
abbrev pub is_shown : View → Kind → Bool
is_shown Live kind = is_live kind
is_shown Versions kind = is_readable kind
is_shown Soft kind = not (is_readable kind)

-- the versions that a view shows
abbrev pub shown_rows : View → List Row → List Row
shown_rows view rows = filter (λ row. is_shown view row.kind) rows
