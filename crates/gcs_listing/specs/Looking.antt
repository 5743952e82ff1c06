-- What one look at the versions gives of a page.
use Rattle.std.specs.Prelude.{◌≡◌, ℕ, true, false, List, [], ◌∷◌, Option, None, Some, if◌then◌else◌}
use Rattle.std.specs.List.{find}
use Rattle.gcs_meaning.specs.declared.listing.PageQuery.{PageQuery}
use Rattle.gcs_meaning.specs.declared.listing.Unit as unit
use Rattle.gcs_meaning.specs.declared.listing.View.{View}
use Rattle.gcs_meaning.specs.declared.version.Row.{Row}
use Rattle.gcs_meaning.specs.Order.{is_at_least, place_of, unit_at, IsNumbered}
use Rattle.gcs_meaning.specs.Listing.{has_item, is_after, is_prefix, keeps, units_of}
use Rattle.gcs_listing.specs.declared.looking.Found.{Found}
use Rattle.gcs_listing.specs.declared.looking.Look.{Look}
use Rattle.gcs_listing.specs.declared.looking.Look.TheVariants.{End, Next, Past}
use Rattle.gcs_meaning.specs.Texts.{folded}
use Rattle.gcs_listing.specs.Seeking.{gone_count, past, passed_count, units_after, IsBound, IsBoundAmong}

-- a prefix shows no version, and an item the version that has it
abbrev pub IsShownBy : View → List Row → unit.Unit → Option Row → Type 0
IsShownBy view rows u None = is_prefix u ≡ true
IsShownBy view rows u (Some row) = (is_prefix u ≡ false) × (find (has_item view u) rows ≡ Some row)

-- what is made of a version's unit: the version where it is the item, and where to seek what comes after it
pub record IsMadeOf (q : PageQuery) (u : unit.Unit) (row : Row) (found : Found) : Type 0 where
  pub same : found.unit ≡ u
  pub item : found.item ≡ (if is_prefix u then None else Some row)
  pub at_prefix : is_prefix u ≡ true → found.bound ≡ place_of row
  pub at_item : is_prefix u ≡ false → IsBound q (Some u) found.bound

-- the least unit after one, what it shows, and where to seek what comes after it
pub record IsNextUnit (q : PageQuery) (rows : List Row) (cur : Option unit.Unit) (found : Found) : Type 0 where
  pub least : units_after q rows cur ≡ found.unit ∷ units_after q rows (Some found.unit)
  pub shown : IsShownBy q.view rows found.unit found.item
  pub bound : IsBoundAmong q rows (Some found.unit) found.bound

-- nothing is left, or the least unit that is
abbrev pub IsNext : PageQuery → List Row → Option unit.Unit → Option Found → Type 0
IsNext q rows cur None = units_after q rows cur ≡ []
IsNext q rows cur (Some found) = IsNextUnit q rows cur found

-- the rows with a unit after `cur` are from a new bound on, and each that the listing keeps from there on has one
pub record IsPast (q : PageQuery) (rows : List Row) (cur : Option unit.Unit) (b : unit.Unit) : Type 0 where
  pub bound : IsBoundAmong q rows cur b
  pub news : (row : Row) → IsNumbered row → is_at_least b row ≡ true → keeps q row ≡ true → (u : unit.Unit) × (find (is_after cur) (units_of q row) ≡ Some u)

-- what is past a version that gives nothing more: all that is folded as it is
abbrev pub IsPastFold : PageQuery → Row → Look → Type 0
IsPastFold q row End = folded q.prefix q.delimiter row.name ≡ None
IsPastFold q row (Next found) = ⊥
IsPastFold q row (Past b) = (p : List ℕ) × (folded q.prefix q.delimiter row.name ≡ Some p) × (b ≡ unit_at (past p) 0)

-- what a look gives at a version that the listing keeps
abbrev pub IsLookedAt : PageQuery → Option unit.Unit → Row → Look → Type 0
IsLookedAt q cur row (Next found) = (u : unit.Unit) × (find (is_after cur) (units_of q row) ≡ Some u) × IsMadeOf q u row found
IsLookedAt q cur row look = (find (is_after cur) (units_of q row) ≡ None) × IsPastFold q row look

-- what a look gives whose first row from the bound on is this one
abbrev pub IsLooked : PageQuery → List Row → Option unit.Unit → unit.Unit → Look → Type 0
IsLooked q rows cur b End = units_after q rows cur ≡ []
IsLooked q rows cur b (Next found) = IsNextUnit q rows cur found
IsLooked q rows cur b (Past beyond) =
    IsPast q rows cur beyond × ((row : Row) × (IsNumbered row) × (is_at_least b row ≡ true) × (keeps q row ≡ true) × (find (is_after cur) (units_of q row) ≡ None))

-- how many versions that are gone come before what was found
abbrev pub passed_by : View → ℕ → List Row → Option Found → ℕ
passed_by view moment rows None = gone_count view moment rows
passed_by view moment rows (Some found) = passed_count view moment rows found.bound

abbrev pub passed_at : View → ℕ → List Row → Option Row → ℕ
passed_at view moment rows None = gone_count view moment rows
passed_at view moment rows (Some row) = passed_count view moment rows (place_of row)

abbrev pub passed_in : View → ℕ → List Row → Look → ℕ
passed_in view moment rows End = gone_count view moment rows
passed_in view moment rows (Next found) = passed_count view moment rows found.bound
passed_in view moment rows (Past beyond) = passed_count view moment rows beyond
