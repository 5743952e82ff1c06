-- Where the next unit of a listing is sought, and what a seek passes over.
use Rattle.std.specs.Prelude.{◌≡◌, ◌≤◌, ◌+◌, ℕ, suc, Bool, true, false, not, ◌&&◌, List, [], ◌∷◌, Option, is_some, length}
use Rattle.std.specs.List.{filter, find, AllByRecursion}
use Rattle.gcs_index.specs.Looks.{AreLooks}
use Rattle.gcs_meaning.specs.declared.listing.PageQuery.{PageQuery}
use Rattle.gcs_meaning.specs.declared.listing.Unit as unit
use Rattle.gcs_meaning.specs.declared.listing.View.{View}
use Rattle.gcs_meaning.specs.declared.version.Row.{Row}
use Rattle.gcs_meaning.specs.Aging.{aged_rows, kind_stays}
use Rattle.gcs_meaning.specs.Order.{is_below, comes_before, place_of, is_at_least, shown_rows, IsNumbered}
use Rattle.gcs_meaning.specs.Listing.{item_of, is_from, keeps, units_of, is_after, units}

-- the versions that a view shows at the moment
unfoldable pub listed_rows : View → ℕ → List Row → List Row
listed_rows view moment rows = shown_rows view (aged_rows moment rows)

-- the version is gone at the moment
abbrev pub is_gone : ℕ → Row → Bool
is_gone moment row = not (kind_stays moment row.kind)

-- how many versions of the view are gone at the moment, though they are still kept
unfoldable pub gone_count : View → ℕ → List Row → ℕ
gone_count view moment rows = length (filter (is_gone moment) (shown_rows view rows))

-- how many of these come before the bound
unfoldable pub passed_count : View → ℕ → List Row → unit.Unit → ℕ
passed_count view moment rows bound = length (filter (λ row. is_gone moment row && comes_before (place_of row) bound) (shown_rows view rows))

-- the looks of a call at so many rows: how many were counted before it and until its end, and how many versions that are gone come
-- before the place where it began and before the one where it ended
pub record Looks : Type 0 where
  pub rows : ℕ
  pub before : ℕ
  pub after : ℕ
  pub gone_at_start : ℕ
  pub gone_at_end : ℕ

-- those of at most so many searches, and of one more for each version that is gone and was passed over
pub record AreOfSearches (most : ℕ) (looks : Looks) : Type 0 where
  pub searches : ℕ
  pub few : searches + looks.gone_at_start ≤ most + looks.gone_at_end
  pub each : AreLooks searches looks.rows looks.before looks.after

-- the least text above every text that begins with p, where p isn't empty
abbrev pub past : List ℕ → List ℕ
past [] = []
past (a ∷ []) = suc a ∷ []
past (a ∷ (b ∷ p)) = a ∷ past (b ∷ p)

-- the rows rise strictly by what f reads of them
abbrev pub RisesBy : (Row → unit.Unit) → List Row → Type 0
RisesBy f [] = Unit {0}
RisesBy f (row ∷ rows) = AllByRecursion (λ x. comes_before (f row) (f x) ≡ true) rows × RisesBy f rows

-- a view's rows: in order, also by their items, each with a generation
pub record IsView (view : View) (rows : List Row) : Type 0 where
  pub places : RisesBy place_of rows
  pub items : RisesBy (item_of view) rows
  pub numbers : AllByRecursion IsNumbered rows

-- a row that the listing keeps has a unit after this one
abbrev pub is_news : PageQuery → Option unit.Unit → Row → Bool
is_news q cur row = keeps q row && is_some (find (is_after cur) (units_of q row))

-- the units after one, of all
abbrev pub units_after : PageQuery → List Row → Option unit.Unit → List unit.Unit
units_after q rows cur = filter (is_after cur) (units q rows)

-- the least name that the prefix and the start allow
pub record IsLow (q : PageQuery) (low : List ℕ) : Type 0 where
  pub prefix : is_below low q.prefix ≡ false
  pub start : is_from q.start low ≡ true
  pub least : (x : List ℕ) → is_below x q.prefix ≡ false → is_from q.start x ≡ true → is_below x low ≡ false

-- a bound from which the rows are those whose item comes after a unit
pub record IsAfterBound (view : View) (last b : unit.Unit) : Type 0 where
  pub due : (row : Row) → IsNumbered row → comes_before last (item_of view row) ≡ true → is_at_least b row ≡ true
  pub after : (row : Row) → is_at_least b row ≡ true → comes_before last (item_of view row) ≡ true

-- a bound from which to seek: all rows with a unit after `cur` are from it on, and those from it on aren't before the prefix, the
-- start or `cur`
pub record IsBound (q : PageQuery) (cur : Option unit.Unit) (b : unit.Unit) : Type 0 where
  pub due : (row : Row) → IsNumbered row → is_news q cur row ≡ true → is_at_least b row ≡ true
  pub from_prefix : (row : Row) → is_at_least b row ≡ true → is_below row.name q.prefix ≡ false
  pub from_start : (row : Row) → is_at_least b row ≡ true → is_from q.start row.name ≡ true
  pub after : (row : Row) → is_at_least b row ≡ true → is_after cur (item_of q.view row) ≡ true

-- the same of these rows alone
pub record IsBoundAmong (q : PageQuery) (rows : List Row) (cur : Option unit.Unit) (b : unit.Unit) : Type 0 where
  pub due : AllByRecursion (λ row. is_news q cur row ≡ true → is_at_least b row ≡ true) rows
  pub from_prefix : (row : Row) → is_at_least b row ≡ true → is_below row.name q.prefix ≡ false
  pub from_start : (row : Row) → is_at_least b row ≡ true → is_from q.start row.name ≡ true
  pub after : (row : Row) → IsNumbered row → is_at_least b row ≡ true → is_after cur (item_of q.view row) ≡ true
