-- What a page has once its units are taken.
use Rattle.std.specs.Prelude.{◌≡◌, ℕ, Bool, true, false, List, [], ◌∷◌, Option, None, Some}
use Rattle.gcs_meaning.specs.declared.listing.PageQuery.{PageQuery}
use Rattle.gcs_meaning.specs.declared.listing.Unit as unit
use Rattle.gcs_meaning.specs.declared.version.Row.{Row}
use Rattle.gcs_meaning.specs.Listing.{items_of, page_next, page_units, prefixes_of}
use Rattle.gcs_listing.specs.declared.paging.Taken.{Taken}
use Rattle.gcs_listing.specs.Seeking.{units_after}

abbrev pub option_list : {X : Type 0} → Option X → List X
option_list None = []
option_list (Some x) = x ∷ []

-- the text of a unit that shows no version
abbrev pub texts_of : unit.Unit → Option Row → List (List ℕ)
texts_of u None = u.text ∷ []
texts_of u (Some row) = []

-- what was taken is what the page's units show, and `next` the unit after which the next page begins
pub record IsPaged (q : PageQuery) (rows : List Row) (taken : Taken) (next : Option unit.Unit) : Type 0 where
  pub items : taken.items ≡ items_of q.view rows (page_units q rows)
  pub prefixes : taken.prefixes ≡ prefixes_of (page_units q rows)
  pub next_is : next ≡ page_next q rows

-- whether a unit is left after one
abbrev pub IsMore : PageQuery → List Row → Option unit.Unit → Bool → Type 0
IsMore q rows cur false = units_after q rows cur ≡ []
IsMore q rows cur true = (u : unit.Unit) × (units_after q rows cur ≡ u ∷ units_after q rows (Some u))
