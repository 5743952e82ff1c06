-- A page of a listing: units in order, folded at a delimiter (Cloud Storage JSON API, "Objects: list").
use Rattle.std.specs.Prelude.{ℕ, ◌-◌, ◌==◌, nat_lt, Bool, true, not, ◌&&◌, List, [], ◌∷◌, length, map, take, slice_get, Option, Some, None, if◌then◌else◌}
use Rattle.std.specs.List.{filter, filter_map, find, flat_map}
use Rattle.std.specs.Str.{bytes_eq}
use Rattle.gcs_meaning.specs.declared.listing.Page.{Page}
use Rattle.gcs_meaning.specs.declared.listing.PageQuery.{PageQuery}
use Rattle.gcs_meaning.specs.declared.listing.Unit as unit
use Rattle.gcs_meaning.specs.declared.listing.View.{View}
use Rattle.gcs_meaning.specs.declared.listing.View.TheVariants.{Live, Versions, Soft}
use Rattle.gcs_meaning.specs.declared.settings.Settings.{Settings}
use Rattle.gcs_meaning.specs.declared.version.Row.{Row}
use Rattle.gcs_meaning.specs.declared.command.Answer.{Answer}
use Rattle.gcs_meaning.specs.declared.command.Answer.TheVariants.{Page as Paged}
use Rattle.gcs_meaning.specs.Order.{is_below, comes_before, unit_at, shown_rows}
use Rattle.gcs_meaning.specs.Slot.{Slot}
use Rattle.gcs_meaning.specs.Outcomes.{on_alive}
use Rattle.gcs_meaning.specs.Texts.{begins, folded}

-- the number of a version's item
abbrev pub number_of : View → Row → ℕ
number_of Live row = 1
number_of Versions row = row.generation
number_of Soft row = row.generation

-- the item of a version
abbrev pub item_of : View → Row → unit.Unit
item_of view row = unit_at row.name (number_of view row)

-- the unit of a common prefix
abbrev pub prefix_unit : List ℕ → unit.Unit
prefix_unit p = unit_at p 0

-- the name is at least the start, where there is one
abbrev pub is_from : Option (List ℕ) → List ℕ → Bool
is_from None name = true
is_from (Some start) name = not (is_below name start)

-- the name is below the end, where there is one
abbrev pub is_under : Option (List ℕ) → List ℕ → Bool
is_under None name = true
is_under (Some end) name = is_below name end

-- the version's name begins with the prefix and lies between the offsets
abbrev pub keeps : PageQuery → Row → Bool
keeps q row = begins q.prefix row.name && (is_from q.start row.name && is_under q.end row.name)

-- the units of a version that is folded at this prefix, if at one: where the prefix is its whole name it is an item too, if that is asked for
abbrev pub units_from : PageQuery → Row → Option (List ℕ) → List unit.Unit
units_from q row None = item_of q.view row ∷ []
units_from q row (Some p) = prefix_unit p ∷ (if q.trailing && bytes_eq row.name p then item_of q.view row ∷ [] else [])

-- the units of a version: its item, or where it is folded its prefix
abbrev pub units_of : PageQuery → Row → List unit.Unit
units_of q row = units_from q row (folded q.prefix q.delimiter row.name)

-- a unit put in its place, unless it is there
abbrev pub placed : unit.Unit → List unit.Unit → List unit.Unit
placed u [] = u ∷ []
placed u (v ∷ vs) = if comes_before u v then u ∷ v ∷ vs else if comes_before v u then v ∷ placed u vs else v ∷ vs

-- units in order, each once
abbrev pub ordered : List unit.Unit → List unit.Unit
ordered [] = []
ordered (u ∷ us) = placed u (ordered us)

-- the unit is greater than the one of the token, where there is a token
abbrev pub is_after : Option unit.Unit → unit.Unit → Bool
is_after None u = true
is_after (Some a) u = comes_before a u

-- all units, in order
abbrev pub units : PageQuery → List Row → List unit.Unit
units q rows = ordered (flat_map (units_of q) (filter (keeps q) rows))

-- the units from which a page is taken
unfoldable pub units_left : PageQuery → List Row → List unit.Unit
units_left q rows = filter (is_after q.after) (units q rows)

-- the units of a page
unfoldable pub page_units : PageQuery → List Row → List unit.Unit
page_units q rows = take q.most (units_left q rows)

-- the unit after which the next page begins: the last of this one, where more are left
unfoldable pub page_next : PageQuery → List Row → Option unit.Unit
page_next q rows = if nat_lt q.most (length (units_left q rows)) then slice_get (page_units q rows) (q.most - 1) else None

-- the unit is a common prefix, and no item
abbrev pub is_prefix : unit.Unit → Bool
is_prefix u = u.number == 0

-- the unit is the version's item
abbrev pub has_item : View → unit.Unit → Row → Bool
has_item view u row = bytes_eq row.name u.text && (number_of view row == u.number)

-- the versions of the items among these units, in the units' order
abbrev pub items_of : View → List Row → List unit.Unit → List Row
items_of view rows us = filter_map (λ u. find (has_item view u) rows) (filter (λ u. not (is_prefix u)) us)

-- the texts of the prefixes among these units, in the units' order
abbrev pub prefixes_of : List unit.Unit → List (List ℕ)
prefixes_of us = map (λ u. u.text) (filter is_prefix us)

-- a page of the versions that the view shows
abbrev pub shown_page : Settings → PageQuery → List Row → Page
shown_page settings q shown = record { items = items_of q.view shown (page_units q shown); prefixes = prefixes_of (page_units q shown); next = page_next q shown; settings = settings }

-- a page of the versions of a bucket
unfoldable pub page_of : Settings → PageQuery → List Row → Page
page_of settings q rows = shown_page settings q (shown_rows q.view rows)

-- the list of a bucket's versions, on an aged slot
unfoldable pub list_step : Slot → PageQuery → Answer × Slot
list_step slot query = on_alive slot.alive slot (λ s. (Paged (page_of s.settings query s.rows), slot))
