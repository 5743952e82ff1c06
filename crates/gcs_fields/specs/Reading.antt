-- What a reader has read
use Rattle.std.specs.Prelude.{◌≡◌, ◌≢◌, ℕ, ◌+◌, ◌≤◌, Bool, true, false, List, [], ◌∷◌, ◌++◌, length, map, Option, Some, None, Result, Ok, Err}
use Rattle.std.specs.declared.alloc.AllocError.{AllocError}
use Rattle.std.specs.List.{AllByRecursion}
use Rattle.gcs_fields.specs.declared.scan.Place.{Place}
use Rattle.gcs_fields.specs.declared.scan.Place.TheVariants as place
use Rattle.gcs_fields.specs.declared.read.Level.{Level}
use Rattle.gcs_fields.specs.declared.read.Reader.{Reader}
use Rattle.gcs_fields.specs.Tree.{Name, any, key, Mask, none, print_name, print_path, print, texts_of, AreItems, IsPath, IsName, levels, most_levels}
use Rattle.gcs_fields.specs.Views.{path_of, mask_of}
use Rattle.gcs_fields.specs.Scan.{Stop, start, run}

-- a bracket that is open: the items before the one that it belongs to, that one's path, and the level of their first names
pub record Open : Type 0 where
  pub items : Mask
  pub path : List Name
  pub first : ℕ

-- an open bracket, with its items and path as trees
abbrev pub open_of : Level → Open
open_of l = record { items = mask_of l.items.items; path = path_of l.path.items; first = l.first }

-- texts, each with a byte after it
abbrev pub ended : ℕ → List (List ℕ) → List ℕ
ended sep [] = []
ended sep (x ∷ xs) = x ++ sep ∷ ended sep xs

-- items, each with the comma after it
abbrev pub print_done : Mask → List ℕ
print_done items = ended 44 (texts_of items)

-- names, each with the slash after it
abbrev pub print_steps : List Name → List ℕ
print_steps path = ended 47 (map print_name path)

-- what was read of an open bracket: the items before it, its path, and `(`
abbrev pub print_open : Open → List ℕ
print_open o = print_done o.items ++ (print_path o.path ++ 40 ∷ [])

-- what was read of the open brackets, the outermost first
abbrev pub print_opens : List Open → List ℕ
print_opens [] = []
print_opens (o ∷ os) = print_open o ++ print_opens os

-- the levels of their first names, the innermost first, before others
abbrev pub firsts : List Open → List ℕ → List ℕ
firsts [] others = others
firsts (o ∷ os) others = firsts os (o.first ∷ others)

-- open brackets, the outermost first, at whose innermost place first names have the second level; at the outermost they have the first
abbrev pub AreOpen : ℕ → List Open → ℕ → Type 0
AreOpen level [] first = first ≡ level
AreOpen level (o ∷ os) first = (o.first ≡ level) × AreItems o.items × IsPath o.path × (level + levels o.items ≤ most_levels + 1) × (level + length o.path + 1 ≤ most_levels)
    × AreOpen (level + length o.path + 1) os first

-- what was read of a name
abbrev pub part_of : Place → List ℕ → List ℕ
part_of place.Start bytes = bytes
part_of place.Key bytes = bytes
part_of place.Star bytes = 42 ∷ []
part_of place.Closed bytes = bytes

-- what was read within the innermost bracket
abbrev pub print_here : Place → Mask → List Name → List ℕ → List ℕ
print_here place.Closed items path bytes = print items
print_here place.Start items path bytes = print_done items ++ (print_steps path ++ bytes)
print_here place.Key items path bytes = print_done items ++ (print_steps path ++ bytes)
print_here place.Star items path bytes = print_done items ++ (print_steps path ++ 42 ∷ [])

-- what a reader holds of the name and the item that it stands in
abbrev pub IsAt : Place → Mask → List Name → List ℕ → Type 0
IsAt place.Start items path bytes = bytes ≡ []
IsAt place.Key items path bytes = IsName (key bytes)
IsAt place.Star items path bytes = bytes ≡ []
IsAt place.Closed items path bytes = (bytes ≡ []) × (path ≡ []) × (items ≢ none)

-- the open brackets of a reader
abbrev pub opens_of : Reader → List Open
opens_of r = map open_of r.outer.items

-- the whole items within the innermost bracket
abbrev pub items_of : Reader → Mask
items_of r = mask_of r.items.items

-- the whole names of the item that stands there
abbrev pub names_of : Reader → List Name
names_of r = path_of r.path.items

-- what is held where a text stops
pub record Held (opens : List Open) (first : ℕ) (place : Place) (items : Mask) (path : List Name) (bytes text : List ℕ) : Type 0 where
  pub spelled : text ≡ print_opens opens ++ print_here place items path bytes
  pub nested : AreOpen 1 opens first
  pub items_are : AreItems items
  pub low : first + levels items ≤ most_levels + 1
  pub names : AllByRecursion IsName path
  pub deep : first + length path ≤ most_levels
  pub at : IsAt place items path bytes

-- the reader holds what this text begins
abbrev pub Holds : Reader → List ℕ → Type 0
Holds r text = Held (opens_of r) r.first r.place (items_of r) (names_of r) r.name.items text

-- where the text stops that a reader has read
abbrev pub stop_of : Reader → Stop
stop_of r = record { place = r.place; level = r.first + length (names_of r); first = r.first; outer = firsts (opens_of r) [] }

-- what a byte makes of a reader, where the text then stops there
abbrev pub NextBy : Option Stop → Reader → Result Bool AllocError → List ℕ → Type 0
NextBy stop r (Ok true) text = Holds r text × (stop ≡ Some (stop_of r))
NextBy stop r (Ok false) text = stop ≡ None
NextBy stop r (Err e) text = Unit {0}

-- the reader has read this text
pub record Stands (r : Reader) (text : List ℕ) : Type 0 where
  pub holds : Holds r text
  pub stops : run start text ≡ Some (stop_of r)

-- the reader has read this text, or no mask begins so
abbrev pub Next : Reader → Result Bool AllocError → List ℕ → Type 0
Next r (Ok true) text = Stands r text
Next r (Ok false) text = run start text ≡ None
Next r (Err e) text = Unit {0}

-- the name that was read
abbrev pub name_at : Place → List ℕ → Name
name_at place.Start bytes = key bytes
name_at place.Key bytes = key bytes
name_at place.Star bytes = any
name_at place.Closed bytes = key bytes
