-- Words on rows that rise by name and generation.
use Rattle.std.specs.Prelude.{◌≡◌, ◌≤◌, ℕ, zero, suc, ◌+◌, ◌==◌, ◌&&◌, ◌||◌, not, Bool, true, false, List, [], ◌∷◌, length, take, drop}
use Rattle.std.specs.Str.{bytes_eq}
use Rattle.std.specs.List.{AllByRecursion}
use Rattle.gcs_meaning.specs.declared.listing.Unit as unit
use Rattle.gcs_meaning.specs.declared.settings.Meta.{Meta}
use Rattle.gcs_meaning.specs.declared.version.Kind.{Kind}
use Rattle.gcs_meaning.specs.declared.version.Row.{Row}
use Rattle.gcs_meaning.specs.Choosing.{is_live}
use Rattle.gcs_meaning.specs.Order.{comes_before, place_of}

-- the row is the version of that name and generation, of any kind
abbrev pub is_version : List ℕ → ℕ → Row → Bool
is_version name generation row = (row.generation == generation) && bytes_eq name row.name

-- a search for the live version of the name ends at this row: it is live, or another name's
abbrev pub ends : List ℕ → Row → Bool
ends name row = is_live row.kind || not (bytes_eq name row.name)

-- the row with other metadata and another start of its retention, since t
abbrev pub changed_version : Meta → ℕ → ℕ → Row → Row
changed_version meta start t row = record row { metageneration = row.metageneration + 1; meta = meta; updated = t; retention_start = start }

-- the row in another state
abbrev pub with_kind : Kind → Row → Row
with_kind kind row = record row { kind = kind }

-- the list with f of the element at this place
abbrev pub map_at : {X : Type 0} → ℕ → (X → X) → List X → List X
map_at i f [] = []
map_at zero f (x ∷ xs) = f x ∷ xs
map_at (suc i) f (x ∷ xs) = x ∷ map_at i f xs

-- the first i rows come before the bound, and no other does
pub record IsPlace (bound : unit.Unit) (rows : List Row) (i : ℕ) : Type 0 where
  pub within : i ≤ length rows
  pub before : AllByRecursion (λ row. comes_before (place_of row) bound ≡ true) (take i rows)
  pub from : AllByRecursion (λ row. comes_before (place_of row) bound ≡ false) (drop i rows)
