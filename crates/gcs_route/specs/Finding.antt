-- The row that a request is of.
use Rattle.std.specs.Prelude.{ℕ, List, [], ◌∷◌, Bool, true, false, ◌||◌, ◌&&◌, bytes_eq, codes, Option, Some, None, if◌then◌else◌}
use Rattle.gcs_route.specs.Table.{Row}

-- the piece of a row's path stands for a name
abbrev pub is_hole : List ℕ → Bool
is_hole p = bytes_eq p (codes "{bucket}") || bytes_eq p (codes "{object}")

-- the segments are those of the row's path, with anything for a name
abbrev pub fits : List (List ℕ) → List (List ℕ) → Bool
fits [] [] = true
fits [] (s ∷ ss) = false
fits (p ∷ ps) [] = false
fits (p ∷ ps) (s ∷ ss) = (is_hole p || bytes_eq p s) && fits ps ss

-- the request is of this row
abbrev pub is_of : Row → List ℕ → List (List ℕ) → Bool
is_of row method ss = fits row.path ss && bytes_eq row.method method

-- the first of these rows that a request is of
abbrev pub find_row : List Row → List ℕ → List (List ℕ) → Option Row
find_row [] method ss = None
find_row (r ∷ rs) method ss = if is_of r method ss then Some r else find_row rs method ss

-- one of these rows has this path
abbrev pub has_path : List Row → List (List ℕ) → Bool
has_path [] ss = false
has_path (r ∷ rs) ss = fits r.path ss || has_path rs ss
