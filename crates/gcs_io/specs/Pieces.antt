-- The pieces of a source in memory, and a place in them.
-- A place is the number of a piece, from 0, and how many bytes of that piece were read.
use Rattle.std.specs.Prelude.{◌≡◌, ◌<◌, slice_index_or, ℕ, List, [], ◌∷◌, ◌++◌, length, take, drop}
use Rattle.std.specs.Global.{Vec}

-- the bytes of all pieces, one after another
abbrev pub joined : List (Vec ℕ) → List ℕ
joined [] = []
joined (p ∷ ps) = p.items ++ joined ps

-- the first n bytes of the first piece, as many as it has
abbrev pub front_of : List (Vec ℕ) → ℕ → List ℕ
front_of [] n = []
front_of (p ∷ ps) n = take n p.items

-- all bytes but the first n of the first piece
abbrev pub after_front : List (Vec ℕ) → ℕ → List ℕ
after_front [] n = []
after_front (p ∷ ps) n = drop n p.items ++ joined ps

-- what stands before the place
abbrev pub passed : List (Vec ℕ) → ℕ → ℕ → List ℕ
passed pieces index at = joined (take index pieces) ++ front_of (drop index pieces) at

-- what stands from the place on
abbrev pub left : List (Vec ℕ) → ℕ → ℕ → List ℕ
left pieces index at = after_front (drop index pieces) at

-- the first text, or the other where the first is empty
abbrev pub filled_or : List ℕ → List ℕ → List ℕ
filled_or [] other = other
filled_or (x ∷ xs) other = x ∷ xs

-- the rest of the first piece that has bytes left, where the first n bytes of the first one were read
abbrev pub next_bytes : List (Vec ℕ) → ℕ → List ℕ
next_bytes [] n = []
next_bytes (p ∷ ps) n = filled_or (drop n p.items) (next_bytes ps 0)

-- the place is before the end of the piece of that number
abbrev pub IsInside : List (Vec ℕ) → ℕ → ℕ → Type 0
IsInside pieces index at = (p : Vec ℕ) → p ≡ slice_index_or pieces index p → at < length p.items
