-- The readings of a clock that goes through a list.
use Rattle.std.specs.Prelude.{ℕ, suc, zero, ◌-◌, min, List, [], ◌∷◌, ◌++◌, length, slice_index}

-- the reading of that number, from 0, or the last one
abbrev pub reading_at : List ℕ → ℕ → ℕ
reading_at list n = slice_index list (min n (length list - 1))

-- the first n readings
abbrev pub readings : List ℕ → ℕ → List ℕ
readings list zero = []
readings list (suc n) = readings list n ++ reading_at list n ∷ []
