-- Texts and their beginnings, and where a delimiter cuts them.
use Rattle.std.specs.Prelude.{ℕ, Bool, true, false, ◌&&◌, ◌==◌, List, [], ◌∷◌, ◌++◌, length, drop, Option, Some, None, option_map, if◌then◌else◌}

-- the text x begins with p
abbrev pub begins : List ℕ → List ℕ → Bool
begins [] x = true
begins (a ∷ p) [] = false
begins (a ∷ p) (b ∷ x) = (a == b) && begins p x

-- the text up to and with the first place where the delimiter d stands in it
abbrev pub cut : List ℕ → List ℕ → Option (List ℕ)
cut d [] = None
cut d (b ∷ x) = if begins d (b ∷ x) then Some d else option_map (λ p. b ∷ p) (cut d x)

-- a name folded at the first delimiter at or after the prefix's end; an empty delimiter folds nothing
abbrev pub folded : List ℕ → List ℕ → List ℕ → Option (List ℕ)
folded prefix [] name = None
folded prefix (c ∷ d) name = option_map (λ p. prefix ++ p) (cut (c ∷ d) (drop (length prefix) name))
