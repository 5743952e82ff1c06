-- The path and the query of a target, and the path's segments (RFC 3986, 3.3 and 3.4).
use Rattle.std.specs.Prelude.{ℕ, List, [], ◌∷◌, ◌==◌, not, take_while, length, drop, ◌+◌, if◌then◌else◌}

-- what stands in front of the first `?`
abbrev pub path_of : List ℕ → List ℕ
path_of target = take_while (λ b. not (b == 63)) target

-- what stands behind it
abbrev pub query_of : List ℕ → List ℕ
query_of target = drop (length (path_of target) + 1) target

-- the bytes in front of the first `/`
abbrev pub front : List ℕ → List ℕ
front = take_while (λ b. not (b == 47))

-- a byte in front of the first of these texts
abbrev pub with_front : ℕ → List (List ℕ) → List (List ℕ)
with_front b [] = (b ∷ []) ∷ []
with_front b (s ∷ ss) = (b ∷ s) ∷ ss

-- the texts between the `/` signs
abbrev pub segments : List ℕ → List (List ℕ)
segments [] = [] ∷ []
segments (b ∷ bs) = if b == 47 then [] ∷ segments bs else with_front b (segments bs)
