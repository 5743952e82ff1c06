-- Blanks, and texts without those round them (RFC 9110, 5.6.3).
use Rattle.std.specs.Prelude.{ℕ, Bool, ◌||◌, ◌==◌, List, [], ◌∷◌, if◌then◌else◌}
use Rattle.std.specs.List.{list_all}

-- a space or a tab
abbrev pub is_blank : ℕ → Bool
is_blank b = b == 32 || b == 9

-- a text without the blanks before it
abbrev pub trim_front : List ℕ → List ℕ
trim_front [] = []
trim_front (b ∷ text) = if is_blank b then trim_front text else b ∷ text

-- a text without the blanks behind it
abbrev pub trim_back : List ℕ → List ℕ
trim_back [] = []
trim_back (b ∷ text) = if list_all is_blank (b ∷ text) then [] else b ∷ trim_back text
