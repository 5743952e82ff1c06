-- Lines of bytes, and the head text that they make (RFC 9112, 2.1 and 2.2).
use Rattle.std.specs.Prelude.{◌≡◌, ◌≢◌, ℕ, ◌<◌, Bool, true, false, ◌==◌, ◌||◌, List, [], ◌∷◌, ◌++◌, length}
use Rattle.std.specs.List.{flat_map, AllByRecursion}

-- a line, by the bytes before its LF
abbrev pub print_line : List ℕ → List ℕ
print_line line = line ++ 10 ∷ []

-- lines, one after the other
abbrev pub print_lines : List (List ℕ) → List ℕ
print_lines lines = flat_map print_line lines

-- a line ends with its first LF, so no LF stands before that
abbrev pub IsLine : List ℕ → Type 0
IsLine line = AllByRecursion (λ b. b ≢ 10) line

-- an empty line is LF or CR LF
abbrev pub is_blank : List ℕ → Bool
is_blank [] = true
is_blank (b ∷ []) = b == 13
is_blank (b ∷ c ∷ line) = false

-- an empty line
abbrev pub IsBlank : List ℕ → Type 0
IsBlank line = IsLine line × (is_blank line ≡ true)

-- a nonempty line
abbrev pub IsFilled : List ℕ → Type 0
IsFilled line = IsLine line × (is_blank line ≡ false)

-- CR or LF
abbrev pub is_end_byte : ℕ → Bool
is_end_byte b = b == 13 || b == 10

-- a head text: empty lines, then one or more nonempty lines, then an empty line
pub record IsHeadText (text : List ℕ) (blank lines : List (List ℕ)) (last : List ℕ) : Type 0 where
  pub spelled : text ≡ print_lines blank ++ (print_lines lines ++ print_line last)
  pub all_blank : AllByRecursion IsBlank blank
  pub all_filled : AllByRecursion IsFilled lines
  pub some : 0 < length lines
  pub ends : IsBlank last

-- the front of a head text that isn't whole: tail is what has come of the next line
pub record OpensHead (text : List ℕ) (blank lines : List (List ℕ)) (tail : List ℕ) : Type 0 where
  pub spelled : text ≡ print_lines blank ++ (print_lines lines ++ tail)
  pub all_blank : AllByRecursion IsBlank blank
  pub all_filled : AllByRecursion IsFilled lines
  pub open_line : IsLine tail
