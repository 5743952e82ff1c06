-- Ranges of bytes: what the field `Range` tells (RFC 9110, 14.1.2 and 14.2).
use Rattle.std.specs.Prelude.{◌≡◌, ◌≤◌, ◌↔◌, ℕ, ◌+◌, ◌==◌, nat_eq, nat_le, true, List, [], ◌∷◌, ◌++◌, take, drop, position, codes, Option, Some, None, option_map, option_and_then, if◌then◌else◌}
use Rattle.std.specs.List.{starts_with}
use Rattle.std.specs.Str.Parse.{digits_value}
use Rattle.gcs_decimal.specs.Decimal.{decimal_of, is_decimal}
use Rattle.gcs_rewrite.specs.declared.range.Range.{Range}
use Rattle.gcs_rewrite.specs.declared.range.Range.TheVariants.{Between, From, Last}

-- the number of 1 to 18 decimal digits
abbrev pub number_of : List ℕ → Option ℕ
number_of text = decimal_of 18 text

-- the range between two places, which are in order
abbrev pub range_between : Option ℕ → Option ℕ → Option Range
range_between (Some first) (Some last) = if nat_le first last then Some (Between first last) else None
range_between _ _ = None

-- the range that is told by the texts before and after a `-`: a place and a later one, a place alone, or a number of last bytes
abbrev pub range_by : List ℕ → List ℕ → Option Range
range_by [] last = option_map (λ n. Last n) (number_of last)
range_by (b ∷ first) [] = option_map (λ n. From n) (number_of (b ∷ first))
range_by (b ∷ first) (c ∷ last) = range_between (number_of (b ∷ first)) (number_of (c ∷ last))

-- the texts before and after the first byte that is this mark
abbrev pub around : ℕ → List ℕ → Option (List ℕ × List ℕ)
around mark text = option_map (λ at. (take at text, drop (at + 1) text)) (position (λ b. b == mark) text)

-- the one range of bytes that the value of a `Range` field tells; any other value tells none
unfoldable pub read_range : List ℕ → Option Range
read_range value =
    if starts_with nat_eq value (codes "bytes=") then option_and_then (λ texts. range_by texts.0 texts.1) (around 45 (drop 6 value))
    else None

-- the text is 1 to 18 decimal digits, which write this number
pub record IsNumberText (text : List ℕ) (n : ℕ) : Type 0 where
  pub digits : is_decimal 18 text ≡ true
  pub value : n ≡ digits_value 10 text

-- the text is `bytes=`, a place, `-`, and a later place or none; or it is `bytes=-` and a number of last bytes
abbrev pub IsRangeText : List ℕ → Range → Type 0
IsRangeText text (Between first last) =
    (a : List ℕ) × (b : List ℕ) × (text ≡ codes "bytes=" ++ (a ++ (codes "-" ++ b))) × IsNumberText a first × IsNumberText b last × (first ≤ last)
IsRangeText text (From first) = (a : List ℕ) × (text ≡ codes "bytes=" ++ (a ++ codes "-")) × IsNumberText a first
IsRangeText text (Last n) = (b : List ℕ) × (text ≡ codes "bytes=" ++ (codes "-" ++ b)) × IsNumberText b n

-- the texts that are read as ranges are those of this grammar
abbrev pub AreRangeTexts : Type 0
AreRangeTexts = (text : List ℕ) (range : Range) → (read_range text ≡ Some range) ↔ IsRangeText text range
