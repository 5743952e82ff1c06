-- The values of a query's keys: texts, numbers and flags. An empty text counts as absent
use Rattle.std.specs.Prelude.{◌≡◌, ℕ, ◌≤◌, List, [], length, map, codes, fold, bytes_eq, if◌then◌else◌}
use Rattle.std.specs.Char.{to_ascii_lowercase}
use Rattle.std.specs.Str.Parse.{digits_value, IsNumeral}
use Rattle.gcs_query.specs.Query.{Pair}

-- the value of the last pair with that key, or the empty text where there is none
abbrev pub value_of : List ℕ → List Pair → List ℕ
value_of key pairs = fold (λ found pair. if bytes_eq pair.0 key then pair.1 else found) [] pairs

-- the greatest number, 2^63 - 1
abbrev pub greatest : ℕ
greatest = 9_223_372_036_854_775_807

-- the text is 1 to 19 decimal digits, at most the greatest number
abbrev pub IsNumber : List ℕ → Type 0
IsNumber text = IsNumeral 10 text × (length text ≤ 19) × (digits_value 10 text ≤ greatest)

-- the text is `true` in any case
abbrev pub IsTrueText : List ℕ → Type 0
IsTrueText text = map to_ascii_lowercase text ≡ codes "true"

-- the text is `false` in any case
abbrev pub IsFalseText : List ℕ → Type 0
IsFalseText text = map to_ascii_lowercase text ≡ codes "false"
