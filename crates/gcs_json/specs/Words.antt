-- The texts that fields may have.
use Rattle.std.specs.Prelude.{ℕ, ◌^◌, ◌==◌, ◌&&◌, ◌||◌, List, Bool, not, nat_le, nat_lt, length, Option, Some, None, if◌then◌else◌}
use Rattle.std.specs.List.{list_all}
use Rattle.std.specs.Str.Parse.{digits_value}
use Rattle.gcs_json.specs.declared.words.Bytes.{Bytes}
use Rattle.gcs_json.specs.declared.words.Bytes.TheVariants.{Class, Place, Line, Digit}

-- a capital letter
abbrev pub is_capital : ℕ → Bool
is_capital b = nat_le 65 b && nat_le b 90

-- a small letter
abbrev pub is_small : ℕ → Bool
is_small b = nat_le 97 b && nat_le b 122

-- a digit
abbrev pub is_digit : ℕ → Bool
is_digit b = nat_le 48 b && nat_le b 57

-- the byte may stand in such a text
abbrev pub passes : Bytes → ℕ → Bool
passes Class b = (is_capital b || is_digit b) || b == 95
passes Place b = ((is_capital b || is_small b) || is_digit b) || b == 45
passes Line b = nat_le 32 b && not (b == 127)
passes Digit b = is_digit b

-- from the least to the most bytes, each of which may stand there
abbrev pub is_word : ℕ → ℕ → Bytes → List ℕ → Bool
is_word least most bytes text = (nat_le least (length text) && nat_le (length text) most) && list_all (passes bytes) text

-- a number of 64 bits, as a text of digits
abbrev pub number_in_text : List ℕ → Option ℕ
number_in_text text =
    if (nat_le 1 (length text) && list_all (passes Digit) text) && nat_lt (digits_value 10 text) (2 ^ 64) then Some (digits_value 10 text) else None
