-- Texts of decimal digits, and their numbers.
use Rattle.std.specs.Prelude.{ℕ, Bool, ◌&&◌, nat_lt, nat_le, List, length, Option, Some, None, if◌then◌else◌}
use Rattle.std.specs.List.{list_all}
use Rattle.std.specs.Char.{is_ascii_digit}
use Rattle.std.specs.Str.Parse.{digits_value}

-- the text is 1 to so many decimal digits
abbrev pub is_decimal : ℕ → List ℕ → Bool
is_decimal most text = nat_lt 0 (length text) && (nat_le (length text) most && list_all is_ascii_digit text)

-- the number of 1 to so many decimal digits
abbrev pub decimal_of : ℕ → List ℕ → Option ℕ
decimal_of most text = if is_decimal most text then Some (digits_value 10 text) else None
