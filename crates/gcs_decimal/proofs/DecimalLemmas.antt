-- The test of a decimal text, and the relation.
use Rattle.std.proofs.Common.{◌≡◌, ℕ, ◌≤◌, ◌<◌, Bool, true, false, ◌&&◌, List, [], ◌∷◌, length, refl, ap, ap₂, arith}
use Rattle.std.specs.Prelude.{nat_lt, nat_le, Some, None, if◌then◌else◌}
use Rattle.std.specs.List.{list_all}
use Rattle.std.specs.Char.{digit_value, is_ascii_digit}
use Rattle.std.specs.Str.Parse.{AllDigits, IsNumeral, digits_value}
use Rattle.std.proofs.lemmas.Bool.{false≢true, ltb-true, lt-ltb, leb-true, le-leb}
use Rattle.std.proofs.lemmas.Bool.Decides.{nat_tests}
use Rattle.gcs_decimal.specs.Decimal.{is_decimal, decimal_of}

both : (a b : Bool) → (a && b) ≡ true → (a ≡ true) × (b ≡ true)
both true b h = (refl, h)
both false b h = absurd (false≢true h)

digit_small : (b : ℕ) → is_ascii_digit b ≡ true → digit_value b < 10
digit_small b h = grind (arith, nat_tests)

small_digit : (b : ℕ) → digit_value b < 10 → is_ascii_digit b ≡ true
small_digit b h = grind (arith, nat_tests)

-- each byte is a digit
all_digits : (text : List ℕ) → list_all is_ascii_digit text ≡ true → AllDigits 10 text
all_digits [] h = tt
all_digits (b ∷ bs) h = let p = both (is_ascii_digit b) (list_all is_ascii_digit bs) h in (digit_small b p.0, all_digits bs p.1)

digits_all : (text : List ℕ) → AllDigits 10 text → list_all is_ascii_digit text ≡ true
digits_all [] h = refl
digits_all (b ∷ bs) h = ap₂ (λ s t. s && t) (small_digit b h.0) (digits_all bs h.1)

-- a text that passes the test is a numeral of so many digits
is_decimal-true : (most : ℕ) (text : List ℕ) → is_decimal most text ≡ true → IsNumeral 10 text × (length text ≤ most)
is_decimal-true most text h =
    let p = both (nat_lt 0 (length text)) (nat_le (length text) most && list_all is_ascii_digit text) h in
    let q = both (nat_le (length text) most) (list_all is_ascii_digit text) p.1 in
    ((ltb-true 0 (length text) p.0, all_digits text q.1), leb-true (length text) most q.0)

-- a numeral of so many digits passes the test
is_decimal-yes : (most : ℕ) (text : List ℕ) → IsNumeral 10 text → length text ≤ most → is_decimal most text ≡ true
is_decimal-yes most text numeral short =
    ap₂ (λ s t. s && t) (lt-ltb 0 (length text) numeral.0) (ap₂ (λ s t. s && t) (le-leb (length text) most short) (digits_all text numeral.1))

-- what is read is the number of a numeral
chosen : (test : Bool) (value n : ℕ) → (if test then Some value else None) ≡ Some n → (test ≡ true) × (n ≡ value)
chosen true value n h = (refl, cc)
chosen false value n h = cc

pub decimal_of-some : (most n : ℕ) (text : List ℕ) → decimal_of most text ≡ Some n → IsNumeral 10 text × (length text ≤ most) × (n ≡ digits_value 10 text)
decimal_of-some most n text h =
    let c = chosen (is_decimal most text) (digits_value 10 text) n h in
    let is = is_decimal-true most text c.0 in
    (is.0, is.1, c.1)

-- a numeral is read as its number
pub decimal_of-reads : (most : ℕ) (text : List ℕ) → IsNumeral 10 text → length text ≤ most → decimal_of most text ≡ Some (digits_value 10 text)
decimal_of-reads most text numeral short =
    ap (λ (b : Bool). if b then Some (digits_value 10 text) else None) (is_decimal-yes most text numeral short)

-- where nothing is read there is no numeral
pub decimal_of-none : (most : ℕ) (text : List ℕ) → decimal_of most text ≡ None → IsNumeral 10 text → length text ≤ most → ⊥
decimal_of-none most text h numeral short = let e = decimal_of-reads most text numeral short in cc
