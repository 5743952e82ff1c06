-- What a loop over digits has read so far.
use Rattle.std.proofs.Common.{◌≡◌, ℕ, ◌+◌, ◌-◌, ◌*◌, ◌^◌, ◌<◌, ◌≤◌, length, true, List, take, get_or, arith, refl, add-one}
use Rattle.std.specs.List.{list_all}
use Rattle.std.specs.Char.{digit_value, is_ascii_digit}
use Rattle.std.specs.Str.Parse.{digits_value}
use Rattle.std.proofs.Math.Nat.{pow-le-pow_right, pow-suc}
use Rattle.std.proofs.lemmas.Str.{digit_value_digit}
use Rattle.std.proofs.lemmas.Str.Parse.{digit_from_value}
use Rattle.std.proofs.lemmas.Int.Digits.{digits_value_more}
use Rattle.std.proofs.lemmas.List.Folds.{list_all_more}

-- the number of the first digits
pub record ReadsDigits (text : List ℕ) (count number : ℕ) : Type 0 where
  pub is : number ≡ digits_value 10 (take count text)
  pub all : list_all is_ascii_digit (take count text) ≡ true
  pub small : number < 10 ^ count

-- a number of at most 18 digits leaves room for one more
pub small_number : (i n : ℕ) → i ≤ 18 → n < 10 ^ i → n < 1_000_000_000_000_000_000
small_number i n le lt =
    let h : 10 ^ i ≤ 10 ^ 18 = pow-le-pow_right {n = 10} (omega arith) {i = i} {j = 18} le in omega arith

-- a digit is its byte less that of `0`
pub below_ten : (b : ℕ) → digit_value b < 10 → (digit_value b ≡ b - 48) × (b - 48 < 10)
below_ten b lt =
    let e = digit_value_digit b (digit_from_value b lt) in (omega (arith, e), omega (arith, e))

-- one digit more
pub more_digits : (text : List ℕ) (i n : ℕ) → i < length text → ReadsDigits text i n → is_ascii_digit (get_or text i 0) ≡ true
    → digit_value (get_or text i 0) < 10 → ReadsDigits text (i + 1) (n * 10 + (get_or text i 0 - 48))
more_digits text i n lt r digit below = record {
  is = rw (digits_value_more 10 text i lt, ← r.is, (below_ten _ below).0) refl;
  all = rw (list_all_more is_ascii_digit text i 0 lt, r.all, digit) refl;
  small = let b : (get_or text i 0 - 48) < 10 = (below_ten (get_or text i 0) below).1 in rw (add-one, pow-suc) (omega (arith, r.small));
}
