-- No byte of a text in UTF-8 is 255.
use Rattle.std.proofs.Common.{◌≡◌, ℕ, ◌+◌, ◌/◌, ◌%◌, ◌<◌, Bool, true, false, cond, nat_lt, List, [], ◌∷◌, ◌++◌, length, get_or, zero, suc, IsUtf8, inl, inr, refl, sym, subst, arith, ltb-true}
use Rattle.std.specs.List.{AllByRecursion}
use Rattle.std.proofs.lemmas.Bool.{and_parts}
use lib.Utf8.{scalar, scalars, encode, encodes, scalar_cases}

abbrev pub AreLow : List ℕ → Type 0
AreLow bs = AllByRecursion (λ b. b < 255) bs

all_append : (xs ys : List ℕ) → AreLow xs → AreLow ys → AreLow (xs ++ ys)
all_append [] ys a b = b
all_append (x ∷ xs) ys a b = (a.0, all_append xs ys a.1 b)

scalar_below : (c : ℕ) → scalar c ≡ true → c < 1114112
scalar_below c ok = elim (scalar_cases c ok) [
  | inl low ↦ omega (arith, low)
  | inr high ↦ high.1
]

encode_low : (c : ℕ) → scalar c ≡ true → AreLow (encode c)
unfolding encode
encode_low c ok = by (nat_lt c 128) (nat_lt c 2048) (nat_lt c 65536) refl refl refl (scalar_below c ok)
  where
    low : (n m : ℕ) → n < m → (h : m < 255) → n < 255
    low n m a h = omega (arith, a, h)

    by : (r s t : Bool) → nat_lt c 128 ≡ r → nat_lt c 2048 ≡ s → nat_lt c 65536 ≡ t → c < 1114112
        → AreLow (cond r (c ∷ []) (cond s ((192 + c / 64) ∷ (128 + c % 64) ∷ []) (cond t ((224 + c / 4096) ∷ (128 + c / 64 % 64) ∷ (128 + c % 64) ∷ []) ((240 + c / 262144) ∷ (128 + c / 4096 % 64) ∷ (128 + c / 64 % 64) ∷ (128 + c % 64) ∷ []))))
    by true s t a b d top = let small : c < 128 = ltb-true c 128 a in (omega (arith, small), tt)
    by false true t a b d top = let small : c < 2048 = ltb-true c 2048 b in (omega (arith, small), (omega arith, tt))
    by false false true a b d top = let small : c < 65536 = ltb-true c 65536 d in (omega (arith, small), (omega arith, (omega arith, tt)))
    by false false false a b d top = (omega (arith, top), (omega arith, (omega arith, (omega arith, tt))))

encodes_low : (cs : List ℕ) → scalars cs ≡ true → AreLow (encodes cs)
encodes_low [] ok = tt
encodes_low (c ∷ cs) ok = let both = and_parts (scalar c) (scalars cs) ok in all_append (encode c) (encodes cs) (encode_low c both.0) (encodes_low cs both.1)

pub are_low : (bs : List ℕ) → IsUtf8 bs → AreLow bs
are_low bs is = subst AreLow is.1.1 (encodes_low is.0 is.1.0)

low_at : (bs : List ℕ) (i d : ℕ) → i < length bs → AreLow bs → get_or bs i d < 255
low_at [] i d within all = absurd (omega (arith, within))
low_at (b ∷ bs) zero d within all = all.0
low_at (b ∷ bs) (suc i) d within all = low_at bs i d (omega (arith, within)) all.1

pub byte_low : (text bs : List ℕ) (i v : ℕ) → IsUtf8 text → bs ≡ text → i < length bs → v ≡ get_or bs i v → v < 255
byte_low text bs i v is same within at = subst (λ (n : ℕ). n < 255) (sym at) (low_at bs i v within (subst AreLow (sym same) (are_low text is)))
