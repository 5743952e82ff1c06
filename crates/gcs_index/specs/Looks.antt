-- How many looks at keys searches take.
use Rattle.std.proofs.Common.{arith}
use Rattle.std.specs.Prelude.{◌≡◌, ℕ, ◌+◌, ◌-◌, ◌*◌, ◌^◌, ◌<◌, ◌≤◌}
use mathlib.Core.Logic.{inl, inr}
use Rattle.std.proofs.lemmas.Bool.{cases_lt}
use Rattle.std.proofs.Math.Pow.{pow_mono}

-- a count of steps rises from old to new by so many searches of n entries: by s looks at most in each, for the greatest s with 2 ^ s ≤ 64 n + 64
abbrev pub AreLooks : ℕ → ℕ → ℕ → ℕ → Type 0
AreLooks searches n old new = (s : ℕ) → 64 * n + 64 < 2 ^ (s + 1) → new ≤ old + searches * s

-- one search
pub one_search : (n old new : ℕ) → 2 ^ (new - old) ≤ 64 * n + 64 → AreLooks 1 n old new
one_search n old new cost s next = elim (cases_lt (new - old) (s + 1)) [
  | inl few ↦ omega arith
  | inr many ↦ absurd (omega (arith, pow_mono {i = s + 1} {j = new - old} many))
]

-- searches one after the other
pub more_searches : (a b n old between new : ℕ) → AreLooks a n old between → AreLooks b n between new → AreLooks (a + b) n old new
more_searches a b n old between new first second s next =
    let sum : (a + b) * s ≡ a * s + b * s = grind arith in
    omega (arith, first s next, second s next)

-- searches of fewer entries
pub fewer_entries : (searches m n old new : ℕ) → m ≤ n → AreLooks searches m old new → AreLooks searches n old new
fewer_entries searches m n old new fewer looks s next = looks s (omega arith)

-- no more searches than so many
pub fewer_searches : (a b n old new : ℕ) → a ≤ b → AreLooks a n old new → AreLooks b n old new
fewer_searches a b n old new a≤b looks s next =
    let product : a * s ≤ b * s = grind (arith, a≤b) in
    omega (arith, looks s next, product)
