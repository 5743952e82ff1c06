-- What an object tells of its content: a list where it tells, nothing where it doesn't.
-- What is told may stop being told; what isn't told stays so.
use Rattle.std.specs.Prelude.{◌≡◌, ℕ, Bool, false, ◌&&◌, nat_lt, nat_eq, List, [], ◌++◌, length, take, Option, Some, None, IsNone, Result, Ok, Err, MatchResult, ⊤}

-- the list grows by xs at its end
abbrev pub Gains : {A : Type 0} → Option (List A) → Option (List A) → List A → Type 0
Gains None now xs = IsNone now
Gains (Some old) None xs = ⊤
Gains (Some old) (Some new) xs = new ≡ old ++ xs

-- the list loses xs at its front
abbrev pub Loses : {A : Type 0} → Option (List A) → Option (List A) → List A → Type 0
Loses None now xs = IsNone now
Loses (Some old) None xs = ⊤
Loses (Some old) (Some new) xs = old ≡ xs ++ new

-- nothing is left
abbrev pub IsOver : {A : Type 0} → Option (List A) → Type 0
IsOver None = ⊤
IsOver (Some xs) = xs ≡ []

-- a read gave the first n bytes of the buffer at Ok(n), and nothing at a fault
abbrev pub Gives : {E : Type 0} → Option (List ℕ) → Option (List ℕ) → Result ℕ E → List ℕ → Type 0
Gives old now r buf = MatchResult r (λ n. Loses old now (take n buf)) (λ _. Loses old now [])

-- the same bytes count as taken
abbrev pub Takes : {E : Type 0} → Option (List ℕ) → Option (List ℕ) → Result ℕ E → List ℕ → Type 0
Takes old now r buf = MatchResult r (λ n. Gains old now (take n buf)) (λ _. Gains old now [])

-- a read of nothing into a buffer with room
abbrev pub is_end : {E : Type 0} → Result ℕ E → List ℕ → Bool
is_end (Ok n) buf = nat_eq n 0 && nat_lt 0 (length buf)
is_end (Err e) buf = false
