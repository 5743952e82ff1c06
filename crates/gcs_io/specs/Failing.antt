-- Which calls of a source or sink in memory are to fail.
use Rattle.std.specs.Prelude.{ℕ, ◌+◌, ◌-◌, ◌^◌, min, Bool, List, nat_eq}
use Rattle.std.specs.List.{list_any}

-- one call more, up to the last number that can be kept
abbrev pub counted : ℕ → ℕ
counted calls = min (calls + 1) (2 ^ 64 - 1)

-- the call of this number is to fail
abbrev pub fails_at : List ℕ → ℕ → Bool
fails_at numbers number = list_any (λ failing. nat_eq failing number) numbers
