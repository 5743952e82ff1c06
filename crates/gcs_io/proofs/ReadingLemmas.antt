-- One more reading.
use Rattle.std.proofs.Common.{◌≡◌, ℕ, ◌+◌, List, [], ◌∷◌, ◌++◌, refl, add-one, Bool, true, false, Some, None, if◌then◌else◌, ap, ◌∙◌}
use Rattle.gcs_io.specs.Readings.{reading_at, readings}
use Rattle.gcs_io.specs.Told.{Gains}

-- one reading more stands at the end
readings-more : (xs : List ℕ) (n : ℕ) → readings xs (n + 1) ≡ readings xs n ++ reading_at xs n ∷ []
readings-more xs n = ap (readings xs) (add-one n)

-- a clock that gives the reading of its number has given one more, as long as the number can be kept
pub one_more : (xs : List ℕ) (n k : ℕ) (a b : Bool) → (a ≡ true → k ≡ n + 1) → (b ≡ true → a ≡ true) → Gains (if a then Some (readings xs n) else None) (if b then Some (readings xs k) else None) (reading_at xs n ∷ [])
one_more xs n k true true e up = ap (readings xs) (e refl) ∙ readings-more xs n
one_more xs n k true false e up = tt
one_more xs n k false true e up = absurd (let f : false ≡ true = up refl in cc)
one_more xs n k false false e up = refl
