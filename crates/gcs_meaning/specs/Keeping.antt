-- Which versions are covered, and what it means that one is kept (Cloud Storage, "Object holds", "Bucket Lock" and "Soft delete").
use Rattle.std.specs.Prelude.{◌≡◌, ◌≢◌, ◌⊎◌, ℕ, true, List, [], ◌∷◌, ◌++◌, map, Option, Some, None}
use Rattle.gcs_meaning.specs.declared.version.Row.{Row}
use Rattle.gcs_meaning.specs.declared.policy.Cover.TheVariants.{Free}
use Rattle.gcs_meaning.specs.Choosing.{is_readable}
use Rattle.gcs_meaning.specs.Content.{bytes_in}
use Rattle.gcs_meaning.specs.Slot.{State, Slot}
use Rattle.gcs_meaning.specs.Policy.{cover_of}
use Rattle.gcs_meaning.specs.Retiring.{facts_of}

-- P holds of one of them
abbrev pub HoldsOfOne : {X : Type 0} → (X → Type 0) → List X → Type 0
HoldsOfOne P [] = ⊥
HoldsOfOne P (x ∷ xs) = P x ⊎ HoldsOfOne P xs

-- x is one of them
abbrev pub IsOneOf : {X : Type 0} → List X → X → Type 0
IsOneOf xs x = HoldsOfOne (λ y. y ≡ x) xs

-- the bucket that is alive, if one is, as a list
abbrev pub living : Option State → List State
living None = []
living (Some s) = s ∷ []

-- the bucket that is alive, and the deleted ones
abbrev pub buckets_of : Slot → List State
buckets_of slot = living slot.alive ++ map (λ g. g.state) slot.graves

-- a version of a bucket is covered at t by the bucket's settings
abbrev pub IsCovered : State → ℕ → Row → Type 0
IsCovered s t row = cover_of s.settings (facts_of row) t ≢ Free

-- a version of that name and generation with these bytes, of any kind
pub record IsVersion (name : List ℕ) (generation : ℕ) (bytes : List ℕ) (row : Row) : Type 0 where
  pub name_is : row.name ≡ name
  pub generation_is : row.generation ≡ generation
  pub bytes_are : bytes_in row.hashed ≡ bytes

-- such a version is in the bucket that is alive, or in a deleted one
abbrev pub IsKept : Slot → List ℕ → ℕ → List ℕ → Type 0
IsKept slot name generation bytes = HoldsOfOne (λ s. HoldsOfOne (IsVersion name generation bytes) s.rows) (buckets_of slot)

-- such a version is live or noncurrent in the bucket that is alive
abbrev pub IsReadableIn : Option State → List ℕ → ℕ → List ℕ → Type 0
IsReadableIn None name generation bytes = ⊥
IsReadableIn (Some s) name generation bytes = HoldsOfOne (λ row. IsVersion name generation bytes row × (is_readable row.kind ≡ true)) s.rows
