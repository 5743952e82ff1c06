-- The words that are accepted.
use Rattle.std.specs.Prelude.{◌≡◌, ◌≤◌, ℕ, List, [], ◌∷◌, Bool, false, nat_eq, Option, Some, None, codes, decimal, slice_get, length}
use Rattle.std.specs.List.{list_any}
use Rattle.gcs_names.specs.Name.{IsBucketName}
use Rattle.gcs_workers.specs.declared.words.Work.{Work}
use Rattle.gcs_workers.specs.declared.words.Work.TheVariants.{Stdio, Serve}

-- the word begins with `-`
abbrev pub is_dashed_word : List ℕ → Bool
is_dashed_word [] = false
is_dashed_word (b ∷ bs) = nat_eq b 45

-- the word is the decimal digits, without a leading zero, of a number in the range
abbrev pub IsNumberIn : ℕ → ℕ → List ℕ → ℕ → Type 0
IsNumberIn least most word n = (word ≡ decimal n) × (least ≤ n) × (n ≤ most)

-- the words, of which the later ones may be absent, ask for this work
abbrev pub IsParts : Option (List ℕ) → Option (List ℕ) → Option (List ℕ) → Option (List ℕ) → Work → Type 0
IsParts (Some word) None None None (Stdio None) = word ≡ codes "stdio"
IsParts (Some word) (Some name) None None (Stdio (Some bucket)) = (word ≡ codes "stdio") × (bucket ≡ name) × IsBucketName name
IsParts (Some word) (Some place) (Some count) None (Serve address workers None) =
    (word ≡ codes "serve") × (address ≡ place) × IsNumberIn 1 64 count workers
IsParts (Some word) (Some place) (Some count) (Some most) (Serve address workers (Some connections)) =
    (word ≡ codes "serve") × (address ≡ place) × IsNumberIn 1 64 count workers × IsNumberIn 1 1000000000 most connections
IsParts first second third fourth work = ⊥

-- no word begins with `-`, there are at most four, and they ask for this work
pub record IsWork (words : List (List ℕ)) (work : Work) : Type 0 where
  pub plain : list_any is_dashed_word words ≡ false
  pub few : length words ≤ 4
  pub parts : IsParts (slice_get words 0) (slice_get words 1) (slice_get words 2) (slice_get words 3) work
