-- Pairs of an object, one after the other.
use Rattle.std.proofs.Common.{◌≡◌, ℕ, List, [], ◌∷◌, ◌++◌, Option, Some, None, refl, ap, append_assoc}
use Rattle.gcs_json.specs.Pairs.{Pair, pair_before}

-- pairs before those that are left
abbrev pub joined : List Pair → Option (List Pair) → Option (List Pair)
joined done None = None
joined done (Some more) = Some (done ++ more)

pub joined_push : (done : List Pair) (key : List ℕ) (value : Option (List ℕ)) (left : Option (List Pair))
    → joined (done ++ (key, value) ∷ []) left ≡ joined done (pair_before key (Some value) left)
joined_push done key value None = refl
joined_push done key value (Some more) = ap Some (append_assoc done ((key, value) ∷ []) more)
