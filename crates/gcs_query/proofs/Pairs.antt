-- How far a query was read
use Rattle.std.proofs.Common.{◌≡◌, ℕ, List, [], ◌∷◌, ◌++◌, map, All, String, sym, ap, ap₂, ◌∙◌, append_assoc}
use Rattle.std.proofs.lemmas.List.{map-append, append-nil}
use Rattle.std.proofs.lemmas.List.Elements.{All-nil, All-cons, All-append}
use Rattle.std.specs.declared.alloc.Global.{Global}
use Rattle.form_urlencoded.specs.Form.{raw_pairs}
use Rattle.gcs_query.specs.Query.{Pair, decoded_pair, pair_bytes, IsTextPair}

-- these pairs are those in front of what is left
abbrev pub IsReadTo : List ℕ → List Pair → List (String Global × String Global) → Type 0
IsReadTo text left pairs =
    (front : List Pair) × (raw_pairs text ≡ front ++ left) × (map pair_bytes pairs ≡ map decoded_pair front) × All IsTextPair front

-- one more pair was read
pub read_more : (text : List ℕ) (left : List Pair) (p : Pair) (pairs : List (String Global × String Global)) (s : String Global × String Global)
    → IsReadTo text (p ∷ left) pairs → IsTextPair p → pair_bytes s ≡ decoded_pair p → IsReadTo text left (pairs ++ s ∷ [])
read_more text left p pairs s r ok same = (
  r.0 ++ p ∷ [],
  r.1 ∙ sym (append_assoc r.0 (p ∷ []) left),
  map-append pair_bytes pairs (s ∷ []) ∙ ap₂ (λ x y. x ++ y) r.2 (ap (λ x. x ∷ []) same) ∙ sym (map-append decoded_pair r.0 (p ∷ [])),
  All-append IsTextPair r.0 (p ∷ []) r.3 (All-cons IsTextPair p [] ok (All-nil IsTextPair)),
)

-- where nothing is left all pairs are texts
pub all_read : (text : List ℕ) (left : List Pair) (pairs : List (String Global × String Global)) → left ≡ [] → IsReadTo text left pairs → All IsTextPair (raw_pairs text)
all_read text left pairs none r = rw (r.1 ∙ ap (λ l. r.0 ++ l) none ∙ append-nil r.0) r.3
