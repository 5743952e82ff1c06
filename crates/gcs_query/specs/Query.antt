-- A query's pairs, decoded (URL Standard, section 5.1)
use Rattle.std.specs.Prelude.{◌≡◌, ℕ, List, ◌∷◌, ◌++◌, length, map, All, IsUtf8, String, string_bytes}
use Rattle.std.specs.declared.alloc.Global.{Global}
use Rattle.form_urlencoded.specs.Form.{raw_pairs, decode}

-- a key and its value, as bytes
abbrev pub Pair : Type 0
Pair = List ℕ × List ℕ

-- a pair with its key and value decoded
abbrev pub decoded_pair : Pair → Pair
decoded_pair p = (decode p.0, decode p.1)

-- its key and value are texts once decoded
abbrev pub IsTextPair : Pair → Type 0
IsTextPair p = IsUtf8 (decode p.0) × IsUtf8 (decode p.1)

-- the bytes of a key and its value
abbrev pub pair_bytes : String Global × String Global → Pair
pair_bytes p = (string_bytes p.0, string_bytes p.1)

-- the pairs of a query's text, decoded, in their order
abbrev pub pairs_of : List ℕ → List Pair
pairs_of text = map decoded_pair (raw_pairs text)

-- the pair of that number, counted from 0, is the first that is not text once decoded
abbrev pub IsFirstBad : List ℕ → ℕ → Type 0
IsFirstBad text n = (front : List Pair) × (p : Pair) × (rest : List Pair)
    × (raw_pairs text ≡ front ++ p ∷ rest) × (length front ≡ n) × All IsTextPair front × (¬ IsTextPair p)
