-- Objects of texts.
use Rattle.std.specs.Prelude.{[], ◌∷◌, ◌+◌, ℕ, List, Bool, true, nat_le, length, Option, Some, None, option_and_then, option_map, if◌then◌else◌}
use Rattle.serde_json.specs.Data.{Data, Members, no_members, member, null, string}
use Rattle.serde_json.specs.Find.{as_object}

-- a key and its text; none where the key is to be removed
abbrev pub Pair : Type 0
Pair = List ℕ × Option (List ℕ)

-- what the value of a key is read as; null removes the key, where that is allowed
abbrev pub value_of : Bool → Data → Option (Option (List ℕ))
value_of removes (string text) = Some (Some text)
value_of removes null = if removes then Some None else None
value_of removes _ = None

-- a pair before others, if all are of their kind
abbrev pub pair_before : List ℕ → Option (Option (List ℕ)) → Option (List Pair) → Option (List Pair)
pair_before key None pairs = None
pair_before key (Some value) pairs = option_map (λ more. (key, value) ∷ more) pairs

-- the pairs of an object of texts, rising by key
abbrev pub pairs_of : Bool → Members → Option (List Pair)
pairs_of removes no_members = Some []
pairs_of removes (member key d more) = pair_before key (value_of removes d) (pairs_of removes more)

abbrev pub value_length : Option (List ℕ) → ℕ
value_length None = 0
value_length (Some text) = length text

-- the bytes of all keys and values
abbrev pub pairs_length : List Pair → ℕ
pairs_length [] = 0
pairs_length (pair ∷ pairs) = (length pair.0 + value_length pair.1) + pairs_length pairs

-- the pairs have at most so many bytes, where there is a limit
abbrev pub is_within : Option ℕ → List Pair → Bool
is_within None pairs = true
is_within (Some most) pairs = nat_le (pairs_length pairs) most

abbrev pub if_within : Option ℕ → List Pair → Option (List Pair)
if_within most pairs = if is_within most pairs then Some pairs else None

-- the pairs of an object of texts that are within the limit
abbrev pub pairs_within : Bool → Option ℕ → Data → Option (List Pair)
pairs_within removes most d = option_and_then (if_within most) (option_and_then (pairs_of removes) (as_object d))
