-- Pairs of texts, as custom metadata and labels keep them.
use Rattle.std.specs.Prelude.{◌≡◌, ℕ, ◌+◌, not, List, [], ◌∷◌, length, filter, Option, Some, None}
use Rattle.std.specs.Str.{bytes_eq}
use Rattle.std.specs.List.{AllByRecursion, sum_by}
use Rattle.std.specs.Ordering.{nat_cmp}
use Rattle.std.specs.Cmp.Lexicographic.{slice_cmp}
use Rattle.std.specs.declared.cmp.Ordering.{Ordering}
use Rattle.std.specs.declared.cmp.Ordering.TheVariants.{Less, Equal, Greater}

-- keys with their values
abbrev pub PairList : Type 0
PairList = List (List ℕ × List ℕ)

-- the keys rise strictly in byte order
abbrev pub AreRising : PairList → Type 0
AreRising [] = Unit {0}
AreRising (p ∷ ps) = AllByRecursion (λ q. slice_cmp nat_cmp p.0 q.0 ≡ Less) ps × AreRising ps

-- how many bytes the keys and the values have
abbrev pub pairs_size : PairList → ℕ
pairs_size pairs = sum_by (λ p. length p.0 + length p.1) pairs

-- the largest size that is shown: a greater one shows as this
abbrev pub most_shown : ℕ
most_shown = 18446744073709551615

-- the pairs with this value, by the order of the key and the first one: before it, in its place or behind it
abbrev pub pair_by : Ordering → List ℕ → List ℕ → List ℕ × List ℕ → PairList → PairList → PairList
pair_by Less key value p ps rest = (key, value) ∷ p ∷ ps
pair_by Equal key value p ps rest = (key, value) ∷ ps
pair_by Greater key value p ps rest = p ∷ rest

-- the pairs with this value at the key
abbrev pub with_pair : List ℕ → List ℕ → PairList → PairList
with_pair key value [] = (key, value) ∷ []
with_pair key value (p ∷ ps) = pair_by (slice_cmp nat_cmp key p.0) key value p ps (with_pair key value ps)

-- the pairs without the key
abbrev pub without_key : List ℕ → PairList → PairList
without_key key pairs = filter (λ p. not (bytes_eq key p.0)) pairs

-- the pairs once a key gets a value, or loses the one that it has
abbrev pub set_pair : List ℕ → Option (List ℕ) → PairList → PairList
set_pair key None pairs = without_key key pairs
set_pair key (Some value) pairs = with_pair key value pairs

-- the pairs once each of these is set, in their order
abbrev pub set_pairs : PairList → List (List ℕ × Option (List ℕ)) → PairList
set_pairs pairs [] = pairs
set_pairs pairs (asked ∷ more) = set_pairs (set_pair asked.0 asked.1 pairs) more
