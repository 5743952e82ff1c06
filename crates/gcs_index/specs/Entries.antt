-- What callers see of an index: entries that rise by key, and places among them.
use Rattle.std.specs.Prelude.{◌≡◌, ℕ, zero, suc, ◌+◌, ◌<◌, ◌≤◌, List, [], ◌∷◌, length, take, drop, true, false, not, Option, Some, None, ⊤, if◌then◌else◌}
use Rattle.std.specs.List.{AllByRecursion, filter}
use Rattle.std.specs.Option.{option_map}
use Rattle.std.specs.declared.cmp.Ordering.{Ordering}
use Rattle.std.specs.declared.cmp.Ordering.TheVariants.{Less}
use Rattle.std.specs.Ordering.{is_eq, is_gt}
use Rattle.gcs_index.specs.declared.blocks.Entry.{Entry}
use Rattle.gcs_index.specs.declared.blocks.Place.{Place}

-- what callers see of an index: its entries in order, how many blocks stand ready, and how many entries each block has
pub record Shelf (K V : Type 0) : Type 0 where
  pub entries : List (Entry K V)
  pub spare : ℕ
  pub sizes : List ℕ

-- each key is below those after it
abbrev pub Rises : {K V : Type 0} → (K → K → Ordering) → List (Entry K V) → Type 0
Rises cmp [] = ⊤
Rises cmp (e ∷ es) = AllByRecursion (λ x. cmp e.key x.key ≡ Less) es × Rises cmp es

-- the entry of a key and its value
abbrev pub entry_of : {K V : Type 0} → K → V → Entry K V
entry_of key value = record { key = key; value = value }

-- the value of an entry that may be there
abbrev pub value_in : {K V : Type 0} → Option (Entry K V) → Option V
value_in found = option_map (λ e. e.value) found

-- the entries with one more, before the first whose key isn't below its key
abbrev pub with_entry : {K V : Type 0} → (K → K → Ordering) → Entry K V → List (Entry K V) → List (Entry K V)
with_entry cmp entry [] = entry ∷ []
with_entry cmp entry (e ∷ es) = if is_gt (cmp entry.key e.key) then e ∷ with_entry cmp entry es else entry ∷ (e ∷ es)

-- the entries of all other keys
abbrev pub without_key : {K V : Type 0} → (K → K → Ordering) → K → List (Entry K V) → List (Entry K V)
without_key cmp key entries = filter (λ e. not (is_eq (cmp key e.key))) entries

-- how a probe stands to the key of an entry
abbrev pub stands_at : {Q K V : Type 0} → (Q → K → Ordering) → Q → Entry K V → Ordering
stands_at stands probe entry = stands probe entry.key

-- the first n items are below the probe, and no other
pub record IsSplit {X : Type 0} (stands : X → Ordering) (xs : List X) (n : ℕ) : Type 0 where
  pub within : n ≤ length xs
  pub below : AllByRecursion (λ x. is_gt (stands x) ≡ true) (take n xs)
  pub from : AllByRecursion (λ x. is_gt (stands x) ≡ false) (drop n xs)

-- how many entries stand in the first k blocks
abbrev pub count_before : ℕ → List ℕ → ℕ
count_before zero sizes = 0
count_before (suc k) [] = 0
count_before (suc k) (n ∷ sizes) = n + count_before k sizes

-- how many entries the block at k has
abbrev pub size_at : ℕ → List ℕ → ℕ
size_at k [] = 0
size_at zero (n ∷ sizes) = n
size_at (suc k) (n ∷ sizes) = size_at k sizes

-- an entry stands at the place
abbrev pub IsGood : List ℕ → Place → Type 0
IsGood sizes place = place.at < size_at place.block sizes

-- how many entries stand before a place
abbrev pub position : List ℕ → Place → ℕ
position sizes place = count_before place.block sizes + place.at

-- how many entries stand before a place, and where there is none, all of them
abbrev pub position_or : List ℕ → ℕ → Option Place → ℕ
position_or sizes all None = all
position_or sizes all (Some place) = position sizes place

-- the same, for the places of an index
abbrev pub number_of : {K V : Type 0} → Shelf K V → Option Place → ℕ
number_of shelf place = position_or shelf.sizes (length shelf.entries) place
