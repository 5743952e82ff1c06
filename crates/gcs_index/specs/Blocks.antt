-- Blocks of entries, and the list that they stand for.
use Rattle.std.specs.Prelude.{◌≡◌, ℕ, zero, suc, ◌+◌, ◌<◌, ◌≤◌, List, [], ◌∷◌, ◌++◌, length, slice_get, slice_set, Some, ⊤}
use Rattle.std.specs.List.{AllByRecursion, insert, remove}
use Rattle.std.specs.Vec.{vec_capacity, vec_len}
use Rattle.std.specs.Global.{Vec}
use Rattle.std.specs.declared.cmp.Ordering.{Ordering}
use Rattle.gcs_index.specs.declared.blocks.Entry.{Entry}
use Rattle.gcs_index.specs.declared.blocks.Block.{Block}
use Rattle.gcs_index.specs.Entries.{Rises}

-- all entries, in order
abbrev pub entries_of : {K V : Type 0} → List (Block K V) → List (Entry K V)
entries_of [] = []
entries_of (b ∷ bs) = b.entries.items ++ entries_of bs

-- how many entries stand in the first n blocks
abbrev pub entries_before : {K V : Type 0} → ℕ → List (Block K V) → ℕ
entries_before zero bs = 0
entries_before (suc n) [] = 0
entries_before (suc n) (b ∷ bs) = length b.entries.items + entries_before n bs

-- two blocks side by side have more than 256 entries together
abbrev pub PairsAreFull : {K V : Type 0} → List (Block K V) → Type 0
PairsAreFull [] = ⊤
PairsAreFull (b ∷ []) = ⊤
PairsAreFull (b ∷ (c ∷ bs)) = (257 ≤ length b.entries.items + length c.entries.items) × PairsAreFull (c ∷ bs)

-- each block has 1 to 512 entries
abbrev pub AreSized : {K V : Type 0} → List (Block K V) → Type 0
AreSized {K} {V} bs = AllByRecursion (λ (b : Block K V). (1 ≤ length b.entries.items) × (length b.entries.items ≤ 512)) bs

-- the blocks of an index
pub record AreBlocks {K V : Type 0} (bs : List (Block K V)) : Type 0 where
  pub sizes : AreSized bs
  pub pairs : PairsAreFull bs

-- the entries of the block at k
abbrev pub entries_at : {K V : Type 0} → ℕ → List (Block K V) → List (Entry K V)
entries_at k [] = []
entries_at zero (b ∷ bs) = b.entries.items
entries_at (suc k) (b ∷ bs) = entries_at k bs

-- each block has room for 512 entries
abbrev pub HaveRoom : {K V : Type 0} → List (Block K V) → Type 0
HaveRoom {K} {V} bs = AllByRecursion (λ (b : Block K V). 512 ≤ vec_capacity b.entries) bs

-- blocks that stand ready: without entries, and with room
abbrev pub AreSpare : {K V : Type 0} → List (Block K V) → Type 0
AreSpare {K} {V} bs = AllByRecursion (λ (b : Block K V). (b.entries.items ≡ []) × (512 ≤ vec_capacity b.entries)) bs

-- the block at k stands in two halves, and all entries stay where they are
pub record IsHalved {K V : Type 0} (old new : List (Block K V)) (k : ℕ) : Type 0 where
  pub entries : entries_of new ≡ entries_of old
  pub first : length (entries_at k new) ≡ 256
  pub second : length (entries_at (suc k) new) ≡ 256
  pub before : entries_before k new ≡ entries_before k old
  pub between : entries_before (suc k) new ≡ entries_before k old + 256

-- the blocks of an index and those that stand ready: the entries rise, and each of both lists has room for all of them
pub record IsIndex {K V : Type 0} (cmp : K → K → Ordering) (blocks spare : Vec (Block K V)) : Type 0 where
  pub whole : AreBlocks blocks.items
  pub room : HaveRoom blocks.items
  pub spares : AreSpare spare.items
  pub rises : Rises cmp (entries_of blocks.items)
  pub blocks_fit : vec_len blocks + vec_len spare ≤ vec_capacity blocks
  pub spares_fit : vec_len blocks + vec_len spare ≤ vec_capacity spare

-- an entry put in at a place, and blocks as before
pub record IsInserted {K V : Type 0} (old new : List (Block K V)) (place : ℕ) (entry : Entry K V) : Type 0 where
  pub entries : entries_of new ≡ insert (entries_of old) place entry
  pub blocks : AreBlocks new
  pub room : HaveRoom new

-- a place among blocks: in one of them, or at the start where there is none
abbrev pub IsPlace : {K V : Type 0} → List (Block K V) → ℕ → ℕ → Type 0
IsPlace [] k at = (k ≡ 0) × (at ≡ 0)
IsPlace (b ∷ bs) k at = (k < length (b ∷ bs)) × (at ≤ length (entries_at k (b ∷ bs)))

-- how many entries each block has
abbrev pub sizes_of : {K V : Type 0} → List (Block K V) → List ℕ
sizes_of [] = []
sizes_of (b ∷ bs) = length b.entries.items ∷ sizes_of bs

-- the block at k without the entry that stood at a place in it
pub record IsTaken {K V : Type 0} (old new : List (Block K V)) (k at : ℕ) (entry : Entry K V) : Type 0 where
  pub block : Block K V
  pub is : new ≡ slice_set old k block
  pub left : block.entries.items ≡ remove (entries_at k old) at
  pub entry_is : slice_get (entries_at k old) at ≡ Some entry
  pub room : 512 ≤ vec_capacity block.entries

-- blocks as an index has them, once the one at k has one entry more
pub record IsShort {K V : Type 0} (k : ℕ) (now : List (Block K V)) : Type 0 where
  pub whole : List (Block K V)
  pub block : Block K V
  pub are : AreBlocks whole
  pub within : k < length whole
  pub is : now ≡ slice_set whole k block
  pub size : length (entries_at k whole) ≡ length block.entries.items + 1

-- the blocks with one in the place of those at j and behind it
abbrev pub joined_at : {K V : Type 0} → List (Block K V) → ℕ → Block K V → List (Block K V)
joined_at bs j block = slice_set (remove bs (suc j)) j block

-- the block at j and the next one have become one
pub record IsJoined {K V : Type 0} (old new : List (Block K V)) (j : ℕ) : Type 0 where
  pub block : Block K V
  pub is : new ≡ joined_at old j block
  pub entries : block.entries.items ≡ entries_at j old ++ entries_at (suc j) old
  pub room : 512 ≤ vec_capacity block.entries

-- an entry taken out at a place, and blocks as before
pub record IsRemoved {K V : Type 0} (old new : List (Block K V)) (place : ℕ) (entry : Entry K V) : Type 0 where
  pub entries : entries_of new ≡ remove (entries_of old) place
  pub was : slice_get (entries_of old) place ≡ Some entry
  pub blocks : AreBlocks new
  pub room : HaveRoom new

-- blocks of the same entries, with room for 512
abbrev pub AreCopies : {K V : Type 0} → List (Block K V) → List (Block K V) → Type 0
AreCopies [] [] = ⊤
AreCopies [] (b ∷ bs) = ⊥
AreCopies (m ∷ ms) [] = ⊥
AreCopies (m ∷ ms) (b ∷ bs) = ((m.entries.items ≡ b.entries.items) × (512 ≤ vec_capacity m.entries)) × AreCopies ms bs
