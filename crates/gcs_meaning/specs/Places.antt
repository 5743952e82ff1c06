-- Where a key is among pairs, and what a change of its pair makes there.
use Rattle.std.specs.Prelude.{◌≡◌, ◌≤◌, ◌<◌, ℕ, suc, List, length, insert, remove}
use Rattle.gcs_meaning.specs.Pairs.{PairList, with_pair, without_key}

-- the pair of the key stands here
pub record IsKeyAt (key : List ℕ) (pairs : PairList) (i : ℕ) : Type 0 where
  pub within : i < length pairs
  pub set_is : (value : List ℕ) → with_pair key value pairs ≡ remove (insert pairs i (key, value)) (suc i)
  pub removed_is : without_key key pairs ≡ remove pairs i

-- no pair has the key, and its place is here
pub record IsGapAt (key : List ℕ) (pairs : PairList) (i : ℕ) : Type 0 where
  pub within : i ≤ length pairs
  pub set_is : (value : List ℕ) → with_pair key value pairs ≡ insert pairs i (key, value)
  pub none : without_key key pairs ≡ pairs
