-- What a caller of the store knows: what no call changes, and in each shard the history that it has seen, and its own entries in it.
use Rattle.std.specs.Prelude.{◌≡◌, ◌≢◌, ℕ, ◌+◌, nat_eq, List, [], ◌∷◌, ◌++◌, length, Option, Some, None, if◌then◌else◌, Result, Ok, Err}
use Rattle.std.specs.List.{AllByRecursion}
use Rattle.gcs_chunks.specs.Content.{ChunksValue}
use Rattle.gcs_meaning.specs.declared.command.Answer.{Answer}
use Rattle.gcs_meaning.specs.declared.command.Command.{Command}
use Rattle.gcs_meaning.specs.declared.command.Command.TheVariants.{BucketList}
use Rattle.gcs_meaning.specs.declared.command.Entry.{Entry}
use Rattle.gcs_meaning.specs.declared.desk.Unheld.{Unheld}
use Rattle.gcs_meaning.specs.Moment.{shard_number}
use Rattle.gcs_meaning.specs.History.{AreDistinct, answer_of, bucket_of}

-- what no call of a desk changes: the caller's number, the chunks in which its contents lie, and the desk's home
pub record Standing (H : Type 0) : Type 0 where
  pub caller : ℕ
  pub chunks : ChunksValue
  pub home : H

-- a history for each shard
abbrev pub Histories : Type 0
Histories = ℕ → List Entry

-- the bucket that is named, if one is, belongs to the shard
abbrev pub IsNamedIn : ℕ → Option (List ℕ) → Type 0
IsNamedIn shard (Some bucket) = shard ≡ shard_number bucket
IsNamedIn shard None = Unit {0}

-- a list of buckets is asked of the shard that it names
abbrev pub IsListedIn : ℕ → Command → Type 0
IsListedIn shard (BucketList own prefix after most) = shard ≡ own
IsListedIn shard _ = Unit {0}

-- the command belongs to the shard
abbrev pub IsOf : ℕ → Command → Type 0
IsOf shard command = IsNamedIn shard (bucket_of command) × IsListedIn shard command

-- the entries of one caller
abbrev pub entries_of : ℕ → List Entry → List Entry
entries_of caller [] = []
entries_of caller (e ∷ es) = if nat_eq e.caller caller then e ∷ entries_of caller es else entries_of caller es

-- the entries are numbered from that number on
abbrev pub AreNumbered : ℕ → List Entry → Type 0
AreNumbered n [] = Unit {0}
AreNumbered n (e ∷ es) = (e.number ≡ n) × AreNumbered (n + 1) es

-- in each shard the caller's entries in what it has seen are its own list, in order and numbered from 0, and no two
-- entries of what it has seen have the same caller and number
pub record AreLists (caller : ℕ) (seen mine : Histories) : Type 0 where
  pub own : (s : ℕ) → entries_of caller (seen s) ≡ mine s
  pub numbered : (s : ℕ) → AreNumbered 0 (mine s)
  pub distinct : (s : ℕ) → AreDistinct (seen s)

-- all lists are as before
pub record AreUnmoved (saw own saw' own' : Histories) : Type 0 where
  pub seen : (s : ℕ) → saw' s ≡ saw s
  pub mine : (s : ℕ) → own' s ≡ own s

-- in one shard entries of others came and then one of the caller's, with its answer there; other shards stay
pub record IsStepped (caller : ℕ) (saw own saw' own' : Histories) (shard moment : ℕ) (command : Command) (a : Answer) : Type 0 where
  pub others : List Entry
  pub foreign : AllByRecursion (λ e. e.caller ≢ caller) others
  pub seen : saw' shard ≡ (saw shard ++ others) ++ record { caller = caller; number = length (own shard); moment = moment; command = command } ∷ []
  pub mine : own' shard ≡ own shard ++ record { caller = caller; number = length (own shard); moment = moment; command = command } ∷ []
  pub distinct : AreDistinct (saw' shard)
  pub answer : a ≡ answer_of (saw shard ++ others) moment command
  pub elsewhere : (s : ℕ) → s ≢ shard → (saw' s ≡ saw s) × (own' s ≡ own s)

-- what a call leaves: its step, or for want of memory all lists as before, and the command comes back
abbrev pub Moves : ℕ → Histories → Histories → Histories → Histories → ℕ → ℕ → Command → Result Answer Unheld → Type 0
Moves caller saw own saw' own' shard moment command (Ok a) = IsStepped caller saw own saw' own' shard moment command a
Moves caller saw own saw' own' shard moment command (Err e) = AreUnmoved saw own saw' own' × (e.command ≡ command)
