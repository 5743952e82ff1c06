-- The entries of one bucket in the history of its shard.
use Rattle.std.specs.Prelude.{◌≡◌, ℕ, Bool, false, List, bytes_eq, Option, Some, None}
use Rattle.std.specs.List.{filter}
use Rattle.gcs_meaning.specs.declared.command.Answer.{Answer}
use Rattle.gcs_meaning.specs.declared.command.Command.{Command}
use Rattle.gcs_meaning.specs.declared.command.Entry.{Entry}
use Rattle.gcs_meaning.specs.History.{AnswersAt, answer_of, bucket_of, replay, slot_of}

-- the bucket of this name is named
abbrev pub is_named : List ℕ → Option (List ℕ) → Bool
is_named name None = false
is_named name (Some bucket) = bytes_eq name bucket

-- the entries whose command names the bucket, in order
abbrev pub only : List ℕ → List Entry → List Entry
only name history = filter (λ e. is_named name (bucket_of e.command)) history

-- a bucket's slot after a history, and the answer at each entry that names the bucket, are told by the entries that name it alone
pub record BucketsStandApart : Type 0 where
  pub slot : (name : List ℕ) (history : List Entry) → slot_of name (replay (only name history)) ≡ slot_of name (replay history)
  pub answer : (name : List ℕ) (before : List Entry) (moment : ℕ) (command : Command) → bucket_of command ≡ Some name
      → answer_of (only name before) moment command ≡ answer_of before moment command
  pub answers : (name : List ℕ) (history : List Entry) (caller number moment : ℕ) (command : Command) (a : Answer) → bucket_of command ≡ Some name
      → AnswersAt history caller number moment command a → AnswersAt (only name history) caller number moment command a
