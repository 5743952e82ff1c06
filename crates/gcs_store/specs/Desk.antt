-- A desk: its chunks and its shards.
use Rattle.std.specs.Prelude.{◌≡◌, ℕ, List, [], length, slice_index_or}
use Rattle.std.specs.List.{AllByRecursion}
use Rattle.gcs_chunks.specs.Content.{ChunksValue}
use Rattle.gcs_meaning.specs.declared.command.Entry.{Entry}
use Rattle.gcs_meaning.specs.Desk.{AreNumbered}
use Rattle.gcs_store.specs.Shard.{ShardValue}

-- the value of a desk: the chunks in which its contents lie, and its shards
pub record DeskValue : Type 0 where
  pub chunks : ChunksValue
  pub shards : List ShardValue

-- a shard without an entry
abbrev pub empty_shard : ChunksValue → ShardValue
empty_shard chunks = record { chunks = chunks; history = [] }

-- the shard of a number, and beyond the shards one without an entry
abbrev pub shard_at : DeskValue → ℕ → ShardValue
shard_at desk s = slice_index_or desk.shards s (empty_shard desk.chunks)

-- the history of a shard
abbrev pub history_at : DeskValue → ℕ → List Entry
history_at desk s = (shard_at desk s).history

-- sixteen shards over the desk's chunks, whose entries are of caller 0, numbered from 0 in each
pub record AreOwn (desk : DeskValue) : Type 0 where
  pub sixteen : length desk.shards ≡ 16
  pub chunks : (s : ℕ) → (shard_at desk s).chunks ≡ desk.chunks
  pub own : (s : ℕ) → AllByRecursion (λ e. e.caller ≡ 0) (history_at desk s)
  pub numbered : (s : ℕ) → AreNumbered 0 (history_at desk s)
