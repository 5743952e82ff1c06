-- What is known once a store was closed.
use Rattle.std.specs.Prelude.{◌≡◌, ◌≤◌, ℕ, List, [], length, map}
use mathlib.Core.Option.{some}
use lib.ListN.{get_elem?}
use Rattle.gcs_chunks.specs.Content.{ChunksValue}
use Rattle.gcs_meaning.specs.declared.command.Answer.{Answer}
use Rattle.gcs_meaning.specs.declared.command.Command.{Command}
use Rattle.gcs_meaning.specs.declared.command.Entry.{Entry}
use Rattle.gcs_meaning.specs.Desk.{AreNumbered, entries_of}
use Rattle.gcs_meaning.specs.History.{AreDistinct}
use Rattle.gcs_turn.specs.declared.object.Object.{Ghosts}
use Rattle.gcs_turn.specs.declared.seats.Pass.{Pass}
use Rattle.gcs_turn.specs.declared.view.Joined.{Joined}
use Rattle.gcs_turn.specs.Passes.{callers_of, made_with, mine_of, own_of, taken_of}
use Rattle.gcs_turn.specs.Turning.{Begins, Made, calls_by}
use Rattle.gcs_store.specs.Entries.{turned}
use Rattle.gcs_store.specs.declared.passes.Passes.{Passes}
use Rattle.gcs_store.specs.Passes.{rows_of}
use Rattle.gcs_store.specs.Shard.{ShardValue}
use Rattle.gcs_store.specs.Store.{Row, ShardTurn, StoreValue, home_of, row_at}

-- what the caller saw begins the history, and its entries there are those that it made, each once
pub record IsPartOf (history : List Entry) (caller : ℕ) (row : Row) : Type 0 where
  pub seen : Begins history row.0
  pub own : entries_of caller history ≡ row.1
  pub numbered : AreNumbered 0 row.1

-- the history of the shard s is one for all callers, whose passes these were: each has its part of it, and nobody else has an entry
pub record IsOneHistory (s : ℕ) (all : List Passes) (history : List Entry) : Type 0 where
  pub parts : (i : ℕ) (passes : Passes) → get_elem? all i ≡ some passes → IsPartOf history i (row_at (rows_of passes) s)
  pub known : (c : ℕ) → length all ≤ c → entries_of c history ≡ []
  pub distinct : AreDistinct history

module _ {g : Ghosts ShardValue Command Answer ChunksValue} where
  -- the shard comes from a turn that was closed by its first pass
  pub record IsClosedAs (turn : ShardTurn) (first : Pass ShardValue Command Answer ChunksValue g) (shard : ShardValue) : Type 0 where
    pub home : home_of shard ≡ home_of (made_with turn)
    pub first_made : Made (map turned shard.history) 0 (own_of first) (mine_of first)
    pub taken_made : (k : ℕ) (x : Joined Command) → get_elem? (taken_of first) k ≡ some x → Made (map turned shard.history) x.caller x.seen x.mine
    pub all : (c : ℕ) → callers_of turn ≤ c → calls_by c (map turned shard.history) ≡ []

-- the shards of the store, each with its one history
pub record AreClosed (store : StoreValue) (all : List Passes) (shards : List ShardValue) : Type 0 where
  pub sixteen : length shards ≡ 16
  pub chunks : (s : ℕ) (shard : ShardValue) → get_elem? shards s ≡ some shard → shard.chunks ≡ store.chunks
  pub histories : (s : ℕ) (shard : ShardValue) → get_elem? shards s ≡ some shard → IsOneHistory s all shard.history
