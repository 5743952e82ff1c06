-- A store that callers share, and what a caller has seen of it.
use Rattle.std.specs.Prelude.{◌≡◌, ◌≤◌, ℕ, List, [], length, map, slice_index_or}
use mathlib.Core.Option.{some}
use lib.ListN.{get_elem?}
use Rattle.atomic_table.specs.Seated.{TableId}
use Rattle.gcs_chunks.specs.Content.{ChunksValue}
use Rattle.gcs_meaning.specs.declared.command.Answer.{Answer}
use Rattle.gcs_meaning.specs.declared.command.Command.{Command}
use Rattle.gcs_meaning.specs.declared.command.Entry.{Entry}
use Rattle.gcs_meaning.specs.Desk.{Histories}
use Rattle.gcs_turn.specs.declared.object.Object.{Ghosts}
use Rattle.gcs_turn.specs.declared.seats.Pass.{Pass}
use Rattle.gcs_turn.specs.declared.turn.Turn.{Turn}
use Rattle.gcs_turn.specs.Passes.{made_with, callers_of, caller_of, seen_of, mine_of}
use Rattle.gcs_turn.specs.Seating.{OfTurn}
use Rattle.gcs_store.specs.Entries.{meant}
use Rattle.gcs_store.specs.Shard.{ShardValue}

-- the value of a store: the chunks in which its contents lie, how many callers take turns, and the tables of its shards' turns
pub record StoreValue : Type 0 where
  pub chunks : ChunksValue
  pub callers : ℕ
  pub tables : List TableId

-- what a caller has seen of a shard, and its own entries there
abbrev pub Row : Type 0
Row = List Entry × List Entry

-- the row of a shard, and beyond the shards one without an entry
abbrev pub row_at : List Row → ℕ → Row
row_at rows s = slice_index_or rows s ([], [])

-- in each shard, what the caller has seen
abbrev pub seen_in : List Row → Histories
seen_in rows s = (row_at rows s).0

-- in each shard, the caller's own entries
abbrev pub mine_in : List Row → Histories
mine_in rows s = (row_at rows s).1

-- the value of a desk at a store: its home is the store
pub record SharedDeskValue : Type 0 where
  pub home : StoreValue
  pub caller : ℕ
  pub rows : List Row

-- what no call changes of a shard: the chunks in which its contents lie
abbrev pub home_of : ShardValue → ChunksValue
home_of shard = shard.chunks

-- the turn of a shard
abbrev pub ShardTurn : Type 0
ShardTurn = Turn ShardValue Command Answer ChunksValue

-- the table of a turn
abbrev pub table_of : {O C A H : Type 0} → Turn O C A H → TableId
table_of turn = turn.table.shared.table_id

-- the store of these turns
abbrev pub store_at : ChunksValue → ℕ → List ShardTurn → StoreValue
store_at chunks callers turns = record { chunks = chunks; callers = callers; tables = map table_of turns }

-- sixteen turns of so many callers, on shards whose contents lie in the chunks
pub record AreTurns (chunks : ChunksValue) (callers : ℕ) (turns : List ShardTurn) : Type 0 where
  pub sixteen : length turns ≡ 16
  pub least : 1 ≤ callers
  pub most : callers ≤ 65
  pub each : (s : ℕ) (turn : ShardTurn) → get_elem? turns s ≡ some turn → (home_of (made_with turn) ≡ chunks) × (callers_of turn ≡ callers)

module _ {g : Ghosts ShardValue Command Answer ChunksValue} where
  -- what a pass tells of its shard
  abbrev pub row_of : Pass ShardValue Command Answer ChunksValue g → Row
  row_of pass = (map meant (seen_of pass), map meant (mine_of pass))

  -- the pass is the caller's at this turn of the store
  abbrev pub IsSeatOf : StoreValue → ℕ → TableId → Pass ShardValue Command Answer ChunksValue g → Type 0
  IsSeatOf store caller table pass = OfTurn table store.chunks store.callers pass.seat × (caller_of pass ≡ caller)

  -- the caller's passes, one at each of the first turns of the store
  pub record AreSeatsOf (store : StoreValue) (caller : ℕ) (seats : List (Pass ShardValue Command Answer ChunksValue g)) : Type 0 where
    pub as_many : length seats ≡ length store.tables
    pub each : (s : ℕ) (table : TableId) (pass : Pass ShardValue Command Answer ChunksValue g) → get_elem? store.tables s ≡ some table → get_elem? seats s ≡ some pass → IsSeatOf store caller table pass
