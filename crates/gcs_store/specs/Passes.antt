-- Callers' passes at a store.
use Rattle.std.specs.Prelude.{◌≡◌, ℕ, List, [], ◌∷◌, length, map}
use mathlib.Core.Option.{Option, some, none}
use lib.ListN.{get_elem?}
use Rattle.gcs_chunks.specs.Content.{ChunksValue}
use Rattle.gcs_meaning.specs.declared.command.Answer.{Answer}
use Rattle.gcs_meaning.specs.declared.command.Command.{Command}
use Rattle.gcs_turn.specs.declared.object.Object.{Ghosts}
use Rattle.gcs_turn.specs.declared.seats.Pass.{Pass}
use Rattle.gcs_turn.specs.declared.view.Joined.{Joined}
use Rattle.gcs_turn.specs.Passes.{IsFirstOf, IsPassOf, mine_of, own_of, taken_of, told}
use Rattle.gcs_turn.specs.Passes as at_turn
use Rattle.gcs_store.specs.declared.passes.Passes.{Passes}
use Rattle.gcs_store.specs.Shard.{ShardValue}
use Rattle.gcs_store.specs.Store.{StoreValue, Row, ShardTurn, AreSeatsOf, home_of, row_at, row_of}

-- the number of the caller who holds the passes
abbrev pub caller_of : Passes → ℕ
caller_of passes = passes.caller

-- what the passes tell, shard by shard
abbrev pub rows_of : Passes → List Row
rows_of passes = map row_of passes.seats.items

-- the passes are those of one caller of the store
abbrev pub IsPassesOf : StoreValue → Passes → Type 0
IsPassesOf store passes = AreSeatsOf store (caller_of passes) passes.seats.items

-- these are the passes of all callers of the store, in order
pub record AreAllPassesOf (store : StoreValue) (all : List Passes) : Type 0 where
  pub count : length all ≡ store.callers
  pub each : (i : ℕ) (passes : Passes) → get_elem? all i ≡ some passes → IsPassesOf store passes × (caller_of passes ≡ i)

-- the caller has seen nothing and made no entry
abbrev pub HasSeenNothing : Passes → Type 0
HasSeenNothing passes = (s : ℕ) → row_at (rows_of passes) s ≡ ([], [])

module _ {g : Ghosts ShardValue Command Answer ChunksValue} where
  -- each of the caller's passes is one of its turn
  pub record AreAtTurns (turns : List ShardTurn) (caller : ℕ) (seats : List (Pass ShardValue Command Answer ChunksValue g)) : Type 0 where
    pub as_many : length seats ≡ length turns
    pub each : (s : ℕ) (turn : ShardTurn) (seat : Pass ShardValue Command Answer ChunksValue g) → get_elem? turns s ≡ some turn → get_elem? seats s ≡ some seat → IsPassOf home_of turn seat × (at_turn.caller_of seat ≡ caller)

  -- what the pass that is there tells
  abbrev pub told_in : Option (Pass ShardValue Command Answer ChunksValue g) → Joined Command
  told_in none = record { caller = 0; seen = []; mine = [] }
  told_in (some seat) = told seat

-- at each turn each caller has its pass, in the order of the callers
abbrev pub AreAllAt : List ShardTurn → List Passes → Type 0
AreAllAt turns all = (i : ℕ) (passes : Passes) → get_elem? all i ≡ some passes → AreAtTurns turns i passes.seats.items × (caller_of passes ≡ i)

-- what a caller's pass at the turn s tells
abbrev pub told_at : ℕ → Passes → Joined Command
told_at s passes = told_in (get_elem? passes.seats.items s)

module _ {g : Ghosts ShardValue Command Answer ChunksValue} where
  -- the first caller's passes, each of which has taken in those of all others at its turn
  pub record AreGathered (turns : List ShardTurn) (all : List Passes) (firsts : List (Pass ShardValue Command Answer ChunksValue g)) : Type 0 where
    pub as_many : length firsts ≡ length turns
    pub first : Passes
    pub others : List Passes
    pub all_is : all ≡ first ∷ others
    pub each : (s : ℕ) (turn : ShardTurn) (seat : Pass ShardValue Command Answer ChunksValue g) → get_elem? turns s ≡ some turn → get_elem? firsts s ≡ some seat
        → IsFirstOf turn seat × (taken_of seat ≡ map (told_at s) others) × (own_of seat ≡ (told_at s first).seen) × (mine_of seat ≡ (told_at s first).mine)
