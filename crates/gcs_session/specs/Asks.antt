-- How a history answers the steps of a request.
use Rattle.std.specs.Prelude.{◌≡◌, ◌≢◌, ℕ, ◌+◌, Bool, true, false, List, [], ◌∷◌, ◌++◌}
use Rattle.gcs_meaning.specs.declared.command.Answer.{Answer}
use Rattle.gcs_meaning.specs.declared.command.Command.{Command}
use Rattle.gcs_meaning.specs.Desk.{Histories}
use Rattle.gcs_meaning.specs.History.{AnswersAt}
use Rattle.gcs_rewrite.specs.declared.moves.Move.TheVariants.{Ask}
use Rattle.gcs_rewrite.specs.declared.request.Request.{Request}
use Rattle.gcs_rewrite.specs.Scripts.{script}

-- a step was made
abbrev pub is_some_step : List Answer → Bool
is_some_step [] = false
is_some_step (a ∷ answers) = true

-- a number of entries for each shard
abbrev pub Counts : Type 0
Counts = ℕ → ℕ

-- the same number for each shard
abbrev pub SameCounts : Counts → Counts → Type 0
SameCounts from to = (s : ℕ) → to s ≡ from s

-- one entry more in one shard
pub record IsOneMore (from to : Counts) (shard : ℕ) : Type 0 where
  pub here : to shard ≡ from shard + 1
  pub elsewhere : (s : ℕ) → s ≢ shard → to s ≡ from s

-- after the answers so far the script asks further, and each further answer is the one at the caller's next entry in the
-- shard asked, which has this moment and the command asked
abbrev pub Asks : Request → List Answer → List Answer → ℕ → Histories → ℕ → Counts → Counts → Type 0
Asks q so_far [] moment histories caller from to = SameCounts from to
Asks q so_far (a ∷ further) moment histories caller from to =
    (shard : ℕ) × (command : Command) × (mid : Counts)
    × (script q so_far ≡ Ask shard command)
    × AnswersAt (histories shard) caller (from shard) moment command a
    × IsOneMore from mid shard
    × Asks q (so_far ++ a ∷ []) further moment histories caller mid to
