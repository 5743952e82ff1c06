-- What running a script leaves.
use Rattle.std.specs.Prelude.{◌≡◌, ℕ, List, [], ◌++◌, length}
use Rattle.gcs_meaning.specs.declared.command.Answer.{Answer}
use Rattle.gcs_meaning.specs.declared.command.Entry.{Entry}
use Rattle.gcs_meaning.specs.Desk.{Histories, AreLists}
use Rattle.gcs_rewrite.specs.declared.moves.Move.TheVariants.{Say}
use Rattle.gcs_rewrite.specs.declared.request.Request.{Request}
use Rattle.gcs_rewrite.specs.Scripts.{script}
use Rattle.gcs_session.specs.declared.answering.Ran.{Ran}
use Rattle.gcs_session.specs.declared.answering.Ran.TheVariants.{Said, Wanting}
use Rattle.gcs_session.specs.Asks.{Asks, Counts, is_some_step}

-- how many entries there are, in each shard
abbrev pub lengths : Histories → Counts
lengths h = λ s. length (h s)

-- each old history is a prefix of the new one
abbrev pub Grows : Histories → Histories → Type 0
Grows old new = (s : ℕ) → (more : List Entry) × (new s ≡ old s ++ more)

-- the histories go on: each old one is a prefix of the new one, and the lists stay those of the caller
pub record GoesOn (caller : ℕ) (saw own saw' own' : Histories) : Type 0 where
  pub grows : Grows saw saw'
  pub sound : AreLists caller saw own → AreLists caller saw' own'

-- what a run says, or that memory ran out, and whether it made a step
abbrev pub RanTo : Request → ℕ → Histories → ℕ → Counts → Ran → Counts → Type 0
RanTo q moment histories caller from (Said reply stepped) to =
    (answers : List Answer) × Asks q [] answers moment histories caller from to × (script q answers ≡ Say reply) × (stepped ≡ is_some_step answers)
RanTo q moment histories caller from (Wanting stepped) to =
    (answers : List Answer) × Asks q [] answers moment histories caller from to × (stepped ≡ is_some_step answers)
