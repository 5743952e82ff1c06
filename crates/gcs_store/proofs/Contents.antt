-- What lies in the chunks of a shard.
use Rattle.std.proofs.Common.{◌≡◌, ℕ, List, sym, subst}
use Rattle.gcs_chunks.specs.Content.{ChunksValue}
use Rattle.gcs_meaning.specs.declared.command.Answer.{Answer}
use Rattle.gcs_meaning.specs.declared.command.Command.{Command}
use Rattle.gcs_meaning.specs.declared.command.Entry.{Entry}
use Rattle.gcs_meaning.specs.Contents.{AnswerLiesIn, CommandLiesIn, SlotLiesIn, SlotsLieIn}
use Rattle.gcs_meaning.specs.History.{Slots, shard_step}
use Rattle.gcs_meaning.specs.Slot.{fresh_slot}
use Rattle.gcs_meaning.proofs.Contents.{contents_stay}
use Rattle.gcs_store.specs.Shard.{IsShard}

-- the slot before the first insert has no content
pub fresh_lies : (chunks : ChunksValue) → SlotLiesIn chunks fresh_slot
fresh_lies chunks = record { alive = tt; graves = tt }

-- the slots of a shard
pub slots_from_shard : (chunks : ChunksValue) (slots : Slots) (history : List Entry) → IsShard chunks slots history → SlotsLieIn chunks slots
slots_from_shard chunks slots history h = subst (SlotsLieIn chunks) (sym h.replayed) (contents_stay.replayed chunks history h.contents)

-- what a shard answers
pub answer_from_shard : (chunks : ChunksValue) (slots new : Slots) (history : List Entry) (moment : ℕ) (command : Command) (answer : Answer) → IsShard chunks slots history
    → CommandLiesIn chunks command → shard_step slots moment command ≡ (answer, new) → AnswerLiesIn chunks answer
answer_from_shard chunks slots new history moment command answer h lies done =
    subst (λ (p : Answer × Slots). AnswerLiesIn chunks p.0) done (contents_stay.shard chunks slots moment command (slots_from_shard chunks slots history h) lies).0
