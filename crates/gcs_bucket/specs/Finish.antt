-- The finish of an upload: what was decided and prepared before ageing.
use Rattle.std.specs.Prelude.{ℕ, Result, Ok, Err}
use Rattle.std.specs.Option.{IfSome}
use Rattle.gcs_meaning.specs.declared.version.Row.{Row}
use Rattle.gcs_meaning.specs.declared.command.Answer.{Answer}
use Rattle.gcs_meaning.specs.Finish.{done_state}
use Rattle.gcs_meaning.specs.Slot.{Slot}
use Rattle.gcs_meaning.specs.Uploads.{IsCompleteIf, upload_of}
use Rattle.gcs_bucket.specs.declared.finish.Finished.{Finished}
use Rattle.gcs_bucket.specs.Alive.{on_bucket}
use Rattle.gcs_bucket.specs.Put.{decided_put, IsNextAlive}

-- what a put answers and leaves, and with it the upload of this number done
abbrev pub with_done : ℕ → Row → Answer × Slot → Answer × Slot
with_done number row put = (put.0, on_bucket (λ s. done_state s number row) put.1)

-- what a decision at t comes to: the answer, or the version is added and its upload is done
abbrev pub decided_finish : Result Finished Answer → ℕ → ℕ → Slot → Answer × Slot
decided_finish (Err answer) t number slot = (answer, slot)
decided_finish (Ok finished) t number slot = with_done number finished.kept (decided_put (Ok finished.made) t slot)

-- the version that was prepared can be added to the bucket that is alive, and the upload of this number is complete there
pub record IsFinishing (finished : Finished) (number : ℕ) (slot : Slot) : Type 0 where
  pub next : IsNextAlive finished.made finished.kept.name slot
  pub complete : IfSome slot.alive (λ s. IsCompleteIf (upload_of number s.uploads))
