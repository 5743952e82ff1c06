-- A change of a bucket's settings: what was prepared for it, and what was decided on it before ageing.
use Rattle.std.specs.Prelude.{◌≡◌, ℕ, List, Result, Ok, Err}
use Rattle.gcs_meaning.specs.declared.reason.Reason.{Reason}
use Rattle.gcs_meaning.specs.declared.command.Answer.{Answer}
use Rattle.gcs_meaning.specs.declared.command.Answer.TheVariants.{Bucket, Refused}
use Rattle.gcs_meaning.specs.BucketChange.{bucket_change_state}
use Rattle.gcs_meaning.specs.Slot.{Slot, State, bucket_row}
use Rattle.gcs_bucket.specs.Alive.{on_bucket}
use Rattle.gcs_bucket.specs.declared.bucket_change.NewSettings.{NewSettings}

-- the settings, and the bucket to be shown
pub record MakesBucket (made : NewSettings) (name : List ℕ) (s : State) : Type 0 where
  pub settings_is : made.settings ≡ s.settings
  pub shown_is : made.shown ≡ bucket_row name s

-- what a decision at t comes to: the refusal, or the bucket with its settings
abbrev pub decided_settings : Result NewSettings Reason → ℕ → Slot → Answer × Slot
decided_settings (Err reason) t slot = (Refused reason, slot)
decided_settings (Ok made) t slot = (Bucket made.shown, on_bucket (λ s. bucket_change_state s t made.settings) slot)
