-- The lock of a bucket's retention policy (Cloud Storage JSON API, "Buckets: lockRetentionPolicy").
use Rattle.std.specs.Prelude.{ℕ, true, List, Option, Some, None}
use Rattle.std.specs.Option.{option_map}
use Rattle.gcs_meaning.specs.declared.settings.Pre.{Pre}
use Rattle.gcs_meaning.specs.declared.settings.Retention.{Retention}
use Rattle.gcs_meaning.specs.declared.settings.Settings.{Settings}
use Rattle.gcs_meaning.specs.declared.reason.Reason.{Reason}
use Rattle.gcs_meaning.specs.declared.reason.Reason.TheVariants.{NoPolicy}
use Rattle.gcs_meaning.specs.declared.command.Answer.{Answer}
use Rattle.gcs_meaning.specs.declared.command.Answer.TheVariants.{Bucket}
use Rattle.gcs_meaning.specs.Slot.{State, Slot, bucket_row, with_alive}
use Rattle.gcs_meaning.specs.Tests.{or_else}
use Rattle.gcs_meaning.specs.Policy.{bucket_pre_refusal}
use Rattle.gcs_meaning.specs.BucketChange.{bucket_change_state}
use Rattle.gcs_meaning.specs.Outcomes.{on_alive, unless}

-- a bucket without a policy has nothing to lock
abbrev pub no_policy_refusal : Option Retention → Option Reason
no_policy_refusal None = Some NoPolicy
no_policy_refusal (Some policy) = None

-- the first test of a lock that fails
unfoldable pub bucket_lock_refusal : Pre → State → Option Reason
bucket_lock_refusal pre s = or_else (bucket_pre_refusal pre s.metageneration) (no_policy_refusal s.settings.retention)

-- a policy that is locked
abbrev pub locked_policy : Retention → Retention
locked_policy policy = record policy { locked = true }

-- settings whose policy is locked
abbrev pub locked_settings : Settings → Settings
locked_settings settings = record settings { retention = option_map locked_policy settings.retention }

-- the lock of a bucket's policy, on a slot that is aged to t. One that is locked already is locked again
unfoldable pub bucket_lock_step : Slot → ℕ → List ℕ → Pre → Answer × Slot
bucket_lock_step slot t name pre = on_alive slot.alive slot (λ s.
    let after = bucket_change_state s t (locked_settings s.settings) in
    unless (bucket_lock_refusal pre s) slot (Bucket (bucket_row name after), with_alive after slot))
