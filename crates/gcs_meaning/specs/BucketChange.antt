-- The change of a bucket's settings (Cloud Storage JSON API, "Buckets: patch" and "Buckets: update").
use Rattle.std.specs.Prelude.{ℕ, ◌+◌, ◌==◌, Bool, false, List, Option, Some, None, if◌then◌else◌, codes}
use Rattle.std.specs.Option.{option_map}
use Rattle.gcs_meaning.specs.declared.changes.SettingsChange.{SettingsChange}
use Rattle.gcs_meaning.specs.declared.settings.Pre.{Pre}
use Rattle.gcs_meaning.specs.declared.settings.Retention.{Retention}
use Rattle.gcs_meaning.specs.declared.settings.Settings.{Settings}
use Rattle.gcs_meaning.specs.declared.reason.Reason.{Reason}
use Rattle.gcs_meaning.specs.declared.command.Answer.{Answer}
use Rattle.gcs_meaning.specs.declared.command.Answer.TheVariants.{Bucket}
use Rattle.gcs_meaning.specs.Changes.{changed, changed_option, changed_pairs, IfSet}
use Rattle.gcs_meaning.specs.Slot.{State, Slot, bucket_row, with_alive}
use Rattle.gcs_meaning.specs.Tests.{or_else}
use Rattle.gcs_meaning.specs.Policy.{bucket_pre_refusal, policy_refusal, IsPeriod, IsDuration}
use Rattle.gcs_meaning.specs.Outcomes.{on_alive, unless}

-- the storage class of a bucket that names none
abbrev pub default_class : List ℕ
default_class = codes "STANDARD"

-- the soft-delete duration of a bucket that names none, in seconds: 7 days
abbrev pub default_soft_seconds : ℕ
default_soft_seconds = 604800

-- the retention period that a change leaves, if any
abbrev pub changed_period : Bool → SettingsChange → Settings → Option ℕ
changed_period whole change settings =
    changed_option whole (option_map (λ policy. policy.period) settings.retention) change.retention_period

-- the soft-delete duration that a change leaves
abbrev pub changed_duration : Bool → SettingsChange → Settings → ℕ
changed_duration whole change settings = changed whole default_soft_seconds settings.soft_seconds change.soft_seconds

-- since when a number is in force: where it is another than it was, since t
abbrev pub since_change : ℕ → ℕ → ℕ → ℕ → ℕ
since_change t had since number = if number == had then since else t

-- a policy of this period, if any. One that was there keeps its lock
abbrev pub policy_of : ℕ → Option Retention → Option ℕ → Option Retention
policy_of t had None = None
policy_of t None (Some period) = Some (record { period = period; since = t; locked = false })
policy_of t (Some policy) (Some period) = Some (record policy { period = period; since = since_change t policy.period policy.since period })

-- what a change at t leaves of a bucket's settings. The location isn't changed
unfoldable pub changed_settings : ℕ → Bool → SettingsChange → Settings → Settings
changed_settings t whole change settings = record settings {
  storage_class = changed whole default_class settings.storage_class change.storage_class;
  labels = changed_pairs whole settings.labels change.labels;
  lifecycle = changed_option whole settings.lifecycle change.lifecycle;
  versioned = changed whole false settings.versioned change.versioned;
  default_event_hold = changed whole false settings.default_event_hold change.default_event_hold;
  retention = policy_of t settings.retention (changed_period whole change settings);
  soft_seconds = changed_duration whole change settings;
  soft_since = since_change t settings.soft_seconds settings.soft_since (changed_duration whole change settings);
}

-- the first test of a bucket's change that fails
unfoldable pub bucket_change_refusal : Pre → Bool → SettingsChange → State → Option Reason
bucket_change_refusal pre whole change s =
    or_else (bucket_pre_refusal pre s.metageneration)
    (policy_refusal s.settings.retention (changed_period whole change s.settings))

-- a bucket with other settings since t
abbrev pub bucket_change_state : State → ℕ → Settings → State
bucket_change_state state t settings = record state { settings = settings; metageneration = state.metageneration + 1; updated = t }

-- the change of a bucket's settings, on a slot that is aged to t
unfoldable pub bucket_change_step : Slot → ℕ → List ℕ → Pre → SettingsChange → Bool → Answer × Slot
bucket_change_step slot t name pre change whole = on_alive slot.alive slot (λ s.
    let after = bucket_change_state s t (changed_settings t whole change s.settings) in
    unless (bucket_change_refusal pre whole change s) slot (Bucket (bucket_row name after), with_alive after slot))

-- the numbers that a change sets are in their limits
pub record AreSetInLimits (change : SettingsChange) : Type 0 where
  pub period : IfSet change.retention_period IsPeriod
  pub duration : IfSet change.soft_seconds IsDuration
