-- The insert of a bucket (Cloud Storage JSON API, "Buckets: insert").
use Rattle.std.specs.Prelude.{ℕ, List, [], Option, Some, None}
use Rattle.std.specs.Option.{option_map}
use Rattle.gcs_meaning.specs.declared.settings.Retention.{Retention}
use Rattle.gcs_meaning.specs.declared.settings.Settings.{Settings}
use Rattle.gcs_meaning.specs.declared.reason.Reason.{Reason}
use Rattle.gcs_meaning.specs.declared.reason.Reason.TheVariants.{Exists}
use Rattle.gcs_meaning.specs.declared.command.Answer.{Answer}
use Rattle.gcs_meaning.specs.declared.command.Answer.TheVariants.{Bucket}
use Rattle.gcs_meaning.specs.Moment.{next_generation}
use Rattle.gcs_meaning.specs.Slot.{State, Slot, bucket_row}
use Rattle.gcs_meaning.specs.Outcomes.{unless}

-- a policy that is in force since t
abbrev pub in_force : ℕ → Retention → Retention
in_force t policy = record policy { since = t }

-- settings whose policy and whose soft-delete duration are in force since t
abbrev pub settings_since : ℕ → Settings → Settings
settings_since t settings = record settings { retention = option_map (in_force t) settings.retention; soft_since = t }

-- a bucket as it is inserted
abbrev pub new_state : Settings → ℕ → ℕ → State
new_state settings t generation = record { settings = settings_since t settings; generation = generation; metageneration = 1; created = t; updated = t; rows = []; uploads = [] }

-- a name has one bucket
abbrev pub exists_refusal : Option State → Option Reason
exists_refusal None = None
exists_refusal (Some s) = Some Exists

-- the slot with a new bucket, whose generation is its last one
abbrev pub with_bucket : Slot → List ℕ → State → Answer × Slot
with_bucket slot name s = (Bucket (bucket_row name s), record slot { alive = Some s; last_bucket = s.generation })

-- the insert of a bucket, on a slot that is aged to t
unfoldable pub insert_step : Slot → ℕ → List ℕ → Settings → Answer × Slot
insert_step slot t name settings =
    unless (exists_refusal slot.alive) slot (with_bucket slot name (new_state settings t (next_generation t slot.last_bucket)))
