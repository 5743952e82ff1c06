-- What is kept under the name of a bucket. All moments are microseconds since 1970.
use Rattle.std.specs.Prelude.{ℕ, List, [], Option, Some, None}
use Rattle.gcs_meaning.specs.declared.settings.Settings.{Settings}
use Rattle.gcs_meaning.specs.declared.version.BucketRow.{BucketRow}
use Rattle.gcs_meaning.specs.declared.version.Row.{Row}
use Rattle.gcs_meaning.specs.Uploads.{UploadMap}

-- a bucket: `rows` rise strictly by name and generation, `uploads` by number
pub record State : Type 0 where
  pub settings : Settings
  pub generation : ℕ
  pub metageneration : ℕ
  pub created : ℕ
  pub updated : ℕ
  pub rows : List Row
  pub uploads : UploadMap

-- a deleted bucket, until its hard time
pub record Grave : Type 0 where
  pub state : State
  pub hard : ℕ

-- a slot: the bucket while it is alive, and what outlives its deletion
pub record Slot : Type 0 where
  pub alive : Option State
  pub graves : List Grave
  pub last_moment : ℕ
  pub last_object : ℕ
  pub last_bucket : ℕ
  pub next_upload : ℕ

-- the slot before the first insert
abbrev pub fresh_slot : Slot
fresh_slot = record { alive = None; graves = []; last_moment = 0; last_object = 0; last_bucket = 0; next_upload = 1 }

-- the slot with this bucket alive
abbrev pub with_alive : State → Slot → Slot
with_alive s slot = record slot { alive = Some s }

-- what is shown of a bucket
abbrev pub bucket_row : List ℕ → State → BucketRow
bucket_row name s = record { name = name; generation = s.generation; metageneration = s.metageneration; created = s.created; updated = s.updated; settings = s.settings }
