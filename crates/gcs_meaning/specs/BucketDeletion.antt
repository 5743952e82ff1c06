-- The deletion of a bucket, and until when it stays among the deleted ones (Cloud Storage JSON API, "Buckets: delete"; Cloud Storage,
-- "Soft delete").
use Rattle.std.specs.Prelude.{ℕ, ◌+◌, max, nat_lt, List, [], ◌∷◌, Option, Some, None, if◌then◌else◌}
use Rattle.std.specs.List.{list_any}
use Rattle.gcs_meaning.specs.declared.settings.Pre.{Pre}
use Rattle.gcs_meaning.specs.declared.version.Kind.{Kind}
use Rattle.gcs_meaning.specs.declared.version.Kind.TheVariants.{Live, Noncurrent, Soft}
use Rattle.gcs_meaning.specs.declared.version.Row.{Row}
use Rattle.gcs_meaning.specs.declared.reason.Reason.{Reason}
use Rattle.gcs_meaning.specs.declared.reason.Reason.TheVariants.{NotEmpty}
use Rattle.gcs_meaning.specs.declared.command.Answer.{Answer}
use Rattle.gcs_meaning.specs.declared.command.Answer.TheVariants.{Empty}
use Rattle.gcs_meaning.specs.Slot.{State, Grave, Slot}
use Rattle.gcs_meaning.specs.Tests.{or_else}
use Rattle.gcs_meaning.specs.Policy.{bucket_pre_refusal, micros}
use Rattle.gcs_meaning.specs.Choosing.{is_readable}
use Rattle.gcs_meaning.specs.Outcomes.{on_alive, unless}

-- a bucket with a live or noncurrent version stays
abbrev pub empty_refusal : List Row → Option Reason
empty_refusal rows = if list_any (λ row. is_readable row.kind) rows then Some NotEmpty else None

-- the first test of a bucket's deletion that fails
unfoldable pub bucket_delete_refusal : Pre → State → Option Reason
bucket_delete_refusal pre s = or_else (bucket_pre_refusal pre s.metageneration) (empty_refusal s.rows)

-- the hard time of a soft-deleted version, and 0 of another
abbrev pub hard_of : Kind → ℕ
hard_of Live = 0
hard_of (Noncurrent at) = 0
hard_of (Soft at hard) = hard

-- the latest hard time of the versions
abbrev pub latest_hard : List Row → ℕ
latest_hard [] = 0
latest_hard (row ∷ rows) = max (hard_of row.kind) (latest_hard rows)

-- a bucket that is deleted at t: it stays for the soft-delete duration, and as long as one of its versions does
unfoldable pub grave_of : ℕ → State → Grave
grave_of t s = record { state = record s { uploads = [] }; hard = max (t + micros s.settings.soft_seconds) (latest_hard s.rows) }

-- the deleted buckets with one more, unless it is gone at t
abbrev pub with_grave : ℕ → Grave → List Grave → List Grave
with_grave t grave graves = if nat_lt t grave.hard then grave ∷ graves else graves

-- the slot whose bucket is deleted at t
abbrev pub buried : Slot → ℕ → State → Slot
buried slot t s = record slot { alive = None; graves = with_grave t (grave_of t s) slot.graves }

-- the deletion of a bucket, on a slot that is aged to t
unfoldable pub bucket_delete_step : Slot → ℕ → Pre → Answer × Slot
bucket_delete_step slot t pre = on_alive slot.alive slot (λ s. unless (bucket_delete_refusal pre s) slot (Empty, buried slot t s))
