-- What holds of every slot that steps can reach: its counters are not behind what it has, its versions are in order with at most one
-- live of a name, and its sizes are in the limits.
use Rattle.std.specs.Prelude.{◌≢◌, ◌≤◌, ◌<◌, ℕ, length, List, [], ◌∷◌, ◌++◌, map, Option, Some, None}
use Rattle.std.specs.List.{AllByRecursion}
use Rattle.std.specs.Option.{IfSome}
use Rattle.gcs_chunks.specs.Content.{bytes_of}
use Rattle.gcs_meaning.specs.declared.version.Kind.{Kind}
use Rattle.gcs_meaning.specs.declared.version.Kind.TheVariants.{Live, Noncurrent, Soft}
use Rattle.gcs_meaning.specs.declared.version.Row.{Row}
use Rattle.gcs_meaning.specs.declared.uploading.Upload.{Upload}
use Rattle.gcs_meaning.specs.declared.uploading.UploadState.{UploadState}
use Rattle.gcs_meaning.specs.declared.uploading.UploadState.TheVariants.{Running, Done, Cancelled, Expired}
use Rattle.gcs_meaning.specs.Content.{bytes_in}
use Rattle.gcs_meaning.specs.Order.{AreSingle, Rise}
use Rattle.gcs_meaning.specs.Tests.{largest_object}
use Rattle.gcs_meaning.specs.Slot.{State, Grave, Slot}

-- the moment since when a version is what it is, where that isn't its update
abbrev pub kind_began : Kind → ℕ
kind_began Live = 0
kind_began (Noncurrent at) = at
kind_began (Soft at hard) = at

-- a version of a slot with this last object generation and last moment
pub record IsFitRow (last_object last_moment : ℕ) (row : Row) : Type 0 where
  pub generation : row.generation ≤ last_object
  pub created : row.created ≤ last_moment
  pub updated : row.updated ≤ last_moment
  pub start : row.retention_start ≤ last_moment
  pub began : kind_began row.kind ≤ last_moment
  pub size : length (bytes_in row.hashed) ≤ largest_object

-- the version that an upload made, where it is done
abbrev pub IsFitEnd : ℕ → ℕ → UploadState → Type 0
IsFitEnd last_object last_moment Running = Unit {0}
IsFitEnd last_object last_moment (Done row) = IsFitRow last_object last_moment row
IsFitEnd last_object last_moment Cancelled = Unit {0}
IsFitEnd last_object last_moment Expired = Unit {0}

-- an upload with its number
pub record IsFitUpload (last_object last_moment next_upload : ℕ) (numbered : ℕ × Upload) : Type 0 where
  pub number : numbered.0 < next_upload
  pub start : numbered.1.start ≤ last_moment
  pub kept : length (bytes_of numbered.1.content) ≤ largest_object
  pub end : IsFitEnd last_object last_moment numbered.1.state

-- a bucket, alive or in a grave
pub record IsFitState (last_object last_moment next_upload : ℕ) (s : State) : Type 0 where
  pub created : s.created ≤ last_moment
  pub updated : s.updated ≤ last_moment
  pub soft : s.settings.soft_since ≤ last_moment
  pub policy : IfSome s.settings.retention (λ policy. policy.since ≤ last_moment)
  pub rows : AllByRecursion (IsFitRow last_object last_moment) s.rows
  pub rise : Rise s.rows
  pub single : AreSingle s.rows
  pub uploads : AllByRecursion (IsFitUpload last_object last_moment next_upload) s.uploads

-- a version that is soft-deleted, and gone at this moment
abbrev pub IsSoftUntil : ℕ → Kind → Type 0
IsSoftUntil last Live = ⊥
IsSoftUntil last (Noncurrent at) = ⊥
IsSoftUntil last (Soft at hard) = hard ≤ last

-- a deleted bucket: its versions are soft-deleted, and gone at its hard time
pub record IsFitGrave (last_object last_moment next_upload : ℕ) (g : Grave) : Type 0 where
  pub state : IsFitState last_object last_moment next_upload g.state
  pub soft : AllByRecursion (λ row. IsSoftUntil g.hard row.kind) g.state.rows

-- the generation of the bucket that is alive
abbrev pub living_generation : Option State → List ℕ
living_generation None = []
living_generation (Some s) = s.generation ∷ []

-- the generations of the bucket that is alive and of the deleted ones
abbrev pub bucket_generations : Slot → List ℕ
bucket_generations slot = living_generation slot.alive ++ map (λ g. g.state.generation) slot.graves

-- no two of the numbers are equal
abbrev pub Differ : List ℕ → Type 0
Differ [] = Unit {0}
Differ (n ∷ ns) = AllByRecursion (λ m. m ≢ n) ns × Differ ns

-- what every slot that steps can reach is; not every slot that is so can be reached
pub record IsFit (slot : Slot) : Type 0 where
  pub alive : IfSome slot.alive (IsFitState slot.last_object slot.last_moment slot.next_upload)
  pub graves : AllByRecursion (IsFitGrave slot.last_object slot.last_moment slot.next_upload) slot.graves
  pub counted : AllByRecursion (λ generation. generation ≤ slot.last_bucket) (bucket_generations slot)
  pub differ : Differ (bucket_generations slot)
