-- What the fields of a bucket that is alive stand for, and what is asked of them.
use Rattle.std.specs.Prelude.{◌≤◌, ◌<◌, ◌^◌, length, ℕ, List, [], Option, Some, None}
use Rattle.std.specs.List.{AllByRecursion}
use Rattle.std.specs.Option.{IfSome, option_map}
use Rattle.gcs_meaning.specs.declared.version.Row.{Row}
use Rattle.gcs_meaning.specs.Content.{bytes_in}
use Rattle.gcs_meaning.specs.Policy.{AreInLimits}
use Rattle.gcs_meaning.specs.Tests.{largest_object}
use Rattle.gcs_meaning.specs.Slot.{Grave, Slot, State}
use Rattle.gcs_versions.specs.Kept.{IsReadyToPut, IsReadyToRetire}
use Rattle.gcs_bucket.specs.declared.alive.State.{State as Fields}

-- the state that a bucket's fields stand for
abbrev pub state_of : Fields → State
state_of b = record { settings = b.settings; generation = b.generation; metageneration = b.metageneration; created = b.created; updated = b.updated; rows = b.rows.rows; uploads = b.uploads }

-- the bucket that is alive, if one is
abbrev pub alive_of : Option Fields → Option State
alive_of None = None
alive_of (Some b) = Some (state_of b)

-- the versions of the bucket that is alive, and none where none is
abbrev pub rows_of : Option State → List Row
rows_of None = []
rows_of (Some s) = s.rows

-- the settings of a bucket that is alive are in the limits
abbrev pub AreLimited : Option State → Type 0
AreLimited alive = IfSome alive (λ s. AreInLimits s.settings)

-- and so are those of the deleted buckets
abbrev pub GravesAreLimited : List Grave → Type 0
GravesAreLimited graves = AllByRecursion (λ g. AreInLimits g.state.settings) graves

-- the retention of a version began so early that its end is a moment
abbrev pub IsEarly : Row → Type 0
IsEarly row = row.retention_start < 2 ^ 62

-- that of each version did
abbrev pub AreEarly : List Row → Type 0
AreEarly rows = AllByRecursion IsEarly rows

-- the generations of the versions are at most the last one
abbrev pub AreCounted : ℕ → List Row → Type 0
AreCounted last rows = AllByRecursion (λ row. row.generation ≤ last) rows

-- the versions are no larger than an object may be
abbrev pub AreSized : List Row → Type 0
AreSized rows = AllByRecursion (λ row. length (bytes_in row.hashed) ≤ largest_object) rows

-- the slot whose bucket, if one is alive, became this
abbrev pub on_bucket : (State → State) → Slot → Slot
on_bucket becomes slot = record slot { alive = option_map becomes slot.alive }

-- a version of the name can be put into the bucket that is alive, if one is, without taking memory
abbrev pub CanPut : List ℕ → Option Fields → Type 0
CanPut name alive = IfSome alive (λ b. IsReadyToPut name b.rows)

-- and one can be retired
abbrev pub CanRetire : List ℕ → Option Fields → Type 0
CanRetire name alive = IfSome alive (λ b. IsReadyToRetire name b.rows)
