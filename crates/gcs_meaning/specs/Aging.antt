-- Ageing takes away what has passed its hard time, and ends uploads that ran for a week.
use Rattle.std.specs.Prelude.{ℕ, Bool, true, nat_lt, List, map, filter, Option, Some, None}
use Rattle.gcs_meaning.specs.declared.version.Kind.{Kind}
use Rattle.gcs_meaning.specs.declared.version.Kind.TheVariants.{Live, Noncurrent, Soft}
use Rattle.gcs_meaning.specs.declared.version.Row.{Row}
use Rattle.gcs_meaning.specs.Slot.{State, Grave, Slot}
use Rattle.gcs_meaning.specs.Uploads.{aged_uploads}

-- a version stays at t unless it is soft-deleted with a hard time at most t
abbrev pub kind_stays : ℕ → Kind → Bool
kind_stays t Live = true
kind_stays t (Noncurrent at) = true
kind_stays t (Soft at hard) = nat_lt t hard

-- the versions that stay at t
abbrev pub aged_rows : ℕ → List Row → List Row
aged_rows t rows = filter (λ row. kind_stays t row.kind) rows

-- a bucket at t
unfoldable pub aged_state : ℕ → State → State
aged_state t s = record s { rows = aged_rows t s.rows; uploads = aged_uploads t s.uploads }

-- the bucket that is alive at t, if one is
abbrev pub aged_alive : ℕ → Option State → Option State
aged_alive t None = None
aged_alive t (Some s) = Some (aged_state t s)

-- a deleted bucket at t: its own hard time stays
abbrev pub aged_grave : ℕ → Grave → Grave
aged_grave t g = record g { state = aged_state t g.state }

-- the graves that stay at t
unfoldable pub aged_graves : ℕ → List Grave → List Grave
aged_graves t graves = map (aged_grave t) (filter (λ g. nat_lt t g.hard) graves)

-- the slot at t
abbrev pub aged : Slot → ℕ → Slot
aged slot t = record slot { alive = aged_alive t slot.alive; graves = aged_graves t slot.graves; last_moment = t }
