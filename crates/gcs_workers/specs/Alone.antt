-- The program over one connection.
use Rattle.std.specs.Prelude.{◌≡◌, ◌≢◌, ◌⊎◌, ℕ, List, [], ◌∷◌, Bool, Option, Some, None}
use Rattle.gcs_io.specs.Told.{Gains}
use Rattle.gcs_http_in.specs.declared.limits.Limits.{Limits}
use Rattle.gcs_meaning.specs.declared.command.Command.TheVariants.{BucketInsert}
use Rattle.gcs_meaning.specs.Moment.{shard_number}
use Rattle.gcs_meaning.specs.Desk.{Histories, AreLists}
use Rattle.gcs_rewrite.specs.Inserts.{usual_settings}
use Rattle.gcs_session.specs.declared.ends.SessionEnd.{SessionEnd}
use Rattle.gcs_session.specs.Connection.{IsServed}
use Rattle.gcs_workers.specs.Refusal.{AreTurnedAway}
use Rattle.gcs_workers.specs.Status.{session_status, status_number}
use Rattle.gcs_workers.specs.Told.{Told, outside_of}

-- the histories at the start: empty, or with the insert of the named bucket alone, as entry 0 of caller 0
abbrev pub IsOpened : Option (List ℕ) → List ℕ → Histories → Type 0
IsOpened None opening start = (opening ≡ []) × ((s : ℕ) → start s ≡ [])
IsOpened (Some name) opening start =
    (moment : ℕ) × (opening ≡ moment ∷ [])
    × (start (shard_number name) ≡ record { caller = 0; number = 0; moment = moment; command = BucketInsert name usual_settings } ∷ [])
    × ((s : ℕ) → s ≢ shard_number name → start s ≡ [])

-- one connection was served over histories that hold the entries of caller 0 alone
pub record IsSolo (limits : Limits) (name : Option (List ℕ)) (a b : Told) (ended : Bool) (status : ℕ) : Type 0 where
  pub opening : List ℕ
  pub mid : Option (List ℕ)
  pub clocked : Gains a.given mid opening
  pub start : Histories
  pub opened : IsOpened name opening start
  pub begun : AreLists 0 start start
  pub last : Histories
  pub end : SessionEnd
  pub served : IsServed limits 0 (outside_of (record a { given = mid }) start start) (outside_of b last last) ended end
  pub status_is : status ≡ status_number (session_status end)

-- or memory ran out at the opening
abbrev pub IsAlone : Limits → Option (List ℕ) → Told → Told → Bool → ℕ → Type 0
IsAlone limits name a b ended status =
    IsSolo limits name a b ended status ⊎ ((status ≡ 5) × (b.left ≡ a.left) × (b.taken ≡ a.taken) × (b.written ≡ a.written))

-- nothing was read or written but the line on the error sink
abbrev pub IsRefused : Told → Told → Option (List ℕ) → Option (List ℕ) → ℕ → Type 0
IsRefused a b wrong wrong' status =
    (b.left ≡ a.left) × (b.taken ≡ a.taken) × (b.written ≡ a.written) × (b.given ≡ a.given) × AreTurnedAway wrong wrong' status
