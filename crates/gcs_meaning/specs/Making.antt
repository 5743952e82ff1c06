-- The versions and the buckets that steps make, and that their generations rise.
use Rattle.std.specs.Prelude.{◌≡◌, ◌≤◌, ◌<◌, ◌⊎◌, ℕ, Bool, true, false, List, [], ◌∷◌, ◌++◌, Option, Some, None}
use Rattle.gcs_meaning.specs.declared.command.Answer.{Answer}
use Rattle.gcs_meaning.specs.declared.command.Answer.TheVariants.{Object}
use Rattle.gcs_meaning.specs.declared.command.Command.{Command}
use Rattle.gcs_meaning.specs.declared.command.Command.TheVariants.{Put, Compose, Restore, Finish}
use Rattle.gcs_meaning.specs.declared.command.Entry.{Entry}
use Rattle.gcs_meaning.specs.declared.uploading.Upload.{Upload}
use Rattle.gcs_meaning.specs.declared.version.Row.{Row}
use Rattle.gcs_meaning.specs.Uploads.{is_running, upload_of}
use Rattle.gcs_meaning.specs.Slot.{State, Slot}
use Rattle.gcs_meaning.specs.Keeping.{HoldsOfOne, IsOneOf, buckets_of}
use Rattle.gcs_meaning.specs.Step.{step}

-- the upload is there, and runs
abbrev pub runs : Option Upload → Bool
runs None = false
runs (Some upload) = is_running upload.state

-- the upload of this number runs in the bucket that is alive
abbrev pub runs_in : Option State → ℕ → Bool
runs_in None number = false
runs_in (Some s) number = runs (upload_of number s.uploads)

-- the command makes a version where it answers one. A finish answers an older one where its upload is done already
abbrev pub makes_version : Slot → Command → Bool
makes_version slot (Put bucket name pre meta hashed components expect) = true
makes_version slot (Compose bucket name pre meta parts) = true
makes_version slot (Restore bucket name generation pre) = true
makes_version slot (Finish bucket upload hashed) = runs_in slot.alive upload
makes_version slot _ = false

-- the generation of the version that an answer shows
abbrev pub generations_of : Answer → List ℕ
generations_of (Object row settings) = row.generation ∷ []
generations_of _ = []

-- the generations that one command makes
abbrev pub made_by : Bool → Answer → List ℕ
made_by true answer = generations_of answer
made_by false answer = []

-- the generations of the versions that these entries make on a slot, in order
abbrev pub made_in : Slot → List Entry → List ℕ
made_in slot [] = []
made_in slot (e ∷ es) =
    made_by (makes_version slot e.command) (step slot e.moment e.command).0 ++ made_in (step slot e.moment e.command).1 es

-- each is greater than the one before, and the first is greater than n
abbrev pub IsRising : ℕ → List ℕ → Type 0
IsRising n [] = Unit {0}
IsRising n (x ∷ xs) = (n < x) × IsRising x xs

-- a version of that name and generation is in one of these buckets
abbrev pub IsVersionIn : List State → Row → Type 0
IsVersionIn states row = HoldsOfOne (λ s. HoldsOfOne (λ had. (had.name ≡ row.name) × (had.generation ≡ row.generation)) s.rows) states

-- a bucket of that generation is one of these
abbrev pub IsBucketIn : List State → State → Type 0
IsBucketIn states s = HoldsOfOne (λ had. had.generation ≡ s.generation) states

-- each version and each bucket of a slot was there before, or is above all that were made before
pub record NewAreAbove (before after : Slot) : Type 0 where
  pub versions : (s : State) (row : Row) → IsOneOf (buckets_of after) s → IsOneOf s.rows row
      → IsVersionIn (buckets_of before) row ⊎ (before.last_object < row.generation)
  pub buckets : (s : State) → IsOneOf (buckets_of after) s → IsBucketIn (buckets_of before) s ⊎ (before.last_bucket < s.generation)
  pub object : before.last_object ≤ after.last_object
  pub bucket : before.last_bucket ≤ after.last_bucket
