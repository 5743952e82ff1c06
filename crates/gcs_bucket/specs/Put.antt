-- A new version: what was decided and prepared before ageing.
use Rattle.std.specs.Prelude.{◌≡◌, ◌<◌, ℕ, true, List, Option, Some, None, Result, Ok, Err}
use Rattle.std.specs.List.{AllByRecursion}
use Rattle.std.specs.Option.{IfSome, option_map}
use Rattle.gcs_meaning.specs.declared.reason.Reason.{Reason}
use Rattle.gcs_meaning.specs.declared.version.Row.{Row}
use Rattle.gcs_meaning.specs.declared.command.Answer.{Answer}
use Rattle.gcs_meaning.specs.declared.command.Answer.TheVariants.{Object, Refused}
use Rattle.gcs_meaning.specs.Choosing.{is_live, live_row}
use Rattle.gcs_meaning.specs.Order.{IsNumbered}
use Rattle.gcs_meaning.specs.Put.{put_state}
use Rattle.gcs_meaning.specs.Slot.{Slot, State}
use Rattle.gcs_bucket.specs.Alive.{on_bucket}
use Rattle.gcs_bucket.specs.declared.put.Prepared.{Prepared}

-- the generation of a version that was found
abbrev pub generation_found : Option Row → Option ℕ
generation_found found = option_map (λ row. row.generation) found

-- the tests of a put, on the live version of the name: the first that fails, or its generation
abbrev pub tested_put : Option Reason → Option Row → Result (Option ℕ) Reason
tested_put (Some reason) live = Err reason
tested_put None live = Ok (generation_found live)

-- the row can be added to the bucket once the live version of its name, which has this generation, is retired
pub record IsNext (row : Row) (live : Option ℕ) (s : State) : Type 0 where
  pub kind : is_live row.kind ≡ true
  pub numbered : IsNumbered row
  pub above : AllByRecursion (λ other. other.generation < row.generation) s.rows
  pub live_is : live ≡ generation_found (live_row row.name s.rows)

-- the row of that name that was prepared can be added to the bucket that is alive
pub record IsNextAlive (made : Prepared) (name : List ℕ) (slot : Slot) : Type 0 where
  pub named : made.row.name ≡ name
  pub next : IfSome slot.alive (IsNext made.row made.live)

-- what a decision at t comes to: the refusal, or the version is added
abbrev pub decided_put : Result Prepared Reason → ℕ → Slot → Answer × Slot
decided_put (Err reason) t slot = (Refused reason, slot)
decided_put (Ok made) t slot =
    (Object made.shown made.settings, record (on_bucket (λ s. put_state s t made.row) slot) { last_object = made.row.generation })
