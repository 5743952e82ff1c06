-- The start of a resumable upload (Cloud Storage, "Resumable uploads").
use Rattle.std.specs.Prelude.{ℕ, ◌+◌, List, Option, Some}
use Rattle.std.specs.Ordering.{nat_cmp}
use Rattle.std.specs.BTreeMap.{insert_entry}
use Rattle.gcs_chunks.specs.Content.{no_content}
use Rattle.gcs_meaning.specs.declared.settings.Pre.{Pre}
use Rattle.gcs_meaning.specs.declared.settings.Meta.{Meta}
use Rattle.gcs_meaning.specs.declared.version.Expect.{Expect}
use Rattle.gcs_meaning.specs.declared.uploading.Upload.{Upload}
use Rattle.gcs_meaning.specs.declared.uploading.UploadState.TheVariants.{Running}
use Rattle.gcs_meaning.specs.declared.command.Answer.{Answer}
use Rattle.gcs_meaning.specs.declared.command.Answer.TheVariants.{Started}
use Rattle.gcs_meaning.specs.Slot.{State, Slot}
use Rattle.gcs_meaning.specs.Outcomes.{on_alive}
use Rattle.gcs_meaning.specs.UploadCalls.{with_uploads}

-- an upload that begins at t
abbrev pub new_upload : ℕ → List ℕ → Pre → Meta → Expect → Option ℕ → Upload
new_upload t name pre meta expect total =
    record { name = name; pre = pre; meta = meta; expect = expect; total = total; content = no_content; start = t; state = Running }

-- a bucket with one upload more
abbrev pub start_state : State → ℕ → Upload → State
start_state s number upload = with_uploads (insert_entry nat_cmp s.uploads number upload) s

-- the slot whose bucket has one upload more, under the next number
abbrev pub with_started : Slot → State → Upload → Answer × Slot
with_started slot s upload =
    (Started slot.next_upload, record slot { alive = Some (start_state s slot.next_upload upload); next_upload = slot.next_upload + 1 })

-- the start of an upload, on a slot that is aged to t. What its version is tested for is tested when it is finished
unfoldable pub start_step : Slot → ℕ → List ℕ → Pre → Meta → Expect → Option ℕ → Answer × Slot
start_step slot t name pre meta expect total = on_alive slot.alive slot (λ s. with_started slot s (new_upload t name pre meta expect total))
