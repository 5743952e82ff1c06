-- The insert of a bucket under a name that has none alive.
use Rattle.std.proofs.Common.{◌≡◌, ◌∙◌, sym, ap, refl, ℕ, List, Option, Some, None}
use Rattle.std.specs.Prelude.{false, is_some}
use mathlib.Core.Bool.{true≢false}
use Rattle.gcs_meaning.specs.declared.command.Answer.TheVariants.{Bucket as Shown}
use Rattle.gcs_meaning.specs.declared.settings.Settings.{Settings}
use Rattle.gcs_meaning.specs.declared.version.BucketRow.{BucketRow}
use Rattle.gcs_meaning.specs.Aging.{aged}
use Rattle.gcs_meaning.specs.Insertion.{insert_step, new_state}
use Rattle.gcs_meaning.specs.Moment.{next_generation}
use Rattle.gcs_meaning.specs.Slot.{bucket_row, Slot, State}
use Rattle.gcs_bucket.specs.declared.alive.State.{State as Fields}
use Rattle.gcs_bucket.specs.Alive.{alive_of}

-- the slot at t with the bucket that is made
abbrev pub with_made : Slot → State → ℕ → Slot
with_made slot s generation = record slot { alive = Some s; last_bucket = generation }

-- a bucket is alive where its fields are there
pub alive_some : (alive : Option Fields) → is_some (alive_of alive) ≡ is_some alive
alive_some None = refl
alive_some (Some fields) = refl

-- no bucket is alive: so this one is, and is shown
pub inserted : (slot : Slot) (t : ℕ) (name : List ℕ) (settings : Settings) (generation : ℕ) (s : State) (row : BucketRow) (after : Slot) → is_some slot.alive ≡ false
    → generation ≡ next_generation t slot.last_bucket → s ≡ new_state settings t generation → row ≡ bucket_row name s → after ≡ aged slot t
    → insert_step (aged slot t) t name settings ≡ (Shown row, with_made after s generation)
unfolding insert_step
inserted slot t name settings generation s row after none made new shown same =
    by slot.alive refl none
  where
    given : insert_step (record (aged slot t) { alive = None }) t name settings ≡ (Shown row, with_made after s generation)
    given = ap (λ g. (Shown (bucket_row name (new_state settings t g)), with_made (aged slot t) (new_state settings t g) g)) (sym made)
        ∙ ap (λ w. (Shown (bucket_row name w), with_made (aged slot t) w generation)) (sym new)
        ∙ ap (λ r. (Shown r, with_made (aged slot t) s generation)) (sym shown)
        ∙ ap (λ a. (Shown row, with_made a s generation)) (sym same)

    by : (alive : Option State) → slot.alive ≡ alive → is_some alive ≡ false → insert_step (aged slot t) t name settings ≡ (Shown row, with_made after s generation)
    by None e f = ap (λ (a : Option State). insert_step (aged (record slot { alive = a }) t) t name settings) e ∙ given
    by (Some x) e f = absurd (true≢false f)
