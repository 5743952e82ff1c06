-- The numbers of a slot rise by at most one with each step.
use Rattle.std.proofs.Common.{◌≡◌, ◌≤◌, ◌+◌, ◌^◌, ℕ, suc, List, length, subst, arith}
use Rattle.gcs_meaning.specs.declared.command.Command.{Command}
use Rattle.gcs_meaning.specs.declared.command.Entry.{Entry}
use Rattle.gcs_meaning.specs.Moment.{effective_moment, last_reading}
use Rattle.gcs_meaning.specs.Slot.{State, Slot, fresh_slot}
use Rattle.gcs_meaning.specs.Aging.{aged}
use Rattle.gcs_meaning.specs.Step.{step}
use Rattle.gcs_meaning.specs.History.{replay}
use Rattle.gcs_meaning.specs.Bounds.{IsChangedAtMost, IsSmall, IsWithin, AreWithin}
use Rattle.gcs_meaning.specs.Laws.{SmallIsKept}
use Rattle.gcs_meaning.proofs.Listed.{all-weaker, some-weaker}
use Rattle.gcs_meaning.proofs.Replays.{IsKept, replay_kept, slot_replayed}
use Rattle.gcs_meaning.proofs.Counting.{IsCounted, command_counted}
use Rattle.gcs_meaning.proofs.Everywhere.{BucketFact, VersionFact, HasRow, Has, AllHave, Passes, all_aged, command_have}

-- a bucket or a version was changed at most n times
abbrev AtMost : ℕ → BucketFact
AtMost n g m = m ≤ n

abbrev RowAtMost : ℕ → VersionFact
RowAtMost n name g m = m ≤ n

changed_of : (n : ℕ) (s : State) → Has (AtMost n) (RowAtMost n) s → IsChangedAtMost n s
changed_of n s h = record { bucket = h.bucket; rows = h.rows }

has_of : (n : ℕ) (s : State) → IsChangedAtMost n s → Has (AtMost n) (RowAtMost n) s
has_of n s h = record { bucket = h.bucket; rows = h.rows }

all_of : (n : ℕ) (slot : Slot) → IsWithin n slot → AllHave (AtMost n) (RowAtMost n) slot
all_of n slot h = record {
  alive = some-weaker (IsChangedAtMost n) (Has (AtMost n) (RowAtMost n)) (has_of n) slot.alive h.changes;
  graves = all-weaker (λ g. IsChangedAtMost n g.state) (λ g. Has (AtMost n) (RowAtMost n) g.state) (λ g. has_of n g.state) slot.graves h.graves;
}

changes_pass : (n : ℕ) (slot : Slot) (t : ℕ) → Passes (AtMost n) (AtMost (suc n)) (RowAtMost n) (RowAtMost (suc n)) slot t
changes_pass n slot t = record {
  bucket_same = λ g m h. omega (arith, h);
  bucket_changed = λ g m h. omega (arith, h);
  bucket_new = omega arith;
  row_same = λ name g m h. omega (arith, h);
  row_changed = λ name g m h. omega (arith, h);
  row_new = λ name. omega arith;
}

-- one step
pub step_within : (n : ℕ) (slot : Slot) (reading : ℕ) (command : Command) → IsWithin n slot → IsWithin (suc n) (step slot reading command).1
step_within n slot reading command h =
    let t : ℕ = effective_moment slot.last_moment reading in
    let fits : t ≤ last_reading = omega (arith, h.moment) in
    let after : Slot = (step slot reading command).1 in
    let counted : IsCounted (aged slot t) t after = command_counted command (aged slot t) t in
    let have : AllHave (AtMost (suc n)) (RowAtMost (suc n)) after =
    command_have (AtMost n) (AtMost (suc n)) (RowAtMost n) (RowAtMost (suc n)) (aged slot t) t (changes_pass n (aged slot t) t)
    (all_aged (AtMost n) (RowAtMost n) t slot (all_of n slot h)) command in
    record {
      moment = omega (arith, counted.moment, fits);
      object = omega (arith, counted.object_most, h.object, fits);
      bucket = omega (arith, counted.bucket_most, h.bucket, fits);
      upload = omega (arith, counted.upload_most, h.upload);
      changes = some-weaker (Has (AtMost (suc n)) (RowAtMost (suc n))) (IsChangedAtMost (suc n)) (changed_of (suc n)) after.alive have.alive;
      graves = all-weaker (λ g. Has (AtMost (suc n)) (RowAtMost (suc n)) g.state) (λ g. IsChangedAtMost (suc n) g.state) (λ g. changed_of (suc n) g.state) after.graves have.graves;
    }

-- numbers that are in their bounds are so with greater ones
changed_more : (m n : ℕ) → m ≤ n → (s : State) → IsChangedAtMost m s → IsChangedAtMost n s
changed_more m n above s h = record {
  bucket = omega (arith, h.bucket);
  rows = all-weaker (HasRow (RowAtMost m)) (HasRow (RowAtMost n)) (λ row few. omega (arith, few, above)) s.rows h.rows;
}

within_more : (n : ℕ) (slot : Slot) → IsWithin n slot → IsWithin (suc n) slot
within_more n slot h =
    let more : n ≤ suc n = omega arith in
    record {
      moment = h.moment;
      object = omega (arith, h.object);
      bucket = omega (arith, h.bucket);
      upload = omega (arith, h.upload);
      changes = some-weaker (IsChangedAtMost n) (IsChangedAtMost (suc n)) (changed_more n (suc n) more) slot.alive h.changes;
      graves = all-weaker (λ g. IsChangedAtMost n g.state) (λ g. IsChangedAtMost (suc n) g.state) (λ g. changed_more n (suc n) more g.state) slot.graves h.graves;
    }

fresh_within : (n : ℕ) → IsWithin n fresh_slot
fresh_within n = record { moment = omega arith; object = omega arith; bucket = omega arith; upload = omega arith; changes = tt; graves = tt }

within_kept : IsKept IsWithin
within_kept = record { fresh = fresh_within; later = within_more; stepped = step_within }

-- the slots of a history
pub replay_within : (es : List Entry) → AreWithin (length es) (replay es)
replay_within es = replay_kept IsWithin within_kept es

-- numbers within 2^61 steps are small
pub small_within : (n : ℕ) (slot : Slot) → n ≤ 2 ^ 61 → IsWithin n slot → IsSmall slot
small_within n slot few h =
    let most : n ≤ 2 ^ 62 = omega (arith, few) in
    record {
      moment = omega (arith, h.moment);
      object = omega (arith, h.object, few);
      bucket = omega (arith, h.bucket, few);
      upload = omega (arith, h.upload, few);
      changes = some-weaker (IsChangedAtMost n) (IsChangedAtMost (2 ^ 62)) (changed_more n (2 ^ 62) most) slot.alive h.changes;
      graves = all-weaker (λ g. IsChangedAtMost n g.state) (λ g. IsChangedAtMost (2 ^ 62) g.state) (λ g. changed_more n (2 ^ 62) most g.state) slot.graves h.graves;
    }

pub small_is_kept : SmallIsKept
small_is_kept = record {
  fresh = fresh_within 0;
  kept = λ n slot moment command h.
      let same : suc n ≡ n + 1 = omega arith in
      subst (λ m. IsWithin m (step slot moment command).1) same (step_within n slot moment command h);
  replayed = slot_replayed IsWithin within_kept;
  small = small_within;
}
