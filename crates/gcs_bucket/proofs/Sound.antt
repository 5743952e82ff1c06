-- What every slot keeps, a step keeps; and a step can be made on it where its numbers leave room.
use Rattle.std.proofs.Common.{◌≡◌, ◌≤◌, ◌<◌, ◌^◌, ℕ, Bool, List, Option, Some, None, Result, Ok, Err, refl, ap, sym, subst, arith}
use Rattle.std.specs.Prelude.{length, IfOk, OnErr, ◌+◌, max, filter, nat_lt}
use Rattle.std.specs.Option.{IfSome}
use Rattle.std.specs.List.{AllByRecursion, find}
use Rattle.gcs_meaning.specs.declared.version.Row.{Row}
use Rattle.gcs_meaning.specs.declared.command.Answer.{Answer}
use Rattle.gcs_meaning.specs.declared.command.Command.{Command}
use Rattle.gcs_meaning.specs.Moment.{effective_moment}
use Rattle.gcs_meaning.specs.Slot.{State, Grave, Slot, fresh_slot}
use Rattle.gcs_meaning.specs.Fit.{IsFitRow, IsFitState, IsFitUpload}
use Rattle.gcs_meaning.specs.Bounds.{IsChangedAtMost, IsSmall}
use Rattle.gcs_meaning.specs.Aging.{kind_stays, aged_state, aged_alive, aged_grave, aged_graves, aged}
use Rattle.gcs_meaning.specs.Choosing.{is_live_of, live_row}
use Rattle.gcs_meaning.specs.Step.{IsInRange, step}
use Rattle.gcs_meaning.proofs.Chosen.{all-find}
use Rattle.gcs_meaning.proofs.Fitting.{fit_is_kept}
use Rattle.gcs_meaning.proofs.Limited.{AllLimited, step_limited}
use Rattle.gcs_meaning.proofs.Listed.{all-filter, all-map, all-weaker}
use Rattle.gcs_meaning.specs.Content.{bytes_in}
use Rattle.gcs_meaning.specs.Tests.{largest_object}
use Rattle.gcs_bucket.specs.Alive.{AreCounted, AreLimited, AreEarly, AreSized, IsEarly}
use Rattle.gcs_meaning.specs.Uploads.{aged_upload, aged_uploads}
use Rattle.gcs_bucket.specs.Uploading.{AreBelow}
use Rattle.gcs_bucket.specs.Slot.{IsSound, IsReady}

-- the slot before the first insert
pub fresh_sound : IsSound fresh_slot
fresh_sound = record { fit = fit_is_kept.fresh; limits = tt; graves = tt }

-- ageing leaves the settings, and takes versions away
pub aged_limited : (t : ℕ) (alive : Option State) → AreLimited alive → AreLimited (aged_alive t alive)
unfolding aged_state
aged_limited t None h = h
aged_limited t (Some s) h = h

-- one step
step_sound : (slot : Slot) (moment : ℕ) (command : Command) → IsInRange command → IsSound slot → IsSound (step slot moment command).1
step_sound slot moment command built h =
    let limited : AllLimited (step slot moment command).1 = step_limited slot moment command built (record { alive = h.limits; graves = h.graves }) in
    record { fit = fit_is_kept.kept slot moment command h.fit; limits = limited.alive; graves = limited.graves }

-- the slot after a call, which was made or failed for memory
pub sound_after : {E : Type 0} (result : Result Answer E) (old new : Slot) (moment : ℕ) (command : Command) → IsInRange command → IsSound old
    → IfOk result (λ answer. step old moment command ≡ (answer, new)) → OnErr result (new ≡ old) → IsSound new
sound_after (Ok answer) old new moment command built h done err =
    subst IsSound (ap (λ (p : Answer × Slot). p.1) done) (step_sound old moment command built h)
sound_after (Err e) old new moment command built h done err = subst IsSound (sym err) h

there_when : (P : Row → Type 0) (found : Option Row) → ((row : Row) → found ≡ Some row → P row) → IfSome found P
there_when P None h = tt
there_when P (Some row) h = h row refl

pub live_early : (name : List ℕ) (rows : List Row) → AreEarly rows → IfSome (live_row name rows) IsEarly
live_early name rows h = there_when IsEarly (live_row name rows) (λ row is. all-find IsEarly (is_live_of name) row rows is h)

-- a step can be made where the numbers leave room
row_early : (o m : ℕ) (row : Row) → m < 2 ^ 62 → IsFitRow o m row → IsEarly row
row_early o m row small h = omega (arith, h.start)

alive_early : (o m u : ℕ) (alive : Option State) → m < 2 ^ 62 → IfSome alive (IsFitState o m u) → IfSome alive (λ s. AreEarly s.rows)
alive_early o m u None small h = tt
alive_early o m u (Some s) small h = all-weaker (IsFitRow o m) IsEarly (λ row fit. row_early o m row small fit) s.rows h.rows

-- no generation is above the last
alive_counted : (o m u : ℕ) (alive : Option State) → IfSome alive (IsFitState o m u) → IfSome alive (λ s. AreCounted o s.rows)
alive_counted o m u None h = tt
alive_counted o m u (Some s) h = all-weaker (IsFitRow o m) (λ row. row.generation ≤ o) (λ row fit. fit.generation) s.rows h.rows

-- no version is larger than an object may be
alive_sized : (o m u : ℕ) (alive : Option State) → IfSome alive (IsFitState o m u) → IfSome alive (λ s. AreSized s.rows)
alive_sized o m u None h = h
alive_sized o m u (Some s) h = all-weaker (IsFitRow o m) (λ row. length (bytes_in row.hashed) ≤ largest_object) (λ row fit. fit.size) s.rows h.rows

-- so that the next is above all
pub above_counted : (o g : ℕ) (alive : Option State) (s : State) → alive ≡ Some s → o < g → IfSome alive (λ s. AreCounted o s.rows) → AllByRecursion (λ row. row.generation < g) s.rows
above_counted o g alive s lives more h =
    all-weaker (λ row. row.generation ≤ o) (λ row. row.generation < g) (λ row few. omega (arith, few, more)) s.rows (subst (λ a. IfSome a (λ s. AreCounted o s.rows)) lives h)

-- the numbers of the uploads are below the next one
alive_below : (o m u : ℕ) (alive : Option State) → IfSome alive (IsFitState o m u) → IfSome alive (λ s. AreBelow u s.uploads)
alive_below o m u None h = tt
alive_below o m u (Some s) h = all-weaker (IsFitUpload o m u) (λ numbered. numbered.0 < u) (λ numbered fit. fit.number) s.uploads h.uploads

-- what is ready for a step is so once it is aged
changed_aged : (t n : ℕ) (s : State) → IsChangedAtMost n s → IsChangedAtMost n (aged_state t s)
unfolding aged_state
changed_aged t n s h = record { bucket = h.bucket; rows = all-filter (λ row. row.metageneration ≤ n) (λ row. kind_stays t row.kind) s.rows h.rows }

aged_early : (t : ℕ) (s : State) → AreEarly s.rows → AreEarly (aged_state t s).rows
unfolding aged_state
aged_early t s h = all-filter IsEarly (λ row. kind_stays t row.kind) s.rows h

aged_counted : (t o : ℕ) (s : State) → AreCounted o s.rows → AreCounted o (aged_state t s).rows
unfolding aged_state
aged_counted t o s h = all-filter (λ row. row.generation ≤ o) (λ row. kind_stays t row.kind) s.rows h

aged_sized : (t : ℕ) (s : State) → AreSized s.rows → AreSized (aged_state t s).rows
unfolding aged_state
aged_sized t s h = all-filter (λ row. length (bytes_in row.hashed) ≤ largest_object) (λ row. kind_stays t row.kind) s.rows h

aged_below : (t u : ℕ) (s : State) → AreBelow u s.uploads → AreBelow u (aged_state t s).uploads
unfolding aged_state aged_uploads
aged_below t u s h = all-map (λ numbered. numbered.0 < u) (λ numbered. numbered.0 < u) (λ numbered. (numbered.0, aged_upload t numbered.1)) (λ numbered held. held) s.uploads h

aged_if : (t : ℕ) (P : State → Type 0) → ((s : State) → P s → P (aged_state t s)) → (alive : Option State) → IfSome alive P → IfSome (aged_alive t alive) P
aged_if t P keeps None h = h
aged_if t P keeps (Some s) h = keeps s h

aged_graves_changed : (t n : ℕ) (graves : List Grave) → AllByRecursion (λ g. IsChangedAtMost n g.state) graves → AllByRecursion (λ g. IsChangedAtMost n g.state) (aged_graves t graves)
unfolding aged_graves
aged_graves_changed t n graves h =
    all-map (λ g. IsChangedAtMost n g.state) (λ g. IsChangedAtMost n g.state) (aged_grave t) (λ g held. changed_aged t n g.state held) (filter (λ g. nat_lt t g.hard) graves)
    (all-filter (λ g. IsChangedAtMost n g.state) (λ g. nat_lt t g.hard) graves h)

pub changed_of : (slot : Slot) (s : State) → slot.alive ≡ Some s → IsReady slot → AllByRecursion (λ row. row.metageneration ≤ 2 ^ 62) s.rows
changed_of slot s lives h =
    let changes : IsChangedAtMost (2 ^ 62) s = subst (λ alive. IfSome alive (IsChangedAtMost (2 ^ 62))) lives h.small.changes in
    changes.rows

pub early_of : (slot : Slot) (s : State) → slot.alive ≡ Some s → IsReady slot → AreEarly s.rows
early_of slot s lives h = subst (λ alive. IfSome alive (λ s. AreEarly s.rows)) lives h.early

pub grave_changed_of : (slot : Slot) (p : Grave → Bool) (g : Grave) → find p slot.graves ≡ Some g → IsReady slot → g.state.metageneration ≤ 2 ^ 62
grave_changed_of slot p g found h =
    let changes : IsChangedAtMost (2 ^ 62) g.state = all-find (λ g. IsChangedAtMost (2 ^ 62) g.state) p g slot.graves found h.small.graves in
    changes.bucket

pub soon : (slot : Slot) (t reading : ℕ) → IsReady slot → t ≡ effective_moment slot.last_moment reading → t < 2 ^ 62
soon slot t reading h is = omega (arith, is, h.small.moment)

pub ready_aged : (slot now : Slot) (t : ℕ) → now ≡ aged slot t → t < 2 ^ 62 → IsReady slot → IsReady now
ready_aged slot now t is soon h = subst IsReady (sym is) (record {
  small = record {
    moment = soon;
    object = h.small.object;
    bucket = h.small.bucket;
    upload = h.small.upload;
    changes = aged_if t (IsChangedAtMost (2 ^ 62)) (changed_aged t (2 ^ 62)) slot.alive h.small.changes;
    graves = aged_graves_changed t (2 ^ 62) slot.graves h.small.graves;
  };
  limits = aged_limited t slot.alive h.limits;
  early = aged_if t (λ s. AreEarly s.rows) (aged_early t) slot.alive h.early;
  counted = aged_if t (λ s. AreCounted slot.last_object s.rows) (aged_counted t slot.last_object) slot.alive h.counted;
  below = aged_if t (λ s. AreBelow slot.next_upload s.uploads) (aged_below t slot.next_upload) slot.alive h.below;
  sized = aged_if t (λ s. AreSized s.rows) (aged_sized t) slot.alive h.sized;
})

-- the next generation
pub more_than : (g t o : ℕ) → g ≡ max t (o + 1) → o < g
more_than g t o is = omega (arith, is)

pub one_more : (g t o : ℕ) → g ≡ max t (o + 1) → 1 ≤ g
one_more g t o is = omega (arith, is)

pub ready_when : (slot : Slot) → IsSound slot → IsSmall slot → IsReady slot
ready_when slot h small = record {
  small = small;
  limits = h.limits;
  early = alive_early slot.last_object slot.last_moment slot.next_upload slot.alive small.moment h.fit.alive;
  counted = alive_counted slot.last_object slot.last_moment slot.next_upload slot.alive h.fit.alive;
  below = alive_below slot.last_object slot.last_moment slot.next_upload slot.alive h.fit.alive;
  sized = alive_sized slot.last_object slot.last_moment slot.next_upload slot.alive h.fit.alive;
}
