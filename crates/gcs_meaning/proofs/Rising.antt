-- Generations rise strictly.
use Rattle.std.proofs.Common.{◌≡◌, ◌≤◌, ◌<◌, ℕ, Bool, true, false, List, [], ◌∷◌, ◌++◌, Option, Some, None, subst, sym, ap, refl, ◌∙◌, inl, inr, arith}
use Rattle.std.specs.Prelude.{◌⊎◌, nat_le, ◌+◌, map}
use Rattle.std.specs.Option.{IfSome, option_map}
use Rattle.std.specs.List.{AllByRecursion}
use Rattle.std.proofs.lemmas.Map.Made.{lookup-map_values}
use Rattle.gcs_meaning.specs.declared.command.Answer.{Answer}
use Rattle.gcs_meaning.specs.declared.command.Answer.TheVariants.{Kept, Object, Refused}
use Rattle.gcs_meaning.specs.declared.command.Command.{Command}
use Rattle.gcs_meaning.specs.declared.command.Command.TheVariants.{Put, Compose, Restore, Finish}
use Rattle.gcs_meaning.specs.declared.command.Entry.{Entry}
use Rattle.gcs_meaning.specs.declared.uploading.Upload.{Upload}
use Rattle.gcs_meaning.specs.declared.uploading.UploadState.{UploadState}
use Rattle.gcs_meaning.specs.declared.uploading.UploadState.TheVariants.{Running, Done, Cancelled, Expired}
use Rattle.gcs_meaning.specs.declared.version.Row.{Row}
use Rattle.gcs_meaning.specs.Moment.{effective_moment}
use Rattle.gcs_meaning.specs.Uploads.{is_running, expired_if, upload_time, aged_upload, aged_uploads, is_number, upload_of}
use Rattle.gcs_meaning.specs.Slot.{State, Slot}
use Rattle.gcs_meaning.specs.Aging.{aged_state, aged_alive, aged}
use Rattle.gcs_meaning.specs.Keeping.{HoldsOfOne, IsOneOf, living, buckets_of}
use Rattle.gcs_meaning.specs.Put.{with_version}
use Rattle.gcs_meaning.specs.Finish.{finish_row, done_state}
use Rattle.gcs_meaning.specs.Step.{step, command_step}
use Rattle.gcs_meaning.specs.Making.{runs, runs_in, makes_version, generations_of, made_by, made_in, IsRising, NewAreAbove}
use Rattle.gcs_meaning.specs.Laws.{GenerationsRise}
use Rattle.gcs_meaning.proofs.Listed.{all-append, all-map, all-members}
use Rattle.gcs_meaning.proofs.Members.{one-member, all-member, one-left, one-right, one-weaker, map-member}
use Rattle.gcs_meaning.proofs.Cases.{IfRefused, IfMade, put_cases, compose_cases, restore_cases, finish_cases}
use Rattle.gcs_meaning.proofs.Counting.{IsCounted, command_counted}
use Rattle.gcs_meaning.proofs.Everywhere.{BucketFact, VersionFact, HasRow, Has, AllHave, Passes, all_aged, command_have}

-- ---- the versions that entries make
-- these rise from n, and end at most at m
abbrev RisesTo : ℕ → List ℕ → ℕ → Type 0
RisesTo n [] m = n ≤ m
RisesTo n (x ∷ xs) m = (n < x) × RisesTo x xs m

IsRising-lower : (n m : ℕ) (ys : List ℕ) → n ≤ m → IsRising m ys → IsRising n ys
IsRising-lower n m [] le h = tt
IsRising-lower n m (y ∷ ys) le h = (omega (arith, h.0), h.1)

IsRising-append : (n m : ℕ) (xs ys : List ℕ) → RisesTo n xs m → IsRising m ys → IsRising n (xs ++ ys)
IsRising-append n m [] ys le h = IsRising-lower n m ys le h
IsRising-append n m (x ∷ xs) ys r h = (r.0, IsRising-append x m xs ys r.1 h)

-- an upload that runs at t ran before, and one that is done then didn't run before
ran_before : (late : Bool) (state : UploadState) → is_running (expired_if late state) ≡ true → is_running state ≡ true
ran_before late Running h = refl
ran_before late (Done row) h = h
ran_before late Cancelled h = h
ran_before late Expired h = h

done_before : (late : Bool) (state : UploadState) (row : Row) → expired_if late state ≡ Done row → is_running state ≡ false
done_before true Running row h = cc
done_before false Running row h = cc
done_before late (Done made) row h = refl
done_before late Cancelled row h = refl
done_before late Expired row h = refl

-- the upload of a number at t is one that was there
aged_from : (P : Bool → Type 0) (Q : UploadState → Type 0) (t : ℕ) (found : Option Upload) (upload : Upload) → option_map (aged_upload t) found ≡ Some upload
    → ((late : Bool) (state : UploadState) → Q (expired_if late state) → P (is_running state)) → Q upload.state → P (runs found)
aged_from P Q t None upload is before h = cc
aged_from P Q t (Some had) upload is before h =
    before (nat_le (had.start + upload_time) t) had.state (subst Q (ap (λ u. u.state) (sym (some_inj is))) h)
  where
    some_inj : {a b : Upload} → Some a ≡ Some b → a ≡ b
    some_inj is = cc

aged_in : (P : Bool → Type 0) (Q : UploadState → Type 0) (t number : ℕ) (alive : Option State) (s : State) (upload : Upload) → aged_alive t alive ≡ Some s → upload_of number s.uploads ≡ Some upload
    → ((late : Bool) (state : UploadState) → Q (expired_if late state) → P (is_running state)) → Q upload.state → P (runs_in alive number)
unfolding aged_state aged_uploads
aged_in P Q t number None s upload is found before h = cc
aged_in P Q t number (Some had) s upload is found before h =
    aged_from P Q t (upload_of number had.uploads) upload
    (sym (lookup-map_values (aged_upload t) (is_number number) had.uploads) ∙ ap (upload_of number) (uploads_inj is) ∙ found) before h
  where
    uploads_inj : {a b : State} → Some a ≡ Some b → a.uploads ≡ b.uploads
    uploads_inj is = cc

-- what a command makes is above the last number, and the slot after it has counted it
abbrev Rises : Bool → Slot → Answer × Slot → Type 0
Rises makes slot done = RisesTo slot.last_object (made_by makes done.0) done.1.last_object

-- an answer without a version
none_rises : (makes : Bool) (n : ℕ) (answer : Answer) → generations_of answer ≡ [] → RisesTo n (made_by makes answer) n
none_rises true n answer none = subst (λ xs. RisesTo n xs n) (sym none) (omega arith)
none_rises false n answer none = omega arith

refused_rises : (makes : Bool) (slot : Slot) → IfRefused (Rises makes slot) slot
refused_rises makes slot reason = none_rises makes slot.last_object (Refused reason) refl

made_rises : (slot : Slot) (t : ℕ) → IfMade (Rises true slot) slot t
made_rises slot t s name pre meta hashed components expect is passed = (omega arith, omega arith)

-- one command, on the slot once it is aged
command_rises : (command : Command) (slot : Slot) (t : ℕ) → Rises (makes_version slot command) (aged slot t) (command_step (aged slot t) t command)
command_rises (Put bucket name pre meta hashed components expect) slot t =
    put_cases (Rises true (aged slot t)) (aged slot t) t name pre meta hashed components expect (refused_rises true (aged slot t)) (made_rises (aged slot t) t)
command_rises (Compose bucket name pre meta parts) slot t =
    compose_cases (Rises true (aged slot t)) (aged slot t) t name pre meta parts (refused_rises true (aged slot t)) (made_rises (aged slot t) t)
command_rises (Restore bucket name generation pre) slot t =
    restore_cases (Rises true (aged slot t)) (aged slot t) t name generation pre (refused_rises true (aged slot t)) (made_rises (aged slot t) t)
command_rises (Finish bucket number hashed) slot t =
    let makes : Bool = runs_in slot.alive number in
    finish_cases (Rises makes (aged slot t)) (aged slot t) t number (refused_rises makes (aged slot t)) (record {
      keeps = λ n. none_rises makes slot.last_object (Kept n) refl;
      was_done = λ s upload row is found ended.
          let older : makes ≡ false = aged_in (λ b. b ≡ false) (λ state. state ≡ Done row) t number slot.alive s upload is found (λ late state. done_before late state row) ended in
          subst (λ b. Rises b (aged slot t) (Object row s.settings, aged slot t)) (sym older) (omega arith);
      makes = λ s upload is found running passed.
          let newer : makes ≡ true = aged_in (λ b. b ≡ true) (λ state. is_running state ≡ true) t number slot.alive s upload is found ran_before (ap is_running running) in
          let row : Row = finish_row (aged slot t) s t upload in
          let done : Answer × Slot = with_version (aged slot t) (done_state s number row) t row in
          let above : Rises true (aged slot t) done = (omega arith, omega arith) in
          subst (λ b. Rises b (aged slot t) done) (sym newer) above;
    })
command_rises command slot t = (command_counted command (aged slot t) t).object

-- one entry after the other
made_rise : (slot : Slot) (entries : List Entry) → IsRising slot.last_object (made_in slot entries)
made_rise slot [] = tt
made_rise slot (e ∷ es) =
    let t : ℕ = effective_moment slot.last_moment e.moment in
    IsRising-append slot.last_object (step slot e.moment e.command).1.last_object (made_by (makes_version slot e.command) (step slot e.moment e.command).0) (made_in (step slot e.moment e.command).1 es)
    (command_rises e.command slot t)
    (made_rise (step slot e.moment e.command).1 es)

-- ---- what a step leaves was there, or is above all that was made before
abbrev BucketWas : Slot → BucketFact
BucketWas slot g m = HoldsOfOne (λ had. had.generation ≡ g) (buckets_of slot) ⊎ (slot.last_bucket < g)

abbrev VersionWas : Slot → VersionFact
VersionWas slot name g m = HoldsOfOne (λ s. HoldsOfOne (λ had. (had.name ≡ name) × (had.generation ≡ g)) s.rows) (buckets_of slot) ⊎ (slot.last_object < g)

state_was : (slot : Slot) (s : State) → IsOneOf (buckets_of slot) s → Has (BucketWas slot) (VersionWas slot) s
state_was slot s is = record {
  bucket = inl (one-member (λ had. had.generation ≡ s.generation) s (buckets_of slot) is refl);
  rows = all-members (HasRow (VersionWas slot)) s.rows (λ row here.
      inl (one-member (λ x. HoldsOfOne (λ had. (had.name ≡ row.name) × (had.generation ≡ row.generation)) x.rows) s (buckets_of slot) is
      (one-member (λ had. (had.name ≡ row.name) × (had.generation ≡ row.generation)) row s.rows here (refl, refl))));
}

alive_was : (slot : Slot) (alive : Option State) → slot.alive ≡ alive → IfSome alive (Has (BucketWas slot) (VersionWas slot))
alive_was slot None is = tt
alive_was slot (Some s) is =
    state_was slot s (one-left (λ x. x ≡ s) (living slot.alive) (map (λ g. g.state) slot.graves) (subst (λ a. IsOneOf (living a) s) (sym is) (inl refl)))

all_were : (slot : Slot) → AllHave (BucketWas slot) (VersionWas slot) slot
all_were slot = record {
  alive = alive_was slot slot.alive refl;
  graves = all-members (λ g. Has (BucketWas slot) (VersionWas slot) g.state) slot.graves (λ g is.
      state_was slot g.state (one-right (λ x. x ≡ g.state) (living slot.alive) (map (λ x. x.state) slot.graves)
      (map-member (λ x. x.state) (λ x. x ≡ g.state) slot.graves (one-weaker (λ x. x ≡ g) (λ x. x.state ≡ g.state) (λ x same. ap (λ y. y.state) same) slot.graves is))));
}

were_pass : (slot : Slot) (t : ℕ) → Passes (BucketWas slot) (BucketWas slot) (VersionWas slot) (VersionWas slot) (aged slot t) t
were_pass slot t = record {
  bucket_same = λ g m h. h;
  bucket_changed = λ g m h. h;
  bucket_new = inr (omega arith);
  row_same = λ name g m h. h;
  row_changed = λ name g m h. h;
  row_new = λ name. inr (omega arith);
}

-- what all buckets have, one of them has
living_have : (D : State → Type 0) (alive : Option State) → IfSome alive D → AllByRecursion D (living alive)
living_have D None h = tt
living_have D (Some s) h = (h, tt)

one_has : (B : BucketFact) (P : VersionFact) (slot : Slot) (s : State) → AllHave B P slot → IsOneOf (buckets_of slot) s → Has B P s
one_has B P slot s all is =
    all-member (Has B P) s (buckets_of slot) is
    (all-append (Has B P) (living slot.alive) (map (λ g. g.state) slot.graves) (living_have (Has B P) slot.alive all.alive)
    (all-map (λ g. Has B P g.state) (Has B P) (λ g. g.state) (λ g h. h) slot.graves all.graves))

new_above : (slot : Slot) (moment : ℕ) (command : Command) → NewAreAbove slot (step slot moment command).1
new_above slot moment command =
    let t : ℕ = effective_moment slot.last_moment moment in
    let after : Slot = (step slot moment command).1 in
    let counted : IsCounted (aged slot t) t after = command_counted command (aged slot t) t in
    let all : AllHave (BucketWas slot) (VersionWas slot) after =
    command_have (BucketWas slot) (BucketWas slot) (VersionWas slot) (VersionWas slot) (aged slot t) t (were_pass slot t)
    (all_aged (BucketWas slot) (VersionWas slot) t slot (all_were slot)) command in
    record {
      versions = λ s row is here. all-member (HasRow (VersionWas slot)) row s.rows here (one_has (BucketWas slot) (VersionWas slot) after s all is).rows;
      buckets = λ s is. (one_has (BucketWas slot) (VersionWas slot) after s all is).bucket;
      object = counted.object;
      bucket = counted.bucket;
    }

pub generations_rise : GenerationsRise
generations_rise = record { rise = made_rise; above = new_above }
