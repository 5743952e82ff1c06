-- A slot that is fit stays fit where its bucket is inserted, changed, locked, deleted or restored.
use Rattle.std.proofs.Common.{◌≡◌, ◌≢◌, ◌≤◌, ◌<◌, ◌+◌, ℕ, Bool, true, false, List, [], ◌∷◌, ◌++◌, Option, Some, None, refl, ap, sym, subst, arith}
use Rattle.std.specs.Prelude.{map, max, ◌||◌, ◌==◌, if◌then◌else◌}
use Rattle.std.specs.Option.{IfSome, option_map}
use Rattle.std.specs.List.{AllByRecursion, list_any}
use Rattle.gcs_meaning.specs.declared.changes.SettingsChange.{SettingsChange}
use Rattle.gcs_meaning.specs.declared.settings.Retention.{Retention}
use Rattle.gcs_meaning.specs.declared.settings.Settings.{Settings}
use Rattle.gcs_meaning.specs.declared.settings.Pre.{Pre}
use Rattle.gcs_meaning.specs.declared.version.Kind.{Kind}
use Rattle.gcs_meaning.specs.declared.version.Kind.TheVariants.{Live, Noncurrent, Soft}
use Rattle.gcs_meaning.specs.declared.version.Row.{Row}
use Rattle.gcs_meaning.specs.declared.reason.Reason.TheVariants.{NotEmpty}
use Rattle.gcs_meaning.specs.Moment.{next_generation}
use Rattle.gcs_meaning.specs.Policy.{bucket_pre_refusal, micros}
use Rattle.gcs_meaning.specs.Slot.{State, Grave, Slot}
use Rattle.gcs_meaning.specs.Choosing.{is_readable}
use Rattle.gcs_meaning.specs.Insertion.{in_force, new_state}
use Rattle.gcs_meaning.specs.BucketDeletion.{hard_of, latest_hard, empty_refusal, bucket_delete_refusal, grave_of}
use Rattle.gcs_meaning.specs.BucketLock.{locked_policy, locked_settings}
use Rattle.gcs_meaning.specs.BucketRestore.{grave_found, is_grave_of, restored_state, unburied, without_grave}
use Rattle.gcs_meaning.specs.BucketChange.{changed_period, changed_duration, policy_of, changed_settings, bucket_change_state}
use Rattle.gcs_meaning.specs.Fit.{IsFitState, IsSoftUntil, IsFitGrave, living_generation, bucket_generations, Differ, IsFit}
use Rattle.gcs_meaning.proofs.Listed.{all-weaker, all-change_first}
use Rattle.gcs_meaning.proofs.Chosen.{all-find}
use Rattle.gcs_meaning.proofs.Passing.{second_passed}
use Rattle.gcs_meaning.proofs.FitAged.{grave_later}

-- a number above those before differs from them
below_differ : (n m : ℕ) (ns : List ℕ) → m < n → AllByRecursion (λ k. k ≤ m) ns → AllByRecursion (λ k. k ≢ n) ns
below_differ n m ns above h = all-weaker (λ k. k ≤ m) (λ k. k ≢ n) (λ k below same. omega (arith, same)) ns h

-- the bucket that is alive
pub living_fit : (slot : Slot) (s : State) → slot.alive ≡ Some s → IsFit slot → IsFitState slot.last_object slot.last_moment slot.next_upload s
living_fit slot s is h = subst (λ alive. IfSome alive (IsFitState slot.last_object slot.last_moment slot.next_upload)) is h.alive

-- the generations of a slot's buckets
generations_are : (slot : Slot) (alive : Option State) → slot.alive ≡ alive → bucket_generations slot ≡ living_generation alive ++ map (λ g. g.state.generation) slot.graves
generations_are slot alive is = ap (λ a. living_generation a ++ map (λ g. g.state.generation) slot.graves) is

-- a slot whose bucket becomes another one, of its generation
pub alive_fit : (slot : Slot) (s after : State) (object : ℕ) → slot.alive ≡ Some s → slot.last_object ≤ object → after.generation ≡ s.generation
    → IsFitState object slot.last_moment slot.next_upload after → IsFit slot → IsFit (record slot { alive = Some after; last_object = object })
alive_fit slot s after object is above same new h =
    let o : ℕ = slot.last_object in
    let m : ℕ = slot.last_moment in
    let u : ℕ = slot.next_upload in
    let still : m ≤ m = omega arith in
    let more : u ≤ u = omega arith in
    let before : bucket_generations slot ≡ after.generation ∷ map (λ g. g.state.generation) slot.graves = subst (λ n. bucket_generations slot ≡ n ∷ map (λ g. g.state.generation) slot.graves) (sym same) (generations_are slot (Some s) is) in
    record {
      alive = new;
      graves = all-weaker (IsFitGrave o m u) (IsFitGrave object m u) (grave_later o object m m u u above still more) slot.graves h.graves;
      counted = subst (AllByRecursion (λ g. g ≤ slot.last_bucket)) before h.counted;
      differ = subst Differ before h.differ;
    }

-- the insert of a bucket
policy_fit : (t m : ℕ) (retention : Option Retention) → t ≤ m → IfSome (option_map (in_force t) retention) (λ policy. policy.since ≤ m)
policy_fit t m None now = tt
policy_fit t m (Some policy) now = now

new_state_fit : (settings : Settings) (o t m u generation : ℕ) → t ≤ m → IsFitState o m u (new_state settings t generation)
new_state_fit settings o t m u generation now = record {
  created = now;
  updated = now;
  soft = now;
  policy = policy_fit t m settings.retention now;
  rows = tt;
  rise = tt;
  single = tt;
  uploads = tt;
}

pub insert_fit : (slot : Slot) (t : ℕ) (settings : Settings) → slot.alive ≡ None → t ≤ slot.last_moment → IsFit slot
    → IsFit (record slot { alive = Some (new_state settings t (next_generation t slot.last_bucket)); last_bucket = next_generation t slot.last_bucket })
insert_fit slot t settings free now h =
    let generation : ℕ = next_generation t slot.last_bucket in
    let above : slot.last_bucket < generation = omega arith in
    let before : bucket_generations slot ≡ map (λ g. g.state.generation) slot.graves = generations_are slot None free in
    let buried : AllByRecursion (λ g. g ≤ slot.last_bucket) (map (λ g. g.state.generation) slot.graves) = subst (AllByRecursion (λ g. g ≤ slot.last_bucket)) before h.counted in
    let apart : Differ (map (λ g. g.state.generation) slot.graves) = subst Differ before h.differ in
    record {
      alive = new_state_fit settings slot.last_object t slot.last_moment slot.next_upload generation now;
      graves = h.graves;
      counted = (omega arith, all-weaker (λ g. g ≤ slot.last_bucket) (λ g. g ≤ generation) (λ g below. omega (arith, above)) (map (λ g. g.state.generation) slot.graves) buried);
      differ = (below_differ generation slot.last_bucket (map (λ g. g.state.generation) slot.graves) above buried, apart);
    }

-- the change of a bucket
since_fit : (b : Bool) (t since m : ℕ) → t ≤ m → since ≤ m → (if b then since else t) ≤ m
since_fit true t since m now before = before
since_fit false t since m now before = now

changed_policy_fit : (t m : ℕ) (had : Option Retention) (asked : Option ℕ) → t ≤ m → IfSome had (λ policy. policy.since ≤ m) → IfSome (policy_of t had asked) (λ policy. policy.since ≤ m)
changed_policy_fit t m had None now h = tt
changed_policy_fit t m None (Some period) now h = now
changed_policy_fit t m (Some policy) (Some period) now h = since_fit (period == policy.period) t policy.since m now h

pub bucket_change_fit : (o t m u : ℕ) (whole : Bool) (change : SettingsChange) (s : State) → t ≤ m → IsFitState o m u s → IsFitState o m u (bucket_change_state s t (changed_settings t whole change s.settings))
unfolding changed_settings
bucket_change_fit o t m u whole change s now h = record {
  created = h.created;
  updated = now;
  soft = since_fit (changed_duration whole change s.settings == s.settings.soft_seconds) t s.settings.soft_since m now h.soft;
  policy = changed_policy_fit t m s.settings.retention (changed_period whole change s.settings) now h.policy;
  rows = h.rows;
  rise = h.rise;
  single = h.single;
  uploads = h.uploads;
}

-- the lock of a bucket's policy
locked_fit : (m : ℕ) (retention : Option Retention) → IfSome retention (λ policy. policy.since ≤ m) → IfSome (option_map locked_policy retention) (λ policy. policy.since ≤ m)
locked_fit m None h = h
locked_fit m (Some policy) h = h

pub bucket_lock_fit : (o t m u : ℕ) (s : State) → t ≤ m → IsFitState o m u s → IsFitState o m u (bucket_change_state s t (locked_settings s.settings))
bucket_lock_fit o t m u s now h = record {
  created = h.created;
  updated = now;
  soft = h.soft;
  policy = locked_fit m s.settings.retention h.policy;
  rows = h.rows;
  rise = h.rise;
  single = h.single;
  uploads = h.uploads;
}

-- the deletion of a bucket: its versions are soft-deleted, and gone at its hard time
pub is_empty : (b : Bool) → (if b then Some NotEmpty else None) ≡ None → b ≡ false
is_empty true h = cc
is_empty false h = refl

kind_soft : (n : ℕ) (kind : Kind) (more : Bool) → hard_of kind ≤ n → (is_readable kind || more) ≡ false → IsSoftUntil n kind
kind_soft n Live more within h = cc
kind_soft n (Noncurrent at) more within h = cc
kind_soft n (Soft at hard) more within h = within

others_not : (b more : Bool) → (b || more) ≡ false → more ≡ false
others_not true more h = cc
others_not false more h = h

pub soft_until : (n : ℕ) (rows : List Row) → latest_hard rows ≤ n → list_any (λ row. is_readable row.kind) rows ≡ false → AllByRecursion (λ row. IsSoftUntil n row.kind) rows
soft_until n [] within h = tt
soft_until n (row ∷ rows) within h =
    let first : hard_of row.kind ≤ n = omega (arith, within) in
    let more : latest_hard rows ≤ n = omega (arith, within) in
    (kind_soft n row.kind (list_any (λ row. is_readable row.kind) rows) first h, soft_until n rows more (others_not (is_readable row.kind) _ h))

pub grave_fit : (o m u t : ℕ) (pre : Pre) (s : State) → bucket_delete_refusal pre s ≡ None → IsFitState o m u s → IsFitGrave o m u (grave_of t s)
unfolding bucket_delete_refusal grave_of
grave_fit o m u t pre s passed h =
    let last : ℕ = max (t + micros s.settings.soft_seconds) (latest_hard s.rows) in
    let within : latest_hard s.rows ≤ last = omega arith in
    record {
      state = record { created = h.created; updated = h.updated; soft = h.soft; policy = h.policy; rows = h.rows; rise = h.rise; single = h.single; uploads = tt };
      soft = soft_until last s.rows within (is_empty (list_any (λ row. is_readable row.kind) s.rows) (second_passed (bucket_pre_refusal pre s.metageneration) (empty_refusal s.rows) passed));
    }

-- the generation of a deleted bucket was that of the one which is alive
pub with_grave_fit : (b : Bool) (slot : Slot) (t : ℕ) (s : State) → slot.alive ≡ Some s → IsFitGrave slot.last_object slot.last_moment slot.next_upload (grave_of t s) → IsFit slot
    → IsFit (record slot { alive = None; graves = if b then grave_of t s ∷ slot.graves else slot.graves })
unfolding grave_of
with_grave_fit true slot t s is new h = record {
  alive = tt;
  graves = (new, h.graves);
  counted = subst (AllByRecursion (λ g. g ≤ slot.last_bucket)) (generations_are slot (Some s) is) h.counted;
  differ = subst Differ (generations_are slot (Some s) is) h.differ;
}
with_grave_fit false slot t s is new h =
    let counted : AllByRecursion (λ g. g ≤ slot.last_bucket) (s.generation ∷ map (λ g. g.state.generation) slot.graves) = subst (AllByRecursion (λ g. g ≤ slot.last_bucket)) (generations_are slot (Some s) is) h.counted in
    let differ : Differ (s.generation ∷ map (λ g. g.state.generation) slot.graves) = subst Differ (generations_are slot (Some s) is) h.differ in
    record { alive = tt; graves = h.graves; counted = counted.1; differ = differ.1 }

-- the restore of a bucket: its generation was that of a deleted one
generation_found : (P : ℕ → Type 0) (generation : ℕ) (g : Grave) (graves : List Grave) → grave_found generation graves ≡ Some g → AllByRecursion P (map (λ x. x.state.generation) graves) → P g.state.generation
generation_found P generation g [] found h = cc
generation_found P generation g (x ∷ xs) found h = by (is_grave_of generation x) found (λ is. generation_found P generation g xs is h.1)
  where
    by : (b : Bool) → (if b then Some x else grave_found generation xs) ≡ Some g → (grave_found generation xs ≡ Some g → P g.state.generation) → P g.state.generation
    by true is rest = subst (λ y. P y.state.generation) (grave_inj is) h.0
      where
        grave_inj : Some x ≡ Some g → x ≡ g
        grave_inj same = cc
    by false is rest = rest is

generations_left : (P : ℕ → Type 0) (generation : ℕ) (graves : List Grave) → AllByRecursion P (map (λ x. x.state.generation) graves) → AllByRecursion P (map (λ x. x.state.generation) (without_grave generation graves))
generations_left P generation [] h = h
generations_left P generation (x ∷ xs) h = by (is_grave_of generation x) (generations_left P generation xs h.1)
  where
    by : (b : Bool) → AllByRecursion P (map (λ y. y.state.generation) (without_grave generation xs)) → AllByRecursion P (map (λ y. y.state.generation) (if b then xs else x ∷ without_grave generation xs))
    by true rest = h.1
    by false rest = (h.0, rest)

differ_left : (generation : ℕ) (g : Grave) (graves : List Grave) → grave_found generation graves ≡ Some g → Differ (map (λ x. x.state.generation) graves)
    → Differ (g.state.generation ∷ map (λ x. x.state.generation) (without_grave generation graves))
differ_left generation g [] found h = cc
differ_left generation g (x ∷ xs) found h = by (is_grave_of generation x) found (λ is. differ_left generation g xs is h.1)
  where
    by : (b : Bool) → (if b then Some x else grave_found generation xs) ≡ Some g → (grave_found generation xs ≡ Some g → Differ (g.state.generation ∷ map (λ y. y.state.generation) (without_grave generation xs)))
        → Differ (g.state.generation ∷ map (λ y. y.state.generation) (if b then xs else x ∷ without_grave generation xs))
    by true is rest = subst (λ y. Differ (y.state.generation ∷ map (λ z. z.state.generation) xs)) (grave_inj is) h
      where
        grave_inj : Some x ≡ Some g → x ≡ g
        grave_inj same = cc
    by false is rest =
        let other : g.state.generation ≢ x.state.generation = generation_found (λ m. m ≢ x.state.generation) generation g xs is h.0 in
        ((λ same. other (sym same), (rest is).0), (generations_left (λ m. m ≢ x.state.generation) generation xs h.0, (rest is).1))

pub bucket_restore_fit : (slot : Slot) (t generation : ℕ) (g : Grave) → grave_found generation slot.graves ≡ Some g → slot.alive ≡ None → t ≤ slot.last_moment → IsFit slot
    → IsFit (unburied slot generation (restored_state t g.state))
bucket_restore_fit slot t generation g found free now h =
    let o : ℕ = slot.last_object in
    let m : ℕ = slot.last_moment in
    let u : ℕ = slot.next_upload in
    let had : IsFitGrave o m u g = all-find (IsFitGrave o m u) (is_grave_of generation) g slot.graves found h.graves in
    let before : bucket_generations slot ≡ map (λ x. x.state.generation) slot.graves = generations_are slot None free in
    let counted : AllByRecursion (λ n. n ≤ slot.last_bucket) (map (λ x. x.state.generation) slot.graves) = subst (AllByRecursion (λ n. n ≤ slot.last_bucket)) before h.counted in
    record {
      alive = record {
        created = had.state.created;
        updated = now;
        soft = had.state.soft;
        policy = had.state.policy;
        rows = had.state.rows;
        rise = had.state.rise;
        single = had.state.single;
        uploads = had.state.uploads;
      };
      graves = all-change_first (IsFitGrave o m u) (is_grave_of generation) (λ x. []) (λ x fit. tt) slot.graves h.graves;
      counted = (generation_found (λ n. n ≤ slot.last_bucket) generation g slot.graves found counted, generations_left (λ n. n ≤ slot.last_bucket) generation slot.graves counted);
      differ = differ_left generation g slot.graves found (subst Differ before h.differ);
    }
