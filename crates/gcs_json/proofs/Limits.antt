-- The numbers that a body sets are in their limits, and a body that inserts a bucket has a name.
use Rattle.std.proofs.Common.{◌≡◌, ◌⊎◌, ℕ, ◌==◌, ◌&&◌, ◌||◌, nat_le, List, Bool, true, false, Option, Some, None, Ok, refl, subst, inl, inr}
use Rattle.std.specs.Prelude.{codes, option_and_then, option_map, if◌then◌else◌}
use Rattle.std.specs.Cmp.{first_so, second_so}
use Rattle.std.specs.Option.{IsSome}
use Rattle.std.proofs.lemmas.Bool.{leb-true}
use Rattle.std.proofs.lemmas.Bool.Decides.{Decides-eqb}
use Rattle.serde_json.specs.Data.{Data}
use Rattle.serde_json.specs.Find.{get}
use Rattle.gcs_meaning.specs.declared.changes.Set.{Set}
use Rattle.gcs_meaning.specs.declared.changes.Set.TheVariants.{Keep, Clear, To}
use Rattle.gcs_meaning.specs.declared.reason.Key.{Key}
use Rattle.gcs_meaning.specs.declared.reason.Key.TheVariants as key
use Rattle.gcs_meaning.specs.Refusals.{key_name}
use Rattle.gcs_meaning.specs.BucketChange.{AreSetInLimits}
use Rattle.gcs_meaning.specs.Changes.{IfSet}
use Rattle.gcs_meaning.specs.Policy.{IsPeriod, IsDuration}
use Rattle.gcs_names.specs.Name.{is_bucket_name}
use Rattle.gcs_json.specs.declared.bucket.BucketBody.{BucketBody}
use Rattle.gcs_json.specs.Fields.{is_empty, or_bad, said, needed, given_of}
use Rattle.gcs_json.specs.Kinds.{inside, in_limits, number_of, number_within, text_where}
use Rattle.gcs_json.specs.BucketLaws.{IsBucketBody}
use Rattle.gcs_json.proofs.Readings.{and_then-ok}

-- a field is set to what its value is read as
set_where : {T : Type 0} (P : T → Type 0) (k : Key) (removes : Bool) (reads : Data → Option T) (value : Option Data) (set : Set T)
    → ((d : Data) (x : T) → reads d ≡ Some x → P x) → or_bad k (said removes reads value) ≡ Ok set → IfSet set P
set_where P k removes reads value Keep good e = tt
set_where P k removes reads value Clear good e = tt
set_where P k removes reads None (To x) good e = cc
set_where {T} P k removes reads (Some d) (To x) good e = by_empty (is_empty d) removes (reads d) refl e
  where
    by_empty : (empty removes : Bool) (read : Option T) → reads d ≡ read
        → or_bad k (if empty then Some (if removes then Clear else Keep) else option_map To read) ≡ Ok (To x) → P x
    by_empty true true read r e = cc
    by_empty true false read r e = cc
    by_empty false removes None r e = cc
    by_empty false removes (Some y) r e = let same : y ≡ x = cc in subst P same (good d y r)

-- a number that is read is in its limits
number_in : (P : ℕ → Type 0) (zero : Bool) (least most : ℕ) (name : List ℕ)
    → ((n : ℕ) → (zero && n == 0) || (nat_le least n && nat_le n most) ≡ true → P n)
    → (d : Data) (n : ℕ) → inside name (number_within zero least most) d ≡ Some n → P n
number_in P zero least most name good d n e = by_value (get name d) e
  where
    by_test : (test : Bool) (m : ℕ) → ((zero && m == 0) || (nat_le least m && nat_le m most)) ≡ test → (if test then Some m else None) ≡ Some n → P n
    by_test true m t e = let same : m ≡ n = cc in subst P same (good m t)
    by_test false m t e = cc

    by_number : (number : Option ℕ) → option_and_then (in_limits zero least most) number ≡ Some n → P n
    by_number (Some m) e = by_test _ m refl e
    by_number None e = cc

    by_value : (value : Option Data) → option_and_then (number_within zero least most) value ≡ Some n → P n
    by_value (Some v) e = by_number (number_of v) e
    by_value None e = cc

either : (a b : Bool) → (a || b) ≡ true → (a ≡ true) ⊎ (b ≡ true)
either true b h = inl refl
either false b h = inr h

is_period : (n : ℕ) → (nat_le 1 n && nat_le n 3_155_760_000) ≡ true → IsPeriod n
is_period n h = record { least = leb-true 1 n (first_so _ _ h); most = leb-true n 3_155_760_000 (second_so _ _ h) }

is_duration : (n : ℕ) → ((n == 0) || (nat_le 604_800 n && nat_le n 7_776_000)) ≡ true → IsDuration n
is_duration n h = by (either _ _ h)
  where
    by : ((n == 0) ≡ true) ⊎ ((nat_le 604_800 n && nat_le n 7_776_000) ≡ true) → IsDuration n
    by (inl zero) = inl ((Decides-eqb n 0).0 zero)
    by (inr within) = inr (leb-true 604_800 n (first_so _ _ within), leb-true n 7_776_000 (second_so _ _ within))

-- the numbers of a body that is read are in their limits
pub are_set_in_limits : (inserts removes : Bool) (d : Data) (read : BucketBody) → IsBucketBody inserts removes d read → AreSetInLimits read.change
are_set_in_limits inserts removes d read is = record {
  period =
      set_where IsPeriod key.RetentionPolicy removes _ (get (key_name key.RetentionPolicy) d) read.change.retention_period
      (number_in IsPeriod false 1 3_155_760_000 (codes "retentionPeriod") is_period) is.retention_period;
  duration =
      set_where IsDuration key.SoftDeletePolicy removes _ (get (key_name key.SoftDeletePolicy) d) read.change.soft_seconds
      (number_in IsDuration true 604_800 7_776_000 (codes "retentionDurationSeconds") is_duration) is.soft_seconds;
}

-- a new bucket has a name
pub is_named : (inserts removes : Bool) (d : Data) (read : BucketBody) → inserts ≡ true → IsBucketBody inserts removes d read → IsSome read.name
is_named false removes d read true_is is = cc
is_named true removes d read true_is is = by_given _ (and_then-ok (given_of key.Name (text_where is_bucket_name) d) _ read.name is.name).2
  where
    by_given : (given : Option (List ℕ)) → needed key.Name given ≡ Ok read.name → IsSome read.name
    by_given (Some name) e = let same : Some name ≡ read.name = cc in subst IsSome same refl
    by_given None e = cc
