-- A bucket that is fit stays fit where a version of it is deleted, changed or put.
use Rattle.std.proofs.Common.{◌≡◌, ◌≤◌, ◌<◌, ℕ, Bool, true, false, List, [], ◌∷◌, Option, Some, None, length, refl, arith}
use Rattle.std.specs.Prelude.{is_some, if◌then◌else◌}
use Rattle.std.specs.List.{AllByRecursion}
use Rattle.gcs_meaning.specs.declared.settings.Settings.{Settings}
use Rattle.gcs_meaning.specs.declared.settings.Pre.{Pre}
use Rattle.gcs_meaning.specs.declared.settings.Meta.{Meta}
use Rattle.gcs_meaning.specs.declared.version.Row.{Row}
use Rattle.gcs_meaning.specs.declared.version.Expect.{Expect}
use Rattle.gcs_meaning.specs.declared.policy.Retired.{Retired}
use Rattle.gcs_meaning.specs.declared.policy.Retired.TheVariants.{Noncurrent as ToNoncurrent, Soft as ToSoft, Out}
use Rattle.gcs_meaning.specs.Content.{Digested, bytes_in}
use Rattle.gcs_meaning.specs.Tests.{largest_object, size_refusal}
use Rattle.gcs_meaning.specs.Policy.{pre_refusal, retired_to}
use Rattle.gcs_meaning.specs.Slot.{State}
use Rattle.gcs_meaning.specs.Choosing.{is_chosen, chosen_row}
use Rattle.gcs_meaning.specs.Retiring.{retired_row}
use Rattle.gcs_meaning.specs.ObjectChange.{is_released, changed_row, change_state}
use Rattle.gcs_meaning.specs.ObjectDeletion.{delete_state}
use Rattle.gcs_meaning.specs.Put.{replaced_refusal, hash_refusal, generation_of, metageneration_of, put_refusal, put_state, new_row}
use Rattle.gcs_meaning.specs.Fit.{IsFitRow, IsFitState}
use Rattle.gcs_meaning.proofs.Listed.{all-change_first, all-with_row}
use Rattle.gcs_meaning.proofs.Ordered.{above_other, changed_rise, changed_single, live_retired, meta_rise, meta_single, placed_rise, placed_single, retired_less}
use Rattle.gcs_meaning.proofs.Passing.{second_passed, size_passed}

-- what becomes of a version that is retired
retired_fit : (to : Retired) (o t m : ℕ) (row : Row) → t ≤ m → IsFitRow o m row → AllByRecursion (IsFitRow o m) (retired_row to t row)
retired_fit ToNoncurrent o t m row now h =
    (record { generation = h.generation; created = h.created; updated = h.updated; start = h.start; began = now; size = h.size }, tt)
retired_fit (ToSoft hard) o t m row now h =
    (record { generation = h.generation; created = h.created; updated = h.updated; start = h.start; began = now; size = h.size }, tt)
retired_fit Out o t m row now h = tt

pub delete_state_fit : (o t m u : ℕ) (s : State) (name : List ℕ) (generation : Option ℕ) → t ≤ m → IsFitState o m u s → IsFitState o m u (delete_state s t name generation)
unfolding delete_state
delete_state_fit o t m u s name generation now h = record {
  created = h.created;
  updated = h.updated;
  soft = h.soft;
  policy = h.policy;
  rows = all-change_first (IsFitRow o m) (is_chosen name generation) (retired_row (retired_to s.settings t (is_some generation)) t)
      (λ row. retired_fit (retired_to s.settings t (is_some generation)) o t m row now) s.rows h.rows;
  rise = changed_rise (is_chosen name generation) (retired_row (retired_to s.settings t (is_some generation)) t) (retired_less (retired_to s.settings t (is_some generation)) t) s.rows h.rise;
  single = changed_single (is_chosen name generation) (retired_row (retired_to s.settings t (is_some generation)) t) (retired_less (retired_to s.settings t (is_some generation)) t) s.rows h.single;
  uploads = h.uploads;
}

pub delete_same : (s : State) (t : ℕ) (name : List ℕ) (generation : Option ℕ) → (delete_state s t name generation).generation ≡ s.generation
unfolding delete_state
delete_same s t name generation = refl

-- a version whose metadata is changed
start_fit : (b : Bool) (t start m : ℕ) → t ≤ m → start ≤ m → (if b then t else start) ≤ m
start_fit true t start m now before = now
start_fit false t start m now before = before

pub changed_row_fit : (o t m : ℕ) (meta : Meta) (row : Row) → t ≤ m → IsFitRow o m row → IsFitRow o m (changed_row t meta row)
changed_row_fit o t m meta row now h =
    record { generation = h.generation; created = h.created; updated = now; start = start_fit (is_released row.meta meta) t row.retention_start m now h.start; began = h.began; size = h.size }

pub change_state_fit : (o m u t : ℕ) (meta : Meta) (s : State) (name : List ℕ) (generation : Option ℕ) (row : Row) → chosen_row name generation s.rows ≡ Some row → IsFitRow o m (changed_row t meta row) → IsFitState o m u s → IsFitState o m u (change_state s name generation (changed_row t meta row))
unfolding change_state
change_state_fit o m u t meta s name generation row found new h = record {
  created = h.created;
  updated = h.updated;
  soft = h.soft;
  policy = h.policy;
  rows = all-change_first (IsFitRow o m) (is_chosen name generation) (λ had. changed_row t meta row ∷ []) (λ had fit. (new, tt)) s.rows h.rows;
  rise = meta_rise t meta (is_chosen name generation) row s.rows found h.rise;
  single = meta_single t meta (is_chosen name generation) row s.rows found h.single;
  uploads = h.uploads;
}

pub change_same : (s : State) (name : List ℕ) (generation : Option ℕ) (row : Row) → (change_state s name generation row).generation ≡ s.generation
unfolding change_state
change_same s name generation row = refl

-- the put of a version
retired_below : (to : Retired) (g t : ℕ) (row : Row) → row.generation < g → AllByRecursion (λ other. other.generation < g) (retired_row to t row)
retired_below ToNoncurrent g t row below = (below, tt)
retired_below (ToSoft hard) g t row below = (below, tt)
retired_below Out g t row below = tt

pub put_state_fit : (o t m u : ℕ) (s : State) (row : Row) → t ≤ m → AllByRecursion (λ other. other.generation < row.generation) s.rows → IsFitRow o m row → IsFitState o m u s → IsFitState o m u (put_state s t row)
unfolding put_state
put_state_fit o t m u s row now above new h = record {
  created = h.created;
  updated = h.updated;
  soft = h.soft;
  policy = h.policy;
  rows = all-with_row (IsFitRow o m) row _ new
      (all-change_first (IsFitRow o m) (is_chosen row.name None) (retired_row (retired_to s.settings t false) t) (λ had. retired_fit (retired_to s.settings t false) o t m had now) s.rows h.rows);
  rise = placed_rise row _
      (above_other row _ (all-change_first (λ other. other.generation < row.generation) (is_chosen row.name None) (retired_row (retired_to s.settings t false) t)
      (λ had. retired_below (retired_to s.settings t false) row.generation t had) s.rows above))
      (changed_rise (is_chosen row.name None) (retired_row (retired_to s.settings t false) t) (retired_less (retired_to s.settings t false) t) s.rows h.rise);
  single = placed_single row _ (live_retired (retired_to s.settings t false) t row.name s.rows h.single)
      (changed_single (is_chosen row.name None) (retired_row (retired_to s.settings t false) t) (retired_less (retired_to s.settings t false) t) s.rows h.single);
  uploads = h.uploads;
}

pub put_same : (s : State) (t : ℕ) (row : Row) → (put_state s t row).generation ≡ s.generation
unfolding put_state
put_same s t row = refl

-- a put that passes its tests is of a size within the limit
pub size_within : (settings : Settings) (t : ℕ) (pre : Pre) (expect : Expect) (hashed : Digested) (live : Option Row) → put_refusal settings t pre expect hashed live ≡ None → length (bytes_in hashed) ≤ largest_object
unfolding put_refusal
size_within settings t pre expect hashed live h =
    size_passed (length (bytes_in hashed))
    (second_passed (hash_refusal expect hashed) (size_refusal (length (bytes_in hashed)))
    (second_passed (replaced_refusal settings t live) _
    (second_passed (pre_refusal pre (generation_of live) (metageneration_of live)) _ h)))

pub new_row_fit : (settings : Settings) (o t m : ℕ) (name : List ℕ) (meta : Meta) (hashed : Digested) (components : Option ℕ) → t ≤ m → length (bytes_in hashed) ≤ largest_object → IsFitRow o m (new_row settings t o name meta hashed components)
new_row_fit settings o t m name meta hashed components now size =
    record { generation = omega arith; created = now; updated = now; start = now; began = omega arith; size = size }
