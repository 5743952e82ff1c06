-- The first buckets of those that are listed, by name: what stands beyond them never comes among them again.
use Rattle.std.proofs.Common.{◌≡◌, ◌≤◌, ◌<◌, ◌∙◌, sym, ap, refl, subst, ℕ, zero, suc, Bool, true, false, List, [], ◌∷◌, length, take, arith}
use Rattle.std.specs.Prelude.{not, insert, slice_index_or, if◌then◌else◌}
use Rattle.std.specs.List.{AllByRecursion}
use Rattle.std.specs.List.Sorted.{IsPartitionedBy, IsPartitionPoint}
use Rattle.std.proofs.lemmas.Bool.{not-false, not-true}
use Rattle.std.proofs.lemmas.Cmp.{nat_list_cmp_total}
use Rattle.std.proofs.lemmas.List.{length-take, take-take}
use Rattle.gcs_meaning.specs.declared.command.Answer.{Answer}
use Rattle.gcs_meaning.specs.declared.version.BucketRow.{BucketRow}
use Rattle.gcs_meaning.specs.Order.{is_below}
use Rattle.gcs_meaning.proofs.Listed.{all-weaker}
use Rattle.gcs_listing.proofs.OrderLemmas.{le_le, lt_not_back}
use Rattle.gcs_rewrite.specs.Lists.{listed_from, rows_in, with_all_listed, with_listed, AreListed, RiseByName}

-- ---- the place that a binary search finds
at_of : (P : BucketRow → Type 0) (rows : List BucketRow) (j : ℕ) (d : BucketRow) → j < length rows → AllByRecursion P rows → P (slice_index_or rows j d)
at_of P [] j d within all = absurd (omega arith)
at_of P (first ∷ rest) zero d within all = all.0
at_of P (first ∷ rest) (suc j) d within all = at_of P rest j d (omega arith) all.1

-- the buckets that don't come after one come first
pub parted : (row : BucketRow) (rows : List BucketRow) → RiseByName rows → IsPartitionedBy (λ other. not (is_below row.name other.name)) rows
parted row [] rise i j d upto within is = absurd (omega arith)
parted row (first ∷ rest) rise zero zero d upto within is = is
parted row (first ∷ rest) rise zero (suc j) d upto within is =
    let later : BucketRow = slice_index_or rest j d in
    let above : is_below later.name first.name ≡ false = at_of (λ other. is_below other.name first.name ≡ false) rest j d (omega arith) rise.0 in
    ap not (le_le nat_list_cmp_total first.name later.name row.name above (not-true (is_below row.name later.name) is))
parted row (first ∷ rest) rise (suc i) zero d upto within is = absurd (omega arith)
parted row (first ∷ rest) rise (suc i) (suc j) d upto within is = parted row rest rise.1 i j d (omega arith) (omega arith) is

-- there the bucket is inserted
pub placed : (row : BucketRow) (rows : List BucketRow) (i : ℕ) → i ≤ length rows
    → IsPartitionPoint (λ other. not (is_below row.name other.name) ≡ true) (λ other. not (is_below row.name other.name) ≡ false) rows i
    → with_listed row rows ≡ insert rows i row
placed row [] zero within point = refl
placed row [] (suc i) within point = absurd (omega arith)
placed row (first ∷ rest) zero within point =
    ap (λ b. if b then row ∷ first ∷ rest else first ∷ with_listed row rest) (not-false (is_below row.name first.name) (point.1 0 row (omega arith) (omega arith)))
placed row (first ∷ rest) (suc i) within point =
    ap (λ b. if b then row ∷ first ∷ rest else first ∷ with_listed row rest) (not-true (is_below row.name first.name) (point.0 0 row (omega arith) (omega arith)))
    ∙ ap (λ l. first ∷ l) (placed row rest i (omega arith)
    ((λ k d low high. point.0 (suc k) d (omega arith) (omega arith)), (λ k d low high. point.1 (suc k) d (omega arith) (omega arith))))

-- an insertion before which the rows beyond the first are dropped
pub insert_within : (row : BucketRow) (rows : List BucketRow) (i m : ℕ) → i ≤ m → i ≤ length rows → insert (take m rows) i row ≡ take (suc m) (insert rows i row)
insert_within row [] zero zero upto within = refl
insert_within row [] zero (suc m) upto within = refl
insert_within row [] (suc i) m upto within = absurd (omega arith)
insert_within row (first ∷ rest) zero m upto within = refl
insert_within row (first ∷ rest) (suc i) zero upto within = absurd (omega arith)
insert_within row (first ∷ rest) (suc i) (suc m) upto within = ap (λ l. first ∷ l) (insert_within row rest i m (omega arith) (omega arith))

-- ---- the buckets stay in order
all_listed : (P : BucketRow → Type 0) (row : BucketRow) (rows : List BucketRow) → P row → AllByRecursion P rows → AllByRecursion P (with_listed row rows)
all_listed P row [] new all = (new, tt)
all_listed P row (first ∷ rest) new all = by (is_below row.name first.name) (all_listed P row rest new all.1)
  where
    by : (b : Bool) → AllByRecursion P (with_listed row rest) → AllByRecursion P (if b then row ∷ first ∷ rest else first ∷ with_listed row rest)
    by true more = (new, all)
    by false more = (all.0, more)

rise_listed : (row : BucketRow) (rows : List BucketRow) → RiseByName rows → RiseByName (with_listed row rows)
rise_listed row [] rise = (tt, tt)
rise_listed row (first ∷ rest) rise = by (is_below row.name first.name) refl (rise_listed row rest rise.1)
  where
    by : (b : Bool) → is_below row.name first.name ≡ b → RiseByName (with_listed row rest) → RiseByName (if b then row ∷ first ∷ rest else first ∷ with_listed row rest)
    by true e more =
        let back : is_below first.name row.name ≡ false = lt_not_back nat_list_cmp_total row.name first.name e in (
          (
            back,
            all-weaker (λ later. is_below later.name first.name ≡ false) (λ later. is_below later.name row.name ≡ false)
                (λ later above. le_le nat_list_cmp_total row.name first.name later.name back above) rest rise.0,
          ),
          rise,
        )
    by false e more = (all_listed (λ later. is_below later.name first.name ≡ false) row rest e rise.0, more)

all_taken : (P : BucketRow → Type 0) (most : ℕ) (rows : List BucketRow) → AllByRecursion P rows → AllByRecursion P (take most rows)
all_taken P zero rows all = tt
all_taken P (suc most) [] all = tt
all_taken P (suc most) (first ∷ rest) all = (all.0, all_taken P most rest all.1)

rise_taken : (most : ℕ) (rows : List BucketRow) → RiseByName rows → RiseByName (take most rows)
rise_taken zero rows rise = tt
rise_taken (suc most) [] rise = tt
rise_taken (suc most) (first ∷ rest) rise = (all_taken (λ later. is_below later.name first.name ≡ false) most rest rise.0, rise_taken most rest rise.1)

pub one_listed : (most : ℕ) (row : BucketRow) (rows left : List BucketRow) → AreListed most rows → left ≡ take most (with_listed row rows) → AreListed most left
one_listed most row rows left h is = subst (AreListed most) (sym is) record {
  rise = rise_taken most (with_listed row rows) (rise_listed row rows h.rise);
  few = omega (arith, length-take most (with_listed row rows));
}

-- ---- what is dropped doesn't come back
front_taken : (n : ℕ) (first : BucketRow) (rest : List BucketRow) → take n (first ∷ take n rest) ≡ take n (first ∷ rest)
front_taken zero first rest = refl
front_taken (suc n) first rest = ap (λ l. first ∷ l) (take-take n (suc n) rest (omega arith))

first_listed : (most : ℕ) (row : BucketRow) (rows : List BucketRow) → take most (with_listed row rows) ≡ take most (with_listed row (take most rows))
first_listed zero row rows = refl
first_listed (suc most) row [] = refl
first_listed (suc most) row (first ∷ rest) = by (is_below row.name first.name) (first_listed most row rest)
  where
    by : (b : Bool) → take most (with_listed row rest) ≡ take most (with_listed row (take most rest))
        → take (suc most) (if b then row ∷ first ∷ rest else first ∷ with_listed row rest)
        ≡ take (suc most) (if b then row ∷ first ∷ take most rest else first ∷ with_listed row (take most rest))
    by true more = ap (λ l. row ∷ l) (sym (front_taken most first rest))
    by false more = ap (λ l. first ∷ l) more

pub first_all_listed : (most : ℕ) (added rows : List BucketRow) → take most (with_all_listed added rows) ≡ take most (with_all_listed added (take most rows))
first_all_listed most [] rows = sym (take-take most most rows (omega arith))
first_all_listed most (row ∷ added) rows =
    first_all_listed most added (with_listed row rows)
    ∙ ap (λ l. take most (with_all_listed added l)) (first_listed most row rows)
    ∙ sym (first_all_listed most added (with_listed row (take most rows)))

pub first_from : (most : ℕ) (answers : List Answer) (rows : List BucketRow) → take most (listed_from rows answers) ≡ take most (listed_from (take most rows) answers)
first_from most [] rows = sym (take-take most most rows (omega arith))
first_from most (a ∷ answers) rows =
    first_from most answers (with_all_listed (rows_in a) rows)
    ∙ ap (λ l. take most (listed_from l answers)) (first_all_listed most (rows_in a) rows)
    ∙ sym (first_from most answers (with_all_listed (rows_in a) (take most rows)))
