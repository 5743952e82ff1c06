-- Places among blocks, and the entry that a search ends at.
use Rattle.std.proofs.Common.{◌≡◌, ◌∙◌, ℕ, zero, suc, ◌+◌, ◌<◌, ◌≤◌, sym, ap, refl, List, [], ◌∷◌, ◌++◌, length, arith, length-append, slice_get, Some, None}
use Rattle.std.specs.Prelude.{Bool, true, false, ◌==◌, if◌then◌else◌}
use mathlib.Core.Bool.{true≢false}
use Rattle.std.proofs.lemmas.Bool.{eqb-true}
use Rattle.std.specs.List.{AllByRecursion, find, insert}
use Rattle.std.specs.declared.cmp.Ordering.{Ordering}
use Rattle.std.specs.declared.cmp.Ordering.TheVariants.{Less, Equal, Greater}
use Rattle.std.specs.Ordering.{is_eq, is_gt}
use Rattle.gcs_index.specs.declared.blocks.Entry.{Entry}
use Rattle.gcs_index.specs.declared.blocks.Block.{Block}
use Rattle.gcs_index.specs.Ranked.{Ends}
use Rattle.gcs_index.specs.Entries.{count_before, size_at, with_entry, IsSplit, Rises}
use Rattle.gcs_index.specs.Blocks.{entries_of, entries_at, entries_before, sizes_of, AreSized, IsPlace}

-- ---- places
module _ {K V : Type 0} where
  -- a place says the same of sizes and of blocks
  pub before_is : (bs : List (Block K V)) (k : ℕ) → count_before k (sizes_of bs) ≡ entries_before k bs
  before_is bs zero = refl
  before_is [] (suc k) = refl
  before_is (b ∷ bs) (suc k) = ap (λ n. length b.entries.items + n) (before_is bs k)

  pub size_is : (bs : List (Block K V)) (k : ℕ) → size_at k (sizes_of bs) ≡ length (entries_at k bs)
  size_is [] k = refl
  size_is (b ∷ bs) zero = refl
  size_is (b ∷ bs) (suc k) = size_is bs k

  -- where an entry stands there is a block
  pub good_within : (bs : List (Block K V)) (k at : ℕ) → at < size_at k (sizes_of bs) → k < length bs
  good_within [] k at good = absurd (omega (arith, good))
  good_within (b ∷ bs) zero at good = omega arith
  good_within (b ∷ bs) (suc k) at good = omega (arith, good_within bs k at good)

  pub empty_place : (bs : List (Block K V)) (k at : ℕ) → length bs ≡ 0 → IsPlace bs k at → length (entries_of bs) ≡ entries_before k bs + at
  empty_place [] zero at none place = omega (arith, place.1)
  empty_place [] (suc k) at none place = omega (arith, place.1)
  empty_place (b ∷ bs) k at none place = absurd (omega (arith, none))

  -- the entries before the next block
  pub before_next : (bs : List (Block K V)) (k n : ℕ) → k < length bs → n ≡ k + 1 → entries_before n bs ≡ entries_before k bs + length (entries_at k bs)
  before_next [] k n within e = absurd (omega (arith, within))
  before_next (b ∷ bs) k zero within e = absurd (omega (arith, e))
  before_next (b ∷ bs) zero (suc n) within e = ap (λ m. length b.entries.items + entries_before m bs) {x = n} {y = 0} (omega arith) ∙ (omega arith)
  before_next (b ∷ bs) (suc k) (suc n) within e = ap (λ m. length b.entries.items + m) (before_next bs k n (omega arith) (omega arith)) ∙ (omega arith)

  pub before_all : (bs : List (Block K V)) (n : ℕ) → length bs ≤ n → entries_before n bs ≡ length (entries_of bs)
  before_all [] zero past = refl
  before_all [] (suc n) past = refl
  before_all (b ∷ bs) zero past = absurd (omega (arith, past))
  before_all (b ∷ bs) (suc n) past = ap (λ m. length b.entries.items + m) (before_all bs n (omega arith)) ∙ sym (length-append b.entries.items (entries_of bs))

  pub some_in : (bs : List (Block K V)) (k : ℕ) → AreSized bs → k < length bs → 1 ≤ length (entries_at k bs)
  some_in [] k sizes within = absurd (omega (arith, within))
  some_in (b ∷ bs) zero sizes within = sizes.0.0
  some_in (b ∷ bs) (suc k) sizes within = some_in bs k sizes.1 (omega arith)

pub empty_is : {X : Type 0} (xs : List X) → length xs ≡ 0 → xs ≡ []
empty_is [] none = refl
empty_is (x ∷ xs) none = absurd (omega (arith, none))

not_zero : (n : ℕ) → 1 ≤ n → (n == 0) ≡ false
not_zero n some = by (n == 0) refl
  where
    by : (b : Bool) → (n == 0) ≡ b → b ≡ false
    by true e = absurd (omega (arith, eqb-true n 0 e, some))
    by false e = refl

module _ {K V : Type 0} where
  -- blocks without entries are none
  pub none_is : (bs : List (Block K V)) → AreSized bs → (length bs == 0) ≡ (length (entries_of bs) == 0)
  none_is [] sizes = refl
  none_is (b ∷ bs) sizes = not_zero (length (b ∷ bs)) (omega arith) ∙ sym (not_zero (length (b.entries.items ++ entries_of bs)) (omega (arith, sizes.0.0, length-append b.entries.items (entries_of bs))))

-- ---- the item that equals the probe
pub get_past : {X : Type 0} (xs : List X) (n : ℕ) → length xs ≤ n → slice_get xs n ≡ None
get_past [] n past = refl
get_past (x ∷ xs) zero past = absurd (omega (arith, past))
get_past (x ∷ xs) (suc n) past = get_past xs n (omega arith)

pub above_not_equal : (r : Ordering) → is_gt r ≡ true → is_eq r ≡ false
above_not_equal Less a = absurd (true≢false (sym a))
above_not_equal Equal a = absurd (true≢false (sym a))
above_not_equal Greater a = refl

below_or_equal : (r : Ordering) → is_gt r ≡ false → is_eq r ≡ false → r ≡ Less
below_or_equal Less a b = refl
below_or_equal Equal a b = absurd (true≢false b)
below_or_equal Greater a b = absurd (true≢false a)

module _ {X : Type 0} (st : X → Ordering) where
  none_equal : (xs : List X) → AllByRecursion (λ x. st x ≡ Less) xs → find (λ x. is_eq (st x)) xs ≡ None
  none_equal [] all = refl
  none_equal (x ∷ xs) all = ap (λ r. if is_eq r then Some x else find (λ y. is_eq (st y)) xs) all.0 ∙ none_equal xs all.1

  passed : (x : X) (xs : List X) → is_gt (st x) ≡ true → find (λ y. is_eq (st y)) (x ∷ xs) ≡ find (λ y. is_eq (st y)) xs
  passed x xs above = ap (λ b. if b then Some x else find (λ y. is_eq (st y)) xs) (above_not_equal (st x) above)

  -- the first item that isn't below the probe equals it: it is the first that does
  pub find_equal : (xs : List X) (n : ℕ) → IsSplit st xs n → ((y : X) → slice_get xs n ≡ Some y → is_eq (st y) ≡ true) → slice_get xs n ≡ find (λ x. is_eq (st x)) xs
  find_equal [] n s hit = refl
  find_equal (x ∷ xs) zero s hit = sym (ap (λ b. if b then Some x else find (λ y. is_eq (st y)) xs) (hit x refl))
  find_equal (x ∷ xs) (suc n) s hit = find_equal xs n record { within = omega (arith, s.within); below = s.below.1; from = s.from } hit ∙ sym (passed x xs s.below.0)

  -- it doesn't, or there is none: no item equals the probe
  pub find_none : (xs : List X) (n : ℕ) → IsSplit st xs n → Ends st xs → ((y : X) → slice_get xs n ≡ Some y → is_eq (st y) ≡ false) → find (λ x. is_eq (st x)) xs ≡ None
  find_none [] n s ends miss = refl
  find_none (x ∷ xs) zero s ends miss =
      let less : st x ≡ Less = below_or_equal (st x) s.from.0 (miss x refl) in
      none_equal (x ∷ xs) (less, ends.0 less)
  find_none (x ∷ xs) (suc n) s ends miss = passed x xs s.below.0 ∙ find_none xs n record { within = omega (arith, s.within); below = s.below.1; from = s.from } ends.1 miss

pub ends_from : {K V : Type 0} (cmp : K → K → Ordering) (st : K → Ordering) → ((k l : K) → cmp k l ≡ Less → st k ≡ Less → st l ≡ Less) → (es : List (Entry K V)) → Rises cmp es → Ends (λ (e : Entry K V). st e.key) es
ends_from cmp st ends [] r = tt
ends_from {K = K} {V = V} cmp st ends (e ∷ es) r = (λ less. later less es r.0, ends_from cmp st ends es r.1)
  where
    later : st e.key ≡ Less → (xs : List (Entry K V)) → AllByRecursion (λ x. cmp e.key x.key ≡ Less) xs → AllByRecursion (λ x. st x.key ≡ Less) xs
    later less [] all = tt
    later less (x ∷ xs) all = (ends e.key x.key all.0 less, later less xs all.1)

-- ---- a new entry at its place
pub put_is : {K V : Type 0} (cmp : K → K → Ordering) (e : Entry K V) (xs : List (Entry K V)) (n : ℕ) → IsSplit (λ (x : Entry K V). cmp e.key x.key) xs n → insert xs n e ≡ with_entry cmp e xs
put_is cmp e [] zero s = refl
put_is cmp e [] (suc n) s = absurd (omega (arith, s.within))
put_is cmp e (x ∷ xs) zero s = sym (ap (λ b. if b then x ∷ with_entry cmp e xs else e ∷ (x ∷ xs)) s.from.0)
put_is cmp e (x ∷ xs) (suc n) s =
    ap (λ l. x ∷ l) (put_is cmp e xs n record { within = omega (arith, s.within); below = s.below.1; from = s.from })
    ∙ sym (ap (λ b. if b then x ∷ with_entry cmp e xs else e ∷ (x ∷ xs)) s.below.0)

pub absent_is : {X : Type 0} (test : X → Bool) (xs : List X) → find test xs ≡ None → AllByRecursion (λ x. test x ≡ false) xs
absent_is test [] none = tt
absent_is {X = X} test (x ∷ xs) none = by (absent_is test xs) (test x) refl
  where
    by : (find test xs ≡ None → AllByRecursion (λ y. test y ≡ false) xs) → (b : Bool) → test x ≡ b → AllByRecursion (λ y. test y ≡ false) (x ∷ xs)
    by rest true e = let wrong = sym (ap (λ t. if t then Some x else find test xs) e) ∙ none in absurd (cc)
    by rest false e = (e, rest (sym (ap (λ t. if t then Some x else find test xs) e) ∙ none))
