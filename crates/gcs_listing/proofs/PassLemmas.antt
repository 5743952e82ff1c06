-- What seeks pass over: versions that are gone, each once.
use Rattle.std.proofs.Common.{◌≡◌, ℕ, ◌+◌, ◌≤◌, ◌∙◌, sym, ap, ap₂, refl, length, suc, List, [], ◌∷◌, arith, subst, Some, None, Option}
use Rattle.std.specs.Prelude.{Bool, true, false, ◌&&◌, if◌then◌else◌}
use mathlib.Core.Logic.{inl, inr}
use Rattle.std.specs.List.{filter, find, AllByRecursion}
use Rattle.std.proofs.lemmas.Bool.{and_parts, and_from, not-true, not_from_false}
use Rattle.gcs_meaning.specs.declared.listing.PageQuery.{PageQuery}
use Rattle.gcs_meaning.specs.declared.listing.Unit as unit
use Rattle.gcs_meaning.specs.declared.listing.View.{View}
use Rattle.gcs_meaning.specs.declared.listing.View.TheVariants.{Versions}
use Rattle.gcs_meaning.specs.declared.version.Row.{Row}
use Rattle.gcs_meaning.specs.Order.{comes_before, is_at_least, place_of, shown_rows, IsNumbered}
use Rattle.gcs_meaning.specs.Listing.{is_prefix, item_of, keeps, prefix_unit}
use Rattle.gcs_listing.specs.declared.looking.Look.{Look}
use Rattle.gcs_listing.specs.declared.looking.Look.TheVariants.{End, Next, Past}
use Rattle.gcs_listing.specs.Looking.{passed_in, IsLookedAt}
use Rattle.gcs_listing.specs.Seeking.{gone_count, is_gone, passed_count, past, IsAfterBound, IsBound, RisesBy}
use Rattle.gcs_listing.proofs.OrderLemmas.{apart, le_le, le_lt, lt_le, lt_not_back, lt_self}
use Rattle.gcs_listing.proofs.TextLemmas.{folds_to}
use Rattle.gcs_listing.proofs.ListingLemmas.{all_both, all_map, unit_total}
use Rattle.gcs_listing.proofs.UnitLemmas.{news_is, text_before}
use Rattle.gcs_listing.proofs.RowLemmas.{find_cases, finds_none, found_passes, none_found}
use Rattle.gcs_listing.proofs.SeekLemmas.{below_past}
use Rattle.gcs_listing.proofs.LookLemmas.{all_of, unit_item}

-- ---- counts
filter_kept : {X : Type 0} (s : X → Bool) (x : X) (xs : List X) → s x ≡ true → filter s (x ∷ xs) ≡ x ∷ filter s xs
filter_kept s x xs e = ap (λ (t : Bool). if t then x ∷ filter s xs else filter s xs) e

filter_passed : {X : Type 0} (s : X → Bool) (x : X) (xs : List X) → s x ≡ false → filter s (x ∷ xs) ≡ filter s xs
filter_passed s x xs e = ap (λ (t : Bool). if t then x ∷ filter s xs else filter s xs) e

abbrev one : Bool → ℕ
one true = 1
one false = 0

counted : {X : Type 0} (f : X → Bool) (x : X) (xs : List X) → length (filter f (x ∷ xs)) ≡ one (f x) + length (filter f xs)
counted f x xs = by (f x) refl
  where
    by : (t : Bool) → f x ≡ t → length (filter f (x ∷ xs)) ≡ one (f x) + length (filter f xs)
    by true e =
        let k : length (filter f (x ∷ xs)) ≡ suc (length (filter f xs)) = ap length (filter_kept f x xs e) in
        let o : one (f x) ≡ 1 = ap one e in
        omega (arith, k, o)
    by false e =
        let k : length (filter f (x ∷ xs)) ≡ length (filter f xs) = ap length (filter_passed f x xs e) in
        let o : one (f x) ≡ 0 = ap one e in
        omega (arith, k, o)

one_le : (a b : Bool) → (a ≡ true → b ≡ true) → one a ≤ one b
one_le true true h = omega arith
one_le true false h = absurd (apart (h refl) refl)
one_le false b h = omega arith

count_le : {X : Type 0} (f g : X → Bool) (xs : List X) → AllByRecursion (λ x. f x ≡ true → g x ≡ true) xs → length (filter f xs) ≤ length (filter g xs)
count_le f g [] all = omega arith
count_le f g (x ∷ xs) all =
    let rest : length (filter f xs) ≤ length (filter g xs) = count_le f g xs all.1 in
    let here : one (f x) ≤ one (g x) = one_le (f x) (g x) all.0 in
    omega (arith, rest, here, counted f x xs, counted g x xs)

count_less : {X : Type 0} (f g h : X → Bool) (k : X) (xs : List X) → AllByRecursion (λ x. f x ≡ true → g x ≡ true) xs → find h xs ≡ Some k → f k ≡ false → g k ≡ true → length (filter f xs) + 1 ≤ length (filter g xs)
count_less f g h k [] all e out there = absurd (cc)
count_less f g h k (x ∷ xs) all e out there = elim (find_cases h x k xs e) [
  | inl is ↦
      let rest : length (filter f xs) ≤ length (filter g xs) = count_le f g xs all.1 in
      let none : one (f x) ≡ 0 = ap one (subst (λ y. f y ≡ false) is.1 out) in
      let some : one (g x) ≡ 1 = ap one (subst (λ y. g y ≡ true) is.1 there) in
      omega (arith, rest, none, some, counted f x xs, counted g x xs)
  | inr more ↦
      let rest : length (filter f xs) + 1 ≤ length (filter g xs) = count_less f g h k xs all.1 more.1 out there in
      let here : one (f x) ≤ one (g x) = one_le (f x) (g x) all.0 in
      omega (arith, rest, here, counted f x xs, counted g x xs)
]

-- ---- what is passed over
pub passed_le : (view : View) (moment : ℕ) (rows : List Row) (b c : unit.Unit) → comes_before c b ≡ false → passed_count view moment rows b ≤ passed_count view moment rows c
unfolding passed_count
passed_le view moment rows b c le =
    count_le (λ row. is_gone moment row && comes_before (place_of row) b) (λ row. is_gone moment row && comes_before (place_of row) c) (shown_rows view rows)
    (all_of (λ row. λ h.
    (let both = and_parts (is_gone moment row) (comes_before (place_of row) b) h in
    and_from (is_gone moment row) (comes_before (place_of row) c) both.0 (lt_le unit_total (place_of row) b c both.1 le))) (shown_rows view rows))

pub passed_gone : (view : View) (moment : ℕ) (rows : List Row) (b : unit.Unit) → passed_count view moment rows b ≤ gone_count view moment rows
unfolding passed_count gone_count
passed_gone view moment rows b =
    count_le (λ row. is_gone moment row && comes_before (place_of row) b) (is_gone moment) (shown_rows view rows)
    (all_of (λ row. λ h. (and_parts (is_gone moment row) (comes_before (place_of row) b) h).0) (shown_rows view rows))

-- a version from b on that is gone, and comes before c
pub passed_more : (view : View) (moment : ℕ) (rows : List Row) (b c : unit.Unit) (k : Row) → find (is_at_least b) (shown_rows view rows) ≡ Some k → is_gone moment k ≡ true → comes_before (place_of k) b ≡ false → comes_before (place_of k) c ≡ true
    → passed_count view moment rows b + 1 ≤ passed_count view moment rows c
unfolding passed_count
passed_more view moment rows b c k found gone from before =
    let le : comes_before c b ≡ false = lt_not_back unit_total b c (le_lt unit_total b (place_of k) c from before) in
    count_less (λ row. is_gone moment row && comes_before (place_of row) b) (λ row. is_gone moment row && comes_before (place_of row) c) (is_at_least b) k (shown_rows view rows)
    (all_of (λ row. λ h.
    (let both = and_parts (is_gone moment row) (comes_before (place_of row) b) h in
    and_from (is_gone moment row) (comes_before (place_of row) c) both.0 (lt_le unit_total (place_of row) b c both.1 le))) (shown_rows view rows))
    found
    (ap₂ (λ (s t : Bool). s && t) gone from)
    (and_from (is_gone moment k) (comes_before (place_of k) c) gone before)

-- ---- a version that is passed over
-- it comes before the bound that follows it
pub before_next : (k : Row) (b : unit.Unit) → IsAfterBound Versions (place_of k) b → comes_before (place_of k) b ≡ true
before_next k b is = by (comes_before (place_of k) b) refl
  where
    by : (t : Bool) → comes_before (place_of k) b ≡ t → t ≡ true
    by true e = refl
    by false e = absurd (apart (is.after k (not_from_false (comes_before (place_of k) b) e)) (lt_self unit_total (place_of k)))

find_alike : {X : Type 0} (f g : X → Bool) (xs : List X) → AllByRecursion (λ x. f x ≡ g x) xs → find f xs ≡ find g xs
find_alike f g [] all = refl
find_alike f g (x ∷ xs) all = ap (λ (t : Bool). if t then Some x else find f xs) all.0 ∙ ap (λ o. if g x then Some x else o) (find_alike f g xs all.1)

pub all_filter : {X : Type 0} (P : X → Type 0) (s : X → Bool) (xs : List X) → AllByRecursion P xs → AllByRecursion P (filter s xs)
all_filter P s [] all = tt
all_filter P s (x ∷ xs) all = by (s x) (all_filter P s xs all.1)
  where
    by : (t : Bool) → AllByRecursion P (filter s xs) → AllByRecursion P (if t then x ∷ filter s xs else filter s xs)
    by true rest = (all.0, rest)
    by false rest = rest

find_here : {X : Type 0} (f : X → Bool) (x : X) (xs : List X) → f x ≡ true → find f (x ∷ xs) ≡ Some x
find_here f x xs e = ap (λ (t : Bool). if t then Some x else find f xs) e

find_later : {X : Type 0} (f : X → Bool) (x : X) (xs : List X) → f x ≡ false → find f (x ∷ xs) ≡ find f xs
find_later f x xs e = ap (λ (t : Bool). if t then Some x else find f xs) e

-- the first that is found stays: it is the first of those that stay
pub find_stays : {X : Type 0} (f s : X → Bool) (k : X) (xs : List X) → find f xs ≡ Some k → s k ≡ true → find f (filter s xs) ≡ Some k
find_stays f s k [] h stay = absurd (cc)
find_stays f s k (x ∷ xs) h stay = elim (find_cases f x k xs h) [
  | inl is ↦ ap (find f) (filter_kept s x xs (subst (λ y. s y ≡ true) is.1 stay)) ∙ find_here f x (filter s xs) is.0 ∙ ap Some (sym is.1)
  | inr more ↦ by (s x) refl more.0 (find_stays f s k xs more.1 stay)
]
  where
    by : (t : Bool) → s x ≡ t → f x ≡ false → find f (filter s xs) ≡ Some k → find f (filter s (x ∷ xs)) ≡ Some k
    by true e out rest = ap (find f) (filter_kept s x xs e) ∙ find_later f x (filter s xs) out ∙ rest
    by false e out rest = ap (find f) (filter_passed s x xs e) ∙ rest

pub find_none_stays : {X : Type 0} (f s : X → Bool) (xs : List X) → find f xs ≡ None → find f (filter s xs) ≡ None
find_none_stays f s xs h = finds_none f (filter s xs) (all_filter (λ x. f x ≡ false) s xs (none_found f xs h))

-- it doesn't: those that stay are the same from it on and from just past it on
pub seek_on : (s : Row → Bool) (b c : unit.Unit) (k : Row) (xs : List Row) → RisesBy place_of xs → AllByRecursion IsNumbered xs → find (is_at_least b) xs ≡ Some k → s k ≡ false → IsAfterBound Versions (place_of k) c
    → find (is_at_least c) (filter s xs) ≡ find (is_at_least b) (filter s xs)
seek_on s b c k [] rise ones h gone is = absurd (cc)
seek_on s b c k (x ∷ xs) rise ones h gone is = elim (find_cases (is_at_least b) x k xs h) [
  | inl found ↦
      let out : filter s (x ∷ xs) ≡ filter s xs = filter_passed s x xs (subst (λ y. s y ≡ false) found.1 gone) in
      ap (find (is_at_least c)) out
      ∙ find_alike (is_at_least c) (is_at_least b) (filter s xs)
      (all_filter (λ y. is_at_least c y ≡ is_at_least b y) s xs (all_map (λ y both. alike found.0 found.1 y both.0 both.1) xs (all_both (λ y. comes_before (place_of x) (place_of y) ≡ true) IsNumbered xs rise.0 ones.1)))
      ∙ sym (ap (find (is_at_least b)) out)
  | inr more ↦
      let before : comes_before (place_of x) (place_of k) ≡ true = (found_passes (is_at_least b) (λ y. comes_before (place_of x) (place_of y) ≡ true) k xs rise.0 more.1).1 in
      by (s x) refl (low before) more.0 (seek_on s b c k xs rise.1 ones.1 more.1 gone is)
]
  where
    alike : is_at_least b x ≡ true → k ≡ x → (y : Row) → comes_before (place_of x) (place_of y) ≡ true → IsNumbered y → is_at_least c y ≡ is_at_least b y
    alike at same y before n =
        is.due y n (subst (λ z. comes_before (place_of z) (place_of y) ≡ true) (sym same) before)
        ∙ sym (not_from_false (comes_before (place_of y) b) (le_le unit_total b (place_of x) (place_of y) (not-true (comes_before (place_of x) b) at) (lt_not_back unit_total (place_of x) (place_of y) before)))

    low : comes_before (place_of x) (place_of k) ≡ true → is_at_least c x ≡ false
    low before = low_by (is_at_least c x) refl
      where
        low_by : (t : Bool) → is_at_least c x ≡ t → t ≡ false
        low_by false e = refl
        low_by true e = absurd (apart (is.after x e) (lt_not_back unit_total (place_of x) (place_of k) before))

    by : (t : Bool) → s x ≡ t → is_at_least c x ≡ false → is_at_least b x ≡ false → find (is_at_least c) (filter s xs) ≡ find (is_at_least b) (filter s xs) → find (is_at_least c) (filter s (x ∷ xs)) ≡ find (is_at_least b) (filter s (x ∷ xs))
    by true e out_c out_b rest =
        let kept : filter s (x ∷ xs) ≡ x ∷ filter s xs = filter_kept s x xs e in
        ap (find (is_at_least c)) kept ∙ find_later (is_at_least c) x (filter s xs) out_c ∙ rest ∙ sym (ap (find (is_at_least b)) kept ∙ find_later (is_at_least b) x (filter s xs) out_b)
    by false e out_c out_b rest =
        let passed : filter s (x ∷ xs) ≡ filter s xs = filter_passed s x xs e in
        ap (find (is_at_least c)) passed ∙ rest ∙ sym (ap (find (is_at_least b)) passed)

-- ---- what a look has passed over
bound_past : (view : View) (moment : ℕ) (rows : List Row) (q : PageQuery) (k : Row) (u b : unit.Unit) → u ≡ item_of q.view k → IsBound q (Some u) b → passed_count view moment rows (place_of k) ≤ passed_count view moment rows b
bound_past view moment rows q k u b own is = passed_le view moment rows (place_of k) b (lt_not_back unit_total (place_of k) b (by (comes_before (place_of k) b) refl))
  where
    by : (t : Bool) → comes_before (place_of k) b ≡ t → t ≡ true
    by true e = refl
    by false e = absurd (apart (subst (λ w. comes_before w (item_of q.view k) ≡ true) own (is.after k (not_from_false (comes_before (place_of k) b) e))) (lt_self unit_total (item_of q.view k)))

pub look_passed : (view : View) (moment : ℕ) (rows : List Row) (q : PageQuery) (cur : Option unit.Unit) (k : Row) → keeps q k ≡ true → (look : Look) → IsLookedAt q cur k look
    → passed_count view moment rows (place_of k) ≤ passed_in view moment rows look
look_passed view moment rows q cur k keep End is = passed_gone view moment rows (place_of k)
look_passed view moment rows q cur k keep (Next found) is = by (is_prefix is.0) refl
  where
    same : (b : unit.Unit) → b ≡ place_of k → passed_count view moment rows (place_of k) ≤ passed_count view moment rows b
    same b e = subst (λ w. passed_count view moment rows (place_of k) ≤ passed_count view moment rows w) (sym e) (omega arith)

    by : (t : Bool) → is_prefix is.0 ≡ t → passed_count view moment rows (place_of k) ≤ passed_count view moment rows found.bound
    by true e = same found.bound (is.2.at_prefix e)
    by false e = bound_past view moment rows q k is.0 found.bound (unit_item q cur k is.0 (news_is q cur k is.0 is.1) e) (is.2.at_item e)
look_passed view moment rows q cur k keep (Past b) is =
    let to = folds_to q.prefix q.delimiter k.name is.1.0 (and_parts _ _ keep).0 is.1.1 in
    subst (λ w. passed_count view moment rows (place_of k) ≤ passed_count view moment rows w) (sym is.1.2)
    (passed_le view moment rows (place_of k) (prefix_unit (past is.1.0))
    (lt_not_back unit_total (place_of k) (prefix_unit (past is.1.0)) (text_before (place_of k) (prefix_unit (past is.1.0)) (below_past q.prefix q.delimiter k.name is.1.0 to k.name to.front))))
