-- The versions that a view shows at a moment rise by their places and by their items.
use Rattle.std.proofs.Common.{◌≡◌, ◌≤◌, ◌+◌, ℕ, ◌∙◌, arith, sym, ap, ap₂, refl, List, [], ◌∷◌, Some, None, Option}
use Rattle.std.specs.Prelude.{Bool, true, false, if◌then◌else◌}
use mathlib.Core.Logic.{inl, inr}
use Rattle.std.specs.List.{filter, find, AllByRecursion}
use Rattle.std.specs.Str.{bytes_eq}
use Rattle.std.proofs.lemmas.Bool.{and_from, not-true, not_from_false}
use Rattle.gcs_meaning.specs.declared.listing.Unit as unit
use Rattle.gcs_meaning.specs.declared.listing.View.{View}
use Rattle.gcs_meaning.specs.declared.listing.View.TheVariants.{Live, Versions, Soft}
use Rattle.gcs_meaning.specs.declared.version.Row.{Row}
use Rattle.gcs_meaning.specs.Aging.{aged_rows, kind_stays}
use Rattle.gcs_meaning.specs.Choosing.{is_live, is_live_of}
use Rattle.gcs_meaning.specs.Order.{comes_before, is_at_least, is_shown, place_of, shown_rows, unit_at, AreSingle, AreVersions, IsNumbered, Rise}
use Rattle.gcs_meaning.specs.Listing.{item_of}
use Rattle.gcs_listing.specs.declared.looking.Found.{Found}
use Rattle.gcs_listing.specs.Looking.{passed_by}
use Rattle.gcs_listing.specs.Seeking.{gone_count, listed_rows, passed_count, IsAfterBound, IsView, RisesBy}
use Rattle.gcs_listing.proofs.OrderLemmas.{apart}
use Rattle.gcs_listing.proofs.ListingLemmas.{all_both}
use Rattle.gcs_listing.proofs.UnitLemmas.{text_before}
use Rattle.gcs_listing.proofs.RowLemmas.{finds_none, found_passes, none_found}
use Rattle.gcs_listing.proofs.LookLemmas.{all_of}
use Rattle.gcs_listing.proofs.SeekLemmas.{bytes_eq_from}
use Rattle.gcs_listing.proofs.BoundLemmas.{split}
use Rattle.gcs_listing.proofs.PassLemmas.{all_filter, before_next, find_none_stays, find_stays, passed_gone, passed_le, passed_more, seek_on}

-- what is sought from a bound is sought from its text and its number
pub sought : (view : View) (rows : List Row) (from : unit.Unit) (text : List ℕ) (number : ℕ) → text ≡ from.text → number ≡ from.number
    → find (is_at_least from) (shown_rows view rows) ≡ find (is_at_least (unit_at text number)) (shown_rows view rows)
sought view rows from text number same_text same_number = ap₂ (λ t n. find (is_at_least (unit_at t n)) (shown_rows view rows)) (sym same_text) (sym same_number)

rises_from : (rows : List Row) → Rise rows → RisesBy place_of rows
rises_from [] h = tt
rises_from (x ∷ rows) h = (h.0, rises_from rows h.1)

rises_filter : (f : Row → unit.Unit) (s : Row → Bool) (rows : List Row) → RisesBy f rows → RisesBy f (filter s rows)
rises_filter f s [] h = tt
rises_filter f s (x ∷ rows) h = by (s x) (rises_filter f s rows h.1)
  where
    by : (t : Bool) → RisesBy f (filter s rows) → RisesBy f (if t then x ∷ filter s rows else filter s rows)
    by true rest = (all_filter (λ y. comes_before (f x) (f y) ≡ true) s rows h.0, rest)
    by false rest = rest

single_filter : (s : Row → Bool) (rows : List Row) → AreSingle rows → AreSingle (filter s rows)
single_filter s [] h = tt
single_filter s (x ∷ rows) h = by (s x) (single_filter s rows h.1)
  where
    by : (t : Bool) → AreSingle (filter s rows) → AreSingle (if t then x ∷ filter s rows else filter s rows)
    by true rest = (λ live. finds_none (is_live_of x.name) (filter s rows) (all_filter (λ y. is_live_of x.name y ≡ false) s rows (none_found (is_live_of x.name) rows (h.0 live))), rest)
    by false rest = rest

-- what passes a test, where P gives Q of all that do
all_passing : (P Q : Row → Type 0) (s : Row → Bool) (rows : List Row) → ((y : Row) → s y ≡ true → P y → Q y) → AllByRecursion P rows → AllByRecursion Q (filter s rows)
all_passing P Q s [] f h = tt
all_passing P Q s (x ∷ rows) f h = by (s x) refl (all_passing P Q s rows f h.1)
  where
    by : (t : Bool) → s x ≡ t → AllByRecursion Q (filter s rows) → AllByRecursion Q (if t then x ∷ filter s rows else filter s rows)
    by true e rest = (f x e h.0, rest)
    by false e rest = rest

-- two live versions in order have names in order
names_rise : (x y : Row) → comes_before (place_of x) (place_of y) ≡ true → is_live_of x.name y ≡ false → is_live y.kind ≡ true → comes_before (item_of Live x) (item_of Live y) ≡ true
names_rise x y before other live = elim (split (place_of x) (place_of y) before) [
  | inl t ↦ text_before (item_of Live x) (item_of Live y) t
  | inr same ↦ absurd (apart (and_from (is_live y.kind) (bytes_eq x.name y.name) live (bytes_eq_from x.name y.name same.0)) other)
]

live_rise : (rows : List Row) → RisesBy place_of rows → AreSingle rows → RisesBy (item_of Live) (filter (λ row. is_live row.kind) rows)
live_rise [] rise single = tt
live_rise (x ∷ rows) rise single = by (is_live x.kind) refl (live_rise rows rise.1 single.1)
  where
    by : (t : Bool) → is_live x.kind ≡ t → RisesBy (item_of Live) (filter (λ row. is_live row.kind) rows)
        → RisesBy (item_of Live) (if t then x ∷ filter (λ row. is_live row.kind) rows else filter (λ row. is_live row.kind) rows)
    by true e rest = (
      all_passing (λ y. (comes_before (place_of x) (place_of y) ≡ true) × (is_live_of x.name y ≡ false)) (λ y. comes_before (item_of Live x) (item_of Live y) ≡ true) (λ row. is_live row.kind) rows
          (λ y live both. names_rise x y both.0 both.1 live)
          (all_both (λ y. comes_before (place_of x) (place_of y) ≡ true) (λ y. is_live_of x.name y ≡ false) rows rise.0 (none_found (is_live_of x.name) rows (single.0 e))),
      rest,
    )
    by false e rest = rest

items_rise : (view : View) (rows : List Row) → RisesBy place_of rows → AreSingle rows → RisesBy (item_of view) (shown_rows view rows)
items_rise Live rows rise single = live_rise rows rise single
items_rise Versions rows rise single = rises_filter place_of (λ row. is_shown Versions row.kind) rows rise
items_rise Soft rows rise single = rises_filter place_of (λ row. is_shown Soft row.kind) rows rise

pub shown_rise : (view : View) (rows : List Row) → AreVersions rows → RisesBy place_of (shown_rows view rows) × AllByRecursion IsNumbered (shown_rows view rows)
shown_rise view rows known =
    (rises_filter place_of (λ row. is_shown view row.kind) rows (rises_from rows known.rise), all_filter IsNumbered (λ row. is_shown view row.kind) rows known.numbered)

pub are_view : (view : View) (moment : ℕ) (rows : List Row) → AreVersions rows → IsView view (listed_rows view moment rows)
unfolding listed_rows
are_view view moment rows known =
    let stay : Row → Bool = λ row. kind_stays moment row.kind in
    let rise : RisesBy place_of (aged_rows moment rows) = rises_filter place_of stay rows (rises_from rows known.rise) in
    let single : AreSingle (aged_rows moment rows) = single_filter stay rows known.single in
    let numbers : AllByRecursion IsNumbered (aged_rows moment rows) = all_filter IsNumbered stay rows known.numbered in
    record {
      places = rises_filter place_of (λ row. is_shown view row.kind) (aged_rows moment rows) rise;
      items = items_rise view (aged_rows moment rows) rise single;
      numbers = all_filter IsNumbered (λ row. is_shown view row.kind) (aged_rows moment rows) numbers;
    }

-- two tests, in either order
filter_swap : (f g : Row → Bool) (rows : List Row) → filter f (filter g rows) ≡ filter g (filter f rows)
filter_swap f g [] = refl
filter_swap f g (x ∷ rows) = by (f x) (g x) refl refl (filter_swap f g rows)
  where
    kept : (s : Row → Bool) (xs : List Row) → s x ≡ true → filter s (x ∷ xs) ≡ x ∷ filter s xs
    kept s xs e = ap (λ (t : Bool). if t then x ∷ filter s xs else filter s xs) e

    left : (s : Row → Bool) (xs : List Row) → s x ≡ false → filter s (x ∷ xs) ≡ filter s xs
    left s xs e = ap (λ (t : Bool). if t then x ∷ filter s xs else filter s xs) e

    by : (b c : Bool) → f x ≡ b → g x ≡ c → filter f (filter g rows) ≡ filter g (filter f rows) → filter f (filter g (x ∷ rows)) ≡ filter g (filter f (x ∷ rows))
    by true true e d rest =
        ap (filter f) (kept g rows d) ∙ kept f (filter g rows) e ∙ ap (λ l. x ∷ l) rest ∙ sym (ap (filter g) (kept f rows e) ∙ kept g (filter f rows) d)
    by true false e d rest = ap (filter f) (left g rows d) ∙ rest ∙ sym (ap (filter g) (kept f rows e) ∙ left g (filter f rows) d)
    by false true e d rest = ap (filter f) (kept g rows d) ∙ left f (filter g rows) e ∙ rest ∙ sym (ap (filter g) (left f rows e))
    by false false e d rest = ap (filter f) (left g rows d) ∙ rest ∙ sym (ap (filter g) (left f rows e))

-- the versions that are listed are those of the view that stay
pub listed_is : (view : View) (moment : ℕ) (rows : List Row) → listed_rows view moment rows ≡ filter (λ row. kind_stays moment row.kind) (shown_rows view rows)
unfolding listed_rows
listed_is view moment rows = filter_swap (λ row. is_shown view row.kind) (λ row. kind_stays moment row.kind) rows

-- ---- one seek
found_is : {X : Type 0} (f : X → Bool) (k : X) (xs : List X) → find f xs ≡ Some k → f k ≡ true
found_is f k xs h = (found_passes f (λ _. Unit {0}) k xs (all_of (λ _. tt) xs) h).0

pub listed_none : (view : View) (moment : ℕ) (rows : List Row) (b : unit.Unit) → find (is_at_least b) (shown_rows view rows) ≡ None → find (is_at_least b) (listed_rows view moment rows) ≡ None
listed_none view moment rows b h =
    ap (find (is_at_least b)) (listed_is view moment rows) ∙ find_none_stays (is_at_least b) (λ row. kind_stays moment row.kind) (shown_rows view rows) h

pub listed_found : (view : View) (moment : ℕ) (rows : List Row) (b : unit.Unit) (k : Row) → find (is_at_least b) (shown_rows view rows) ≡ Some k → kind_stays moment k.kind ≡ true → find (is_at_least b) (listed_rows view moment rows) ≡ Some k
listed_found view moment rows b k h stay =
    ap (find (is_at_least b)) (listed_is view moment rows) ∙ find_stays (is_at_least b) (λ row. kind_stays moment row.kind) k (shown_rows view rows) h stay

-- what is found is gone: it is passed over
pub listed_on : (view : View) (moment : ℕ) (rows : List Row) (b c : unit.Unit) (k : Row) → AreVersions rows → find (is_at_least b) (shown_rows view rows) ≡ Some k → kind_stays moment k.kind ≡ false → IsAfterBound Versions (place_of k) c
    → find (is_at_least c) (listed_rows view moment rows) ≡ find (is_at_least b) (listed_rows view moment rows)
listed_on view moment rows b c k known h gone is =
    let rise = shown_rise view rows known in
    ap (find (is_at_least c)) (listed_is view moment rows)
    ∙ seek_on (λ row. kind_stays moment row.kind) b c k (shown_rows view rows) rise.0 rise.1 h gone is
    ∙ sym (ap (find (is_at_least b)) (listed_is view moment rows))

pub passed_found : (view : View) (moment : ℕ) (rows : List Row) (b : unit.Unit) (k : Row) → find (is_at_least b) (shown_rows view rows) ≡ Some k → passed_count view moment rows b ≤ passed_count view moment rows (place_of k)
passed_found view moment rows b k h = passed_le view moment rows b (place_of k) (not-true (comes_before (place_of k) b) (found_is (is_at_least b) k (shown_rows view rows) h))

pub passed_on : (view : View) (moment : ℕ) (rows : List Row) (b c : unit.Unit) (k : Row) → find (is_at_least b) (shown_rows view rows) ≡ Some k → kind_stays moment k.kind ≡ false → IsAfterBound Versions (place_of k) c
    → passed_count view moment rows b + 1 ≤ passed_count view moment rows c
passed_on view moment rows b c k h gone is =
    passed_more view moment rows b c k h (not_from_false (kind_stays moment k.kind) gone) (not-true (comes_before (place_of k) b) (found_is (is_at_least b) k (shown_rows view rows) h)) (before_next k c is)

pub passed_by_gone : (view : View) (moment : ℕ) (rows : List Row) (found : Option Found) → passed_by view moment rows found ≤ gone_count view moment rows
passed_by_gone view moment rows None = omega arith
passed_by_gone view moment rows (Some found) = passed_gone view moment rows found.bound
