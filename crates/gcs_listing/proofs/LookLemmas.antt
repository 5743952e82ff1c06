-- What a look gives, from the first version that it finds.
use Rattle.std.proofs.Common.{◌≡◌, ℕ, ◌≤◌, ◌∙◌, sym, ap, refl, List, [], ◌∷◌, arith, subst, Some, None, Option}
use Rattle.std.specs.Prelude.{Bool, true, false, ◌==◌, ◌⊎◌, if◌then◌else◌, is_some}
use mathlib.Core.Logic.{inl, inr}
use Rattle.std.specs.List.{find, AllByRecursion}
use Rattle.std.specs.Str.{bytes_eq}
use Rattle.std.proofs.lemmas.Bool.{and_parts, and_from, eqb-true, eq-eqb, not-true, not_from_false}
use Rattle.std.proofs.lemmas.Bool.Decides.{nat_tests}
use Rattle.std.proofs.lemmas.Cmp.{nat_list_cmp_total}
use Rattle.gcs_meaning.specs.declared.listing.PageQuery.{PageQuery}
use Rattle.gcs_meaning.specs.declared.listing.Unit as unit
use Rattle.gcs_meaning.specs.declared.listing.View.{View}
use Rattle.gcs_meaning.specs.declared.version.Row.{Row}
use Rattle.gcs_meaning.specs.Order.{comes_before, is_at_least, is_below, place_of, unit_at, IsNumbered}
use Rattle.gcs_meaning.specs.Listing.{has_item, is_after, is_prefix, item_of, keeps, number_of, prefix_unit, units_of}
use Rattle.gcs_meaning.specs.Texts.{folded}
use Rattle.gcs_listing.specs.declared.looking.Found.{Found}
use Rattle.gcs_listing.specs.declared.looking.Look.{Look}
use Rattle.gcs_listing.specs.declared.looking.Look.TheVariants.{End, Next, Past}
use Rattle.gcs_listing.specs.Looking.{IsLooked, IsLookedAt, IsMadeOf, IsNextUnit, IsPast, IsShownBy}
use Rattle.gcs_listing.specs.Seeking.{is_news, past, units_after, IsBound, IsBoundAmong, IsView, RisesBy}
use Rattle.gcs_listing.proofs.OrderLemmas.{apart, le_le, lt_not_back, lt_self}
use Rattle.gcs_listing.proofs.TextLemmas.{begins_above, FoldsTo, folds_to}
use Rattle.gcs_listing.proofs.ListingLemmas.{all_map, unit_total}
use Rattle.gcs_listing.proofs.UnitLemmas.{bytes_same, news_is, upto_text, IsNews}
use Rattle.gcs_listing.proofs.RowLemmas.{find_cases, find_none_too, found_passes, next_unit, no_unit}
use Rattle.gcs_listing.proofs.SeekLemmas.{after_less, bytes_eq_from, from_later, is_done, is_past, one_number, seek_found, seek_none, seek_past_end, zero_before}

pub all_of : {X : Type 0} {P : X → Type 0} → ((x : X) → P x) → (xs : List X) → AllByRecursion P xs
all_of f [] = tt
all_of f (x ∷ xs) = (f x, all_of f xs)

-- a bound of all rows is one of these
pub among : (q : PageQuery) (rows : List Row) (cur : Option unit.Unit) (b : unit.Unit) → AllByRecursion IsNumbered rows → IsBound q cur b → IsBoundAmong q rows cur b
among q rows cur b numbers h =
    record { due = all_map (λ row n. h.due row n) rows numbers; from_prefix = h.from_prefix; from_start = h.from_start; after = λ row n at. h.after row at }

-- an item has a number, and a prefix has none
item_numbered : (view : View) (row : Row) → IsNumbered row → is_prefix (item_of view row) ≡ false
item_numbered view row n = let one : 1 ≤ number_of view row = one_number view row n.0 in positive (number_of view row) one
  where
    positive : (m : ℕ) → 1 ≤ m → (m == 0) ≡ false
    positive m h = grind (arith, nat_tests)

-- the unit that a row gives, if it is no prefix, is the row's item
pub unit_item : (q : PageQuery) (cur : Option unit.Unit) (k : Row) (u : unit.Unit) → IsNews q cur k u → is_prefix u ≡ false → u ≡ item_of q.view k
unit_item q cur k u news isnt = by news.first
  where
    by : ((folded q.prefix q.delimiter k.name ≡ None) × (u ≡ item_of q.view k))
        ⊎ (((p : List ℕ) × (folded q.prefix q.delimiter k.name ≡ Some p) × (u ≡ prefix_unit p))
        ⊎ ((p : List ℕ) × (folded q.prefix q.delimiter k.name ≡ Some p) × (k.name ≡ p) × (is_after cur (prefix_unit p) ≡ false) × (u ≡ item_of q.view k))) → u ≡ item_of q.view k
    by (inl a) = a.1
    by (inr (inl b)) = absurd (apart (ap is_prefix b.2) isnt)
    by (inr (inr d)) = d.4

unit_prefix : (q : PageQuery) (cur : Option unit.Unit) (k : Row) (u : unit.Unit) → IsNumbered k → IsNews q cur k u → is_prefix u ≡ true → (p : List ℕ) × (folded q.prefix q.delimiter k.name ≡ Some p) × (u ≡ prefix_unit p)
unit_prefix q cur k u n news is = by news.first
  where
    by : ((folded q.prefix q.delimiter k.name ≡ None) × (u ≡ item_of q.view k))
        ⊎ (((p : List ℕ) × (folded q.prefix q.delimiter k.name ≡ Some p) × (u ≡ prefix_unit p))
        ⊎ ((p : List ℕ) × (folded q.prefix q.delimiter k.name ≡ Some p) × (k.name ≡ p) × (is_after cur (prefix_unit p) ≡ false) × (u ≡ item_of q.view k)))
        → (p : List ℕ) × (folded q.prefix q.delimiter k.name ≡ Some p) × (u ≡ prefix_unit p)
    by (inl a) = absurd (apart is (ap is_prefix a.1 ∙ item_numbered q.view k n))
    by (inr (inl b)) = b
    by (inr (inr d)) = absurd (apart is (ap is_prefix d.4 ∙ item_numbered q.view k n))

-- of rows whose items rise, a row that is found is the first with its item
item_first : (view : View) (f : Row → Bool) (k : Row) (rows : List Row) → RisesBy (item_of view) rows → find f rows ≡ Some k → find (has_item view (item_of view k)) rows ≡ Some k
item_first view f k [] rise h = absurd (cc)
item_first view f k (x ∷ rows) rise h = elim (find_cases f x k rows h) [
  | inl is ↦
      ap (λ t. if t then Some x else find (has_item view (item_of view k)) rows)
      (subst (λ w. has_item view (item_of view w) x ≡ true) (sym is.1) (and_from (bytes_eq x.name x.name) (number_of view x == number_of view x) (bytes_eq_from x.name x.name refl) (eq-eqb (number_of view x) (number_of view x) refl)))
      ∙ ap Some (sym is.1)
  | inr more ↦ by (has_item view (item_of view k) x) refl (found_passes f (λ y. comes_before (item_of view x) (item_of view y) ≡ true) k rows rise.0 more.1).1 (item_first view f k rows rise.1 more.1)
]
  where
    same : has_item view (item_of view k) x ≡ true → item_of view x ≡ item_of view k
    same e =
        let both = and_parts (bytes_eq x.name k.name) (number_of view x == number_of view k) e in
        let n : x.name ≡ k.name = bytes_same x.name k.name both.0 in
        let m : number_of view x ≡ number_of view k = eqb-true (number_of view x) (number_of view k) both.1 in
        λ i. unit_at (n i) (m i)

    by : (b : Bool) → has_item view (item_of view k) x ≡ b → comes_before (item_of view x) (item_of view k) ≡ true → find (has_item view (item_of view k)) rows ≡ Some k
        → find (has_item view (item_of view k)) (x ∷ rows) ≡ Some k
    by true e before rest = absurd (apart before (subst (λ w. comes_before (item_of view x) w ≡ false) (same e) (lt_self unit_total (item_of view x))))
    by false e before rest = ap (λ t. if t then Some x else find (has_item view (item_of view k)) rows) e ∙ rest

-- what has a unit after a later one has one after the earlier one
news_weaker : (q : PageQuery) (cur : Option unit.Unit) (u : unit.Unit) (x : Row) → is_after cur u ≡ true → is_news q (Some u) x ≡ true → is_news q cur x ≡ true
news_weaker q cur u x after h =
    let both = and_parts (keeps q x) (is_some (find (is_after (Some u)) (units_of q x))) h in
    and_from (keeps q x) (is_some (find (is_after cur) (units_of q x))) both.0 (by (find (is_after cur) (units_of q x)) refl both.1)
  where
    by : (o : Option unit.Unit) → find (is_after cur) (units_of q x) ≡ o → is_some (find (is_after (Some u)) (units_of q x)) ≡ true → is_some (find (is_after cur) (units_of q x)) ≡ true
    by None e some =
        absurd (apart some (ap is_some (find_none_too (is_after (Some u)) (is_after cur) (units_of q x) (all_of (λ v. λ later. after_less cur u v after later) (units_of q x)) e)))
    by (Some v) e some = ap is_some e

-- what comes after a prefix is from the row that gave it on
due_at : (q : PageQuery) (cur : Option unit.Unit) (u : unit.Unit) (k : Row) (rows : List Row) → RisesBy place_of rows → find (is_news q cur) rows ≡ Some k → is_after cur u ≡ true
    → AllByRecursion (λ x. is_news q (Some u) x ≡ true → is_at_least (place_of k) x ≡ true) rows
due_at q cur u k [] rise h after = tt
due_at q cur u k (x ∷ rows) rise h after = elim (find_cases (is_news q cur) x k rows h) [
  | inl is ↦ (
    λ _. not_from_false (comes_before (place_of x) (place_of k)) (subst (λ z. comes_before (place_of x) (place_of z) ≡ false) (sym is.1) (lt_self unit_total (place_of x))),
    all_map (λ y before. λ _. not_from_false (comes_before (place_of y) (place_of k)) (subst (λ z. comes_before (place_of y) (place_of z) ≡ false) (sym is.1) (lt_not_back unit_total (place_of x) (place_of y) before))) rows rise.0,
  )
  | inr more ↦ (λ news. absurd (apart (news_weaker q cur u x after news) more.0), due_at q cur u k rows rise.1 more.1 after)
]

module _ (q : PageQuery) (rows : List Row) (view : IsView q.view rows) (cur : Option unit.Unit) (b : unit.Unit) (s : IsBoundAmong q rows cur b) where
  pub look_none : find (is_at_least b) rows ≡ None → units_after q rows cur ≡ []
  look_none h = no_unit q cur rows (seek_none q cur b rows s view.places view.numbers h)

  pub look_out : (k : Row) → find (is_at_least b) rows ≡ Some k → keeps q k ≡ false → units_after q rows cur ≡ []
  look_out k h out = no_unit q cur rows (seek_past_end q cur b rows s view.places view.numbers k h out)

  -- after a prefix, the row that gave it is looked at again
  bound_at : (k : Row) (u : unit.Unit) (p : List ℕ) → find (is_at_least b) rows ≡ Some k → find (is_news q cur) rows ≡ Some k → keeps q k ≡ true → is_after cur u ≡ true
      → folded q.prefix q.delimiter k.name ≡ Some p → u ≡ prefix_unit p → IsBoundAmong q rows (Some u) (place_of k)
  bound_at k u p h first keep after fold is = record {
    due = due_at q cur u k rows view.places first after;
    from_prefix = λ x at. le_le nat_list_cmp_total q.prefix k.name x.name (s.from_prefix k here.0) (from x at);
    from_start = λ x at. from_later q.start k.name x.name (s.from_start k here.0) (from x at);
    after = λ x one at. subst (λ w. comes_before w (item_of q.view x) ≡ true) (sym is)
        (zero_before p (item_of q.view x) (le_le nat_list_cmp_total p k.name x.name (begins_above p k.name to.front) (from x at)) (one_number q.view x one.0));
  }
    where
      here : (is_at_least b k ≡ true) × IsNumbered k
      here = found_passes (is_at_least b) IsNumbered k rows view.numbers h

      to : FoldsTo q.prefix q.delimiter k.name p
      to = folds_to q.prefix q.delimiter k.name p (and_parts _ _ keep).0 fold

      from : (x : Row) → is_at_least (place_of k) x ≡ true → is_below x.name k.name ≡ false
      from x at = upto_text (place_of k) (place_of x) (not-true (comes_before (place_of x) (place_of k)) at)

  made : (k : Row) (u : unit.Unit) (found : Found) → find (is_at_least b) rows ≡ Some k → keeps q k ≡ true → find (is_after cur) (units_of q k) ≡ Some u → IsMadeOf q u k found → IsNextUnit q rows cur found
  made k u found h keep first is = by (is_prefix u) refl
    where
      here : (is_at_least b k ≡ true) × IsNumbered k
      here = found_passes (is_at_least b) IsNumbered k rows view.numbers h

      news : IsNews q cur k u
      news = news_is q cur k u first

      found_news : find (is_news q cur) rows ≡ Some k
      found_news = seek_found q cur b rows s view.places view.numbers k u h keep first

      least : units_after q rows cur ≡ found.unit ∷ units_after q rows (Some found.unit)
      least = subst (λ w. units_after q rows cur ≡ w ∷ units_after q rows (Some w)) (sym is.same) (next_unit q cur k u rows view.items found_news first)

      by : (t : Bool) → is_prefix u ≡ t → IsNextUnit q rows cur found
      by true e =
          let got = unit_prefix q cur k u here.1 news e in
          let item : found.item ≡ None = is.item ∙ ap (λ (t : Bool). if t then None else Some k) e in
          record {
            least = least;
            shown = subst (IsShownBy q.view rows found.unit) (sym item) (ap is_prefix is.same ∙ e);
            bound = subst (λ w. IsBoundAmong q rows (Some w) found.bound) (sym is.same)
                (subst (IsBoundAmong q rows (Some u)) (sym (is.at_prefix e)) (bound_at k u got.0 h found_news keep news.after got.1 got.2));
          }
      by false e =
          let item : found.item ≡ Some k = is.item ∙ ap (λ (t : Bool). if t then None else Some k) e in
          let own : u ≡ item_of q.view k = unit_item q cur k u news e in
          let there : find (has_item q.view found.unit) rows ≡ Some k =
          subst (λ w. find (has_item q.view w) rows ≡ Some k) (sym (is.same ∙ own)) (item_first q.view (is_at_least b) k rows view.items h) in
          record {
            least = least;
            shown = subst (IsShownBy q.view rows found.unit) (sym item) (ap is_prefix is.same ∙ e, there);
            bound = subst (λ w. IsBoundAmong q rows (Some w) found.bound) (sym is.same) (among q rows (Some u) found.bound view.numbers (is.at_item e));
          }

  -- a look whose first version is kept
  pub looked : (k : Row) → find (is_at_least b) rows ≡ Some k → keeps q k ≡ true → (look : Look) → IsLookedAt q cur k look → IsLooked q rows cur b look
  looked k h keep End is =
      let here = found_passes (is_at_least b) IsNumbered k rows view.numbers h in
      let got = is_done q cur k keep (s.after k here.1 here.0) is.0 in
      let some : folded q.prefix q.delimiter k.name ≡ Some got.0 = got.1 in
      let none : folded q.prefix q.delimiter k.name ≡ None = is.1 in
      absurd (cc)
  looked k h keep (Next found) is = made k is.0 found h keep is.1 is.2
  looked k h keep (Past beyond) is =
      let here = found_passes (is_at_least b) IsNumbered k rows view.numbers h in
      let got = is_done q cur k keep (s.after k here.1 here.0) is.0 in
      let one : folded q.prefix q.delimiter k.name ≡ Some got.0 = got.1 in
      let two : folded q.prefix q.delimiter k.name ≡ Some is.1.0 = is.1.1 in
      let same : got.0 ≡ is.1.0 = cc in
      let there : beyond ≡ unit_at (past is.1.0) 0 = is.1.2 in (
        subst (IsPast q rows cur) (sym there) (subst (λ (p : List ℕ). IsPast q rows cur (prefix_unit (past p))) same (is_past q cur b rows s view.places view.numbers k h got.0 got.2)),
        (k, here.1, here.0, keep, is.0),
      )
