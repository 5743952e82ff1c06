-- Two seeks find the first row with news.
use Rattle.std.proofs.Common.{◌≡◌, ℕ, ◌≤◌, ◌∙◌, sym, ap, ap₂, refl, List, [], ◌∷◌, arith, subst, Some, None, Option}
use Rattle.std.specs.Prelude.{Bool, true, false, not, ◌&&◌, if◌then◌else◌, is_some}
use mathlib.Core.Bool.{true≢false}
use mathlib.Core.Logic.{inl, inr}
use Rattle.std.specs.List.{find, AllByRecursion}
use Rattle.std.specs.Str.{bytes_eq}
use Rattle.std.specs.Ordering.{is_lt, is_eq, nat_cmp, ordering_then}
use Rattle.std.specs.Cmp.Lexicographic.{slice_cmp}
use Rattle.std.specs.declared.cmp.Ordering.TheVariants.{Equal}
use Rattle.std.proofs.lemmas.Bool.{and_parts, and_from, and_left, not-true, not_from_false}
use Rattle.std.proofs.lemmas.Bool.Decides.{nat_tests}
use Rattle.std.proofs.lemmas.Cmp.{nat_list_cmp_total, tied_itself}
use Rattle.std.proofs.lemmas.Map.Lookups.{exact_bytes}
use Rattle.std.proofs.lemmas.Map.Text.{is_eq-slice_cmp}
use Rattle.gcs_meaning.specs.declared.version.Row.{Row}
use Rattle.gcs_meaning.specs.declared.listing.Unit as unit
use Rattle.gcs_meaning.specs.declared.listing.View.{View}
use Rattle.gcs_meaning.specs.declared.listing.View.TheVariants.{Live, Versions, Soft}
use Rattle.gcs_meaning.specs.declared.listing.PageQuery.{PageQuery}
use Rattle.gcs_listing.specs.Seeking.{past, is_news, IsBoundAmong, RisesBy}
use Rattle.gcs_listing.specs.Looking.{IsPast}
use Rattle.gcs_meaning.specs.Listing.{number_of, item_of, is_from, is_under, keeps, prefix_unit, units_from, units_of, is_after}
use Rattle.gcs_meaning.specs.Order.{is_below, comes_before, place_of, is_at_least, IsNumbered}
use Rattle.gcs_meaning.specs.Texts.{begins, folded}
use Rattle.gcs_listing.proofs.OrderLemmas.{apart, lt_trans, lt_not_back, lt_le, le_lt, le_le, tied}
use Rattle.gcs_listing.proofs.TextLemmas.{begins_above, begins_below_past, begins_between, FoldsTo, folds_to}
use Rattle.gcs_listing.proofs.ListingLemmas.{unit_total, all_map, all_both}
use Rattle.gcs_listing.proofs.UnitLemmas.{text_before, before_text, upto_text, before_zero, between, IsUnit, are_units}
use Rattle.gcs_listing.proofs.RowLemmas.{none_found, finds_none, found_passes, find_same, find_none_too, from_found}

pub bytes_eq_from : (x y : List ℕ) → x ≡ y → bytes_eq x y ≡ true
bytes_eq_from x y e = sym (is_eq-slice_cmp x y) ∙ ap is_eq (subst (λ w. slice_cmp nat_cmp x w ≡ Equal) e (tied_itself nat_list_cmp_total x))

-- a prefix comes before each item of its names
pub zero_before : (p : List ℕ) (x : unit.Unit) → is_below x.text p ≡ false → 1 ≤ x.number → comes_before (prefix_unit p) x ≡ true
zero_before p x low one = by (is_below p x.text) refl
  where
    by : (b : Bool) → is_below p x.text ≡ b → comes_before (prefix_unit p) x ≡ true
    by true e = text_before (prefix_unit p) x e
    by false e =
        let same : p ≡ x.text = tied nat_list_cmp_total exact_bytes p x.text e low in
        ap (λ o. is_lt (ordering_then o (nat_cmp 0 x.number))) (subst (λ w. slice_cmp nat_cmp p w ≡ Equal) same (tied_itself nat_list_cmp_total p)) ∙ (grind (arith, nat_tests))

pub one_number : (view : View) (row : Row) → 1 ≤ row.generation → 1 ≤ number_of view row
one_number Live row h = omega arith
one_number Versions row h = h
one_number Soft row h = h

-- what a unit is not after, is after nothing that comes later
not_after_less : (cur : Option unit.Unit) (x y : unit.Unit) → comes_before x y ≡ true → is_after cur y ≡ false → is_after cur x ≡ false
not_after_less None x y b out = absurd (true≢false out)
not_after_less (Some c) x y b out = by (comes_before c x) refl
  where
    by : (t : Bool) → comes_before c x ≡ t → t ≡ false
    by false e = refl
    by true e = absurd (apart (lt_trans unit_total c x y e b) out)

pub after_less : (cur : Option unit.Unit) (x y : unit.Unit) → is_after cur x ≡ true → comes_before x y ≡ true → is_after cur y ≡ true
after_less None x y a b = refl
after_less (Some c) x y a b = lt_trans unit_total c x y a b

-- no news, if no unit of the row is after
without_news : (q : PageQuery) (cur : Option unit.Unit) (row : Row) → (keeps q row ≡ true → AllByRecursion (λ v. is_after cur v ≡ false) (units_of q row)) → is_news q cur row ≡ false
without_news q cur row none = by (keeps q row) refl
  where
    by : (b : Bool) → keeps q row ≡ b → is_news q cur row ≡ false
    by false e = and_left (keeps q row) (is_some (find (is_after cur) (units_of q row))) e
    by true e = ap₂ (λ s t. s && is_some t) e (finds_none (is_after cur) (units_of q row) (none e))

-- a row whose item is not after has no news
pub item_not_after : (q : PageQuery) (cur : Option unit.Unit) (row : Row) → IsNumbered row → is_after cur (item_of q.view row) ≡ false → is_news q cur row ≡ false
item_not_after q cur row one out = without_news q cur row (λ keep. all_map (is_unit keep) (units_of q row) (are_units q row))
  where
    is_unit : keeps q row ≡ true → (v : unit.Unit) → IsUnit q row v → is_after cur v ≡ false
    is_unit keep v (inl is) = ap (is_after cur) is.1 ∙ out
    is_unit keep v (inr (inl is)) = ap (is_after cur) is.2 ∙ not_after_less cur (prefix_unit is.0) (item_of q.view row)
        (zero_before is.0 (item_of q.view row) (begins_above is.0 row.name (folds_to q.prefix q.delimiter row.name is.0 (and_parts _ _ keep).0 is.1).front) (one_number q.view row one.0)) out
    is_unit keep v (inr (inr is)) = ap (is_after cur) is.4 ∙ out

-- the first place to seek: its rows are those that are after and from the prefix and the start on
abbrev pub is_due : PageQuery → Option unit.Unit → Row → Bool
is_due q cur row = is_after cur (item_of q.view row) && (not (is_below row.name q.prefix) && is_from q.start row.name)

pub news_due : (q : PageQuery) (cur : Option unit.Unit) (row : Row) → IsNumbered row → is_news q cur row ≡ true → is_due q cur row ≡ true
news_due q cur row one news =
    let keep = (and_parts (keeps q row) _ news).0 in
    let parts = and_parts (begins q.prefix row.name) _ keep in
    and_from (is_after cur (item_of q.view row)) (not (is_below row.name q.prefix) && is_from q.start row.name)
    (by (is_after cur (item_of q.view row)) refl)
    (and_from (not (is_below row.name q.prefix)) (is_from q.start row.name)
    (not_from_false (is_below row.name q.prefix) (begins_above q.prefix row.name parts.0))
    (and_parts (is_from q.start row.name) (is_under q.end row.name) parts.1).0)
  where
    by : (b : Bool) → is_after cur (item_of q.view row) ≡ b → b ≡ true
    by true e = refl
    by false e = absurd (apart news (item_not_after q cur row one e))

pub from_later : (start : Option (List ℕ)) (x y : List ℕ) → is_from start x ≡ true → is_below y x ≡ false → is_from start y ≡ true
from_later None x y h le = refl
from_later (Some s) x y h le = not_from_false (is_below y s) (le_le nat_list_cmp_total s x y (not-true (is_below x s) h) le)

under_earlier : (end : Option (List ℕ)) (x y : List ℕ) → is_under end y ≡ true → is_below y x ≡ false → is_under end x ≡ true
under_earlier None x y h le = refl
under_earlier (Some e) x y h le = le_lt nat_list_cmp_total x y e le h

-- between the prefix and a name that begins with it
begins_earlier : (p x y : List ℕ) → begins p y ≡ true → is_below x p ≡ false → is_below y x ≡ false → begins p x ≡ true
begins_earlier [] x y h low le = refl
begins_earlier (a ∷ p) x y h low le = begins_between a p x low (le_lt nat_list_cmp_total x y (past (a ∷ p)) le (begins_below_past a p y h))

-- what is kept later is kept earlier, from the prefix and the start on
pub keeps_earlier : (q : PageQuery) (k x : Row) → is_below k.name q.prefix ≡ false → is_from q.start k.name ≡ true → is_below x.name k.name ≡ false → keeps q x ≡ true → keeps q k ≡ true
keeps_earlier q k x low from le keep =
    let parts = and_parts (begins q.prefix x.name) _ keep in
    and_from (begins q.prefix k.name) (is_from q.start k.name && is_under q.end k.name)
    (begins_earlier q.prefix k.name x.name parts.0 low le)
    (and_from (is_from q.start k.name) (is_under q.end k.name) from (under_earlier q.end k.name x.name (and_parts (is_from q.start x.name) (is_under q.end x.name) parts.1).1 le))

module _ (q : PageQuery) (cur : Option unit.Unit) (b : unit.Unit) (rows : List Row) (s : IsBoundAmong q rows cur b) (rise : RisesBy place_of rows) (ones : AllByRecursion IsNumbered rows) where
  -- nothing from the bound on: no news
  pub seek_none : find (is_at_least b) rows ≡ None → find (is_news q cur) rows ≡ None
  seek_none h = find_none_too (is_news q cur) (is_at_least b) rows s.due h

  names_from : (k x : Row) → comes_before (place_of x) (place_of k) ≡ false → is_below x.name k.name ≡ false
  names_from k x le = upto_text (place_of k) (place_of x) le

  -- the first row from the bound on isn't kept: no news
  pub seek_past_end : (k : Row) → find (is_at_least b) rows ≡ Some k → keeps q k ≡ false → find (is_news q cur) rows ≡ None
  seek_past_end k h out =
      let here = found_passes (is_at_least b) IsNumbered k rows ones h in
      finds_none (is_news q cur) rows
      (all_map (λ x both. none x here.0 both.0 both.1) rows (all_both (λ x. is_news q cur x ≡ true → is_at_least b x ≡ true) (λ x. is_at_least b x ≡ true → comes_before (place_of x) (place_of k) ≡ false) rows s.due (from_found (is_at_least b) k rows rise h)))
    where
      none : (x : Row) → is_at_least b k ≡ true → (is_news q cur x ≡ true → is_at_least b x ≡ true) → (is_at_least b x ≡ true → comes_before (place_of x) (place_of k) ≡ false) → is_news q cur x ≡ false
      none x at in_bound later = by (is_news q cur x) refl
        where
          by : (t : Bool) → is_news q cur x ≡ t → t ≡ false
          by false e = refl
          by true e = absurd (apart (keeps_earlier q k x (s.from_prefix k at) (s.from_start k at) (names_from k x (later (in_bound e))) (and_parts (keeps q x) _ e).0) out)

  -- it has news: it is the row
  pub seek_found : (k : Row) (u : unit.Unit) → find (is_at_least b) rows ≡ Some k → keeps q k ≡ true → find (is_after cur) (units_of q k) ≡ Some u → find (is_news q cur) rows ≡ Some k
  seek_found k u h keep first = find_same (is_news q cur) (is_at_least b) k rows s.due h (and_from (keeps q k) _ keep (ap is_some first))

-- ---- the row found is kept and has no news: it lies in a group that is done
pub record IsDone (q : PageQuery) (cur : Option unit.Unit) (k : Row) (p : List ℕ) : Type 0 where
  pub fold : FoldsTo q.prefix q.delimiter k.name p
  pub prefix_out : is_after cur (prefix_unit p) ≡ false
  pub no_item : (q.trailing && bytes_eq k.name p) ≡ false

pub is_done : (q : PageQuery) (cur : Option unit.Unit) (k : Row) → keeps q k ≡ true → is_after cur (item_of q.view k) ≡ true → find (is_after cur) (units_of q k) ≡ None → (p : List ℕ) × (folded q.prefix q.delimiter k.name ≡ Some p) × IsDone q cur k p
is_done q cur k keep after h = by (folded q.prefix q.delimiter k.name) refl (none_found (is_after cur) (units_of q k) h)
  where
    no_last : (t : Bool) → AllByRecursion (λ v. is_after cur v ≡ false) (if t then item_of q.view k ∷ [] else []) → t ≡ false
    no_last false all = refl
    no_last true all = absurd (apart after all.0)

    by : (o : Option (List ℕ)) → folded q.prefix q.delimiter k.name ≡ o → AllByRecursion (λ v. is_after cur v ≡ false) (units_from q k o) → (p : List ℕ) × (folded q.prefix q.delimiter k.name ≡ Some p) × IsDone q cur k p
    by None e all = absurd (apart after all.0)
    by (Some p) e all = (
      p,
      e,
      record {
        fold = folds_to q.prefix q.delimiter k.name p (and_parts (begins q.prefix k.name) _ keep).0 e;
        prefix_out = all.0;
        no_item = no_last (q.trailing && bytes_eq k.name p) all.1;
      },
    )

-- later rows of the group have no news either
done_group : (q : PageQuery) (cur : Option unit.Unit) (k x : Row) (p : List ℕ) → IsDone q cur k p → is_below x.name k.name ≡ false → begins p x.name ≡ true → is_news q cur x ≡ false
done_group q cur k x p done le begin = without_news q cur x (λ keep. all_map is_unit (units_of q x) (are_units q x))
  where
    fold_x : folded q.prefix q.delimiter x.name ≡ Some p
    fold_x = done.fold.all x.name begin

    is_unit : (v : unit.Unit) → IsUnit q x v → is_after cur v ≡ false
    is_unit v (inl is) = let a = is.0 in let b = fold_x in absurd (cc)
    is_unit v (inr (inl is)) = let a = is.1 in let b = fold_x in let same : is.0 ≡ p = cc in ap (is_after cur) (is.2 ∙ ap prefix_unit same) ∙ done.prefix_out
    is_unit v (inr (inr is)) =
        let a = is.1 in
        let b = fold_x in
        let same : is.0 ≡ p = cc in
        let x_is : x.name ≡ p = is.2 ∙ same in
        let k_is : k.name ≡ p = tied nat_list_cmp_total exact_bytes k.name p (begins_above p k.name done.fold.front) (subst (λ w. is_below w k.name ≡ false) x_is le) in
        absurd (apart (and_from q.trailing (bytes_eq k.name p) is.3 (bytes_eq_from k.name p k_is)) done.no_item)

past_from : (q : PageQuery) (k x : Row) (p : List ℕ) → FoldsTo q.prefix q.delimiter k.name p → is_below x.name k.name ≡ false → (begins p x.name ≡ true → ⊥) → is_below x.name (past p) ≡ false
past_from q k x p fold le other = by (is_below x.name (past p)) refl
  where
    by : (b : Bool) → is_below x.name (past p) ≡ b → b ≡ false
    by false e = refl
    by true e = absurd (other (subst (λ w. is_below x.name w ≡ false → is_below x.name (past w) ≡ true → begins w x.name ≡ true) (sym fold.some) (begins_between fold.first fold.rest x.name) (le_le nat_list_cmp_total p k.name x.name (begins_above p k.name fold.front) le) e))

-- and what is past the group is after
pub below_past : (prefix delimiter x p : List ℕ) → FoldsTo prefix delimiter x p → (y : List ℕ) → begins p y ≡ true → is_below y (past p) ≡ true
below_past prefix delimiter x p fold y h = subst (λ w. begins w y ≡ true → is_below y (past w) ≡ true) (sym fold.some) (begins_below_past fold.first fold.rest y) h

-- a kept row past a group that is done has news
news_past : (q : PageQuery) (cur : Option unit.Unit) (k x : Row) (p : List ℕ) → IsDone q cur k p → is_after cur (item_of q.view k) ≡ true → keeps q x ≡ true → is_below x.name (past p) ≡ false → (u : unit.Unit) × (find (is_after cur) (units_of q x) ≡ Some u)
news_past q cur k x p done after keep far = by (folded q.prefix q.delimiter x.name) refl
  where
    k_x : is_below k.name x.name ≡ true
    k_x = lt_le nat_list_cmp_total k.name (past p) x.name (below_past q.prefix q.delimiter k.name p done.fold k.name done.fold.front) far

    -- the fold of x comes after what the page has
    fold_after : (c : Option unit.Unit) → is_after c (prefix_unit p) ≡ false → is_after c (item_of q.view k) ≡ true → (r : List ℕ) → FoldsTo q.prefix q.delimiter x.name r → is_after c (prefix_unit r) ≡ true
    fold_after None out a r g = absurd (true≢false out)
    fold_after (Some c) out a r g = with_test (is_below c.text r) refl
      where
        from_p : is_below c.text p ≡ false
        from_p = upto_text (prefix_unit p) c out

        to_k : is_below k.name c.text ≡ false
        to_k = before_text c (item_of q.view k) a

        with_test : (b : Bool) → is_below c.text r ≡ b → comes_before c (prefix_unit r) ≡ true
        with_test true e = text_before c (prefix_unit r) e
        with_test false e =
            let one : folded q.prefix q.delimiter c.text ≡ Some p = done.fold.all c.text (between q c.text k.name p done.fold from_p to_k) in
            let to_x : is_below x.name c.text ≡ false = lt_not_back nat_list_cmp_total c.text x.name (le_lt nat_list_cmp_total c.text k.name x.name to_k k_x) in
            let two : folded q.prefix q.delimiter c.text ≡ Some r = g.all c.text (between q c.text x.name r g e to_x) in
            let same : r ≡ p = cc in
            absurd (apart (below_past q.prefix q.delimiter k.name p done.fold x.name (subst (λ w. begins w x.name ≡ true) same g.front)) far)

    by : (o : Option (List ℕ)) → folded q.prefix q.delimiter x.name ≡ o → (u : unit.Unit) × (find (is_after cur) (units_from q x o) ≡ Some u)
    by None e = (item_of q.view x, ap (λ t. if t then Some (item_of q.view x) else None) (after_less cur (item_of q.view k) (item_of q.view x) after (text_before (item_of q.view k) (item_of q.view x) k_x)))
    by (Some r) e = (
      prefix_unit r,
      ap (λ t. if t then Some (prefix_unit r) else find (is_after cur) (if q.trailing && bytes_eq x.name r then item_of q.view x ∷ [] else []))
          (fold_after cur done.prefix_out after r (folds_to q.prefix q.delimiter x.name r (and_parts (begins q.prefix x.name) _ keep).0 e)),
    )

module _ (q : PageQuery) (cur : Option unit.Unit) (b : unit.Unit) (rows : List Row) (s : IsBoundAmong q rows cur b) (rise : RisesBy place_of rows) (ones : AllByRecursion IsNumbered rows)
    (k : Row) (first : find (is_at_least b) rows ≡ Some k) (p : List ℕ) (done : IsDone q cur k p) where
  at_k : (is_at_least b k ≡ true) × IsNumbered k
  at_k = found_passes (is_at_least b) IsNumbered k rows ones first

  k_after : is_after cur (item_of q.view k) ≡ true
  k_after = s.after k at_k.1 at_k.0

  far : (x : Row) → (is_news q cur x ≡ true → is_at_least b x ≡ true) → (is_at_least b x ≡ true → comes_before (place_of x) (place_of k) ≡ false) → is_news q cur x ≡ true → is_at_least (prefix_unit (past p)) x ≡ true
  far x in_bound later news =
      let le : is_below x.name k.name ≡ false = upto_text (place_of k) (place_of x) (later (in_bound news)) in
      not_from_false (comes_before (place_of x) (prefix_unit (past p))) (before_zero (place_of x) (past p) (past_from q k x p done.fold le (λ begin. apart news (done_group q cur k x p done le begin))))

  past_name : (x : Row) → is_at_least (prefix_unit (past p)) x ≡ true → is_below x.name (past p) ≡ false
  past_name x at = upto_text (prefix_unit (past p)) (place_of x) (not-true (comes_before (place_of x) (prefix_unit (past p))) at)

  k_before : (x : Row) → is_at_least (prefix_unit (past p)) x ≡ true → is_below k.name x.name ≡ true
  k_before x at = lt_le nat_list_cmp_total k.name (past p) x.name (below_past q.prefix q.delimiter k.name p done.fold k.name done.fold.front) (past_name x at)

  k_below : (x : Row) → is_at_least (prefix_unit (past p)) x ≡ true → is_below x.name k.name ≡ false
  k_below x at = lt_not_back nat_list_cmp_total k.name x.name (k_before x at)

  -- what is past the group: the bound of the second look
  pub is_past : IsPast q rows cur (prefix_unit (past p))
  is_past = record {
    bound = record {
      due = all_map (λ x both. far x both.0 both.1) rows
          (all_both (λ x. is_news q cur x ≡ true → is_at_least b x ≡ true) (λ x. is_at_least b x ≡ true → comes_before (place_of x) (place_of k) ≡ false) rows s.due (from_found (is_at_least b) k rows rise first));
      from_prefix = λ x at. le_le nat_list_cmp_total q.prefix k.name x.name (s.from_prefix k at_k.0) (k_below x at);
      from_start = λ x at. from_later q.start k.name x.name (s.from_start k at_k.0) (k_below x at);
      after = λ x one at. after_less cur (item_of q.view k) (item_of q.view x) k_after (text_before (item_of q.view k) (item_of q.view x) (k_before x at));
    };
    news = λ x one at keep. news_past q cur k x p done k_after keep (past_name x at);
  }
