-- Which units a row gives, and how they lie to those of later rows.
use Rattle.std.proofs.Common.{◌≡◌, ℕ, ◌∙◌, sym, ap, ap₂, refl, List, [], ◌∷◌, arith, subst, Some, None, Option}
use Rattle.std.specs.Prelude.{Bool, true, false, ◌⊎◌, ◌&&◌, if◌then◌else◌}
use mathlib.Core.Bool.{true≢false}
use mathlib.Core.Logic.{inl, inr}
use Rattle.std.specs.List.{find, AllByRecursion}
use Rattle.std.specs.Str.{bytes_eq}
use Rattle.std.specs.declared.cmp.Ordering.{Ordering}
use Rattle.std.specs.declared.cmp.Ordering.TheVariants.{Less, Equal, Greater}
use Rattle.std.specs.Ordering.{is_lt, is_eq, nat_cmp, ordering_then}
use Rattle.std.specs.Cmp.Lexicographic.{slice_cmp}
use Rattle.std.proofs.lemmas.Bool.{and_parts}
use Rattle.std.proofs.lemmas.Bool.Decides.{nat_tests}
use Rattle.std.proofs.lemmas.Cmp.{nat_list_cmp_total}
use Rattle.std.proofs.lemmas.Map.Lookups.{exact_bytes}
use Rattle.std.proofs.lemmas.Map.Text.{is_eq-slice_cmp}
use Rattle.gcs_meaning.specs.declared.version.Row.{Row}
use Rattle.gcs_meaning.specs.declared.listing.Unit as unit
use Rattle.gcs_meaning.specs.declared.listing.PageQuery.{PageQuery}
use Rattle.gcs_listing.specs.Seeking.{past}
use Rattle.gcs_meaning.specs.Listing.{item_of, keeps, prefix_unit, units_from, units_of, is_after}
use Rattle.gcs_meaning.specs.Order.{is_below, comes_before}
use Rattle.gcs_meaning.specs.Texts.{begins, folded}
use Rattle.gcs_listing.proofs.OrderLemmas.{apart, lt_self, lt_not_back, le_lt, le_le, tied, less_from}
use Rattle.gcs_listing.proofs.TextLemmas.{begins_above, begins_below_past, begins_between, begins_self, FoldsTo, folds_to}
use Rattle.gcs_listing.proofs.ListingLemmas.{unit_total, Among}

-- ---- units and their texts
pub text_before : (x y : unit.Unit) → is_below x.text y.text ≡ true → comes_before x y ≡ true
text_before x y h = ap (λ o. is_lt (ordering_then o (nat_cmp x.number y.number))) (less_from (slice_cmp nat_cmp x.text y.text) h)

-- of two units in order the later text is not below
pub before_text : (x y : unit.Unit) → comes_before x y ≡ true → is_below y.text x.text ≡ false
before_text x y h = by (is_below y.text x.text) refl
  where
    by : (b : Bool) → is_below y.text x.text ≡ b → b ≡ false
    by false e = refl
    by true e = absurd (apart h (lt_not_back unit_total y x (text_before y x e)))

pub upto_text : (x y : unit.Unit) → comes_before y x ≡ false → is_below y.text x.text ≡ false
upto_text x y h = by (is_below y.text x.text) refl
  where
    by : (b : Bool) → is_below y.text x.text ≡ b → b ≡ false
    by false e = refl
    by true e = absurd (apart (text_before y x e) h)

-- nothing of a later text comes before a unit with number 0
pub before_zero : (x : unit.Unit) (p : List ℕ) → is_below x.text p ≡ false → comes_before x (prefix_unit p) ≡ false
before_zero x p h = by (slice_cmp nat_cmp x.text p) refl h
  where
    by : (o : Ordering) → slice_cmp nat_cmp x.text p ≡ o → is_lt o ≡ false → is_lt (ordering_then (slice_cmp nat_cmp x.text p) (nat_cmp x.number 0)) ≡ false
    by Less e f = absurd (true≢false f)
    by Equal e f = ap (λ o. is_lt (ordering_then o (nat_cmp x.number 0))) e ∙ (grind (arith, nat_tests))
    by Greater e f = ap (λ o. is_lt (ordering_then o (nat_cmp x.number 0))) e

-- ---- folds of two rows in order
-- the name of an unfolded row lies below the folds of later rows
pub unfolded_below : (q : PageQuery) (x y p : List ℕ) → folded q.prefix q.delimiter x ≡ None → FoldsTo q.prefix q.delimiter y p → is_below y x ≡ false → is_below x p ≡ true
unfolded_below q x y p none fold le = by (is_below x p) refl
  where
    by : (b : Bool) → is_below x p ≡ b → b ≡ true
    by true e = refl
    by false e =
        let inside : begins p x ≡ true = subst (λ w. is_below x w ≡ false → begins w y ≡ true → begins w x ≡ true) (sym fold.some)
        (λ low at. begins_between fold.first fold.rest x low (le_lt nat_list_cmp_total x y (past (fold.first ∷ fold.rest)) le (begins_below_past fold.first fold.rest y at))) e fold.front in
        let is : folded q.prefix q.delimiter x ≡ Some p = fold.all x inside in
        absurd (cc)

-- what lies between a fold and a name that is folded to it is folded to it
pub between : (q : PageQuery) (x y p : List ℕ) → FoldsTo q.prefix q.delimiter y p → is_below x p ≡ false → is_below y x ≡ false → begins p x ≡ true
between q x y p fold low le =
    subst (λ w. is_below x w ≡ false → begins w y ≡ true → begins w x ≡ true) (sym fold.some)
    (λ from at. begins_between fold.first fold.rest x from (le_lt nat_list_cmp_total x y (past (fold.first ∷ fold.rest)) le (begins_below_past fold.first fold.rest y at))) low fold.front

-- folds rise with the names
pub folds_rise : (q : PageQuery) (x y p r : List ℕ) → FoldsTo q.prefix q.delimiter x p → FoldsTo q.prefix q.delimiter y r → is_below y x ≡ false → is_below r p ≡ false
folds_rise q x y p r f g le = by (is_below r p) refl
  where
    by : (b : Bool) → is_below r p ≡ b → b ≡ false
    by false e = refl
    by true e =
        let p_y : is_below y p ≡ false = le_le nat_list_cmp_total p x y (begins_above p x f.front) le in
        let inside : begins r p ≡ true = between q p y r g (lt_not_back nat_list_cmp_total r p e) p_y in
        let one : folded q.prefix q.delimiter p ≡ Some r = g.all p inside in
        let two : folded q.prefix q.delimiter p ≡ Some p = f.all p (begins_self p) in
        let same : r ≡ p = cc in
        absurd (apart e (subst (λ w. is_below r w ≡ false) same (lt_self nat_list_cmp_total r)))

-- ---- the units of one row
pub bytes_same : (x y : List ℕ) → bytes_eq x y ≡ true → x ≡ y
bytes_same x y h = by (slice_cmp nat_cmp x y) refl (is_eq-slice_cmp x y ∙ h)
  where
    by : (o : Ordering) → slice_cmp nat_cmp x y ≡ o → is_eq o ≡ true → x ≡ y
    by Less e f = absurd (true≢false (sym f))
    by Equal e f = exact_bytes x y e
    by Greater e f = absurd (true≢false (sym f))

-- a row's unit: its item or its prefix, or with both the item
abbrev pub IsUnit : PageQuery → Row → unit.Unit → Type 0
IsUnit q row v =
    ((folded q.prefix q.delimiter row.name ≡ None) × (v ≡ item_of q.view row))
    ⊎ (((p : List ℕ) × (folded q.prefix q.delimiter row.name ≡ Some p) × (v ≡ prefix_unit p))
    ⊎ ((p : List ℕ) × (folded q.prefix q.delimiter row.name ≡ Some p) × (row.name ≡ p) × (q.trailing ≡ true) × (v ≡ item_of q.view row)))

pub are_units : (q : PageQuery) (row : Row) → AllByRecursion (IsUnit q row) (units_of q row)
are_units q row = by (folded q.prefix q.delimiter row.name) refl
  where
    last : (p : List ℕ) → folded q.prefix q.delimiter row.name ≡ Some p → (b : Bool) → (q.trailing && bytes_eq row.name p) ≡ b → AllByRecursion (IsUnit q row) (if b then item_of q.view row ∷ [] else [])
    last p e false f = tt
    last p e true f = let both = and_parts q.trailing (bytes_eq row.name p) f in (inr (inr (p, e, bytes_same row.name p both.1, both.0, refl)), tt)

    by : (o : Option (List ℕ)) → folded q.prefix q.delimiter row.name ≡ o → AllByRecursion (IsUnit q row) (units_from q row o)
    by None e = (inl (e, refl), tt)
    by (Some p) e = (inr (inl (p, e, refl)), last p e (q.trailing && bytes_eq row.name p) refl)

-- the first unit of a row that is after the one before
pub record IsNews (q : PageQuery) (cur : Option unit.Unit) (row : Row) (u : unit.Unit) : Type 0 where
  pub after : is_after cur u ≡ true
  pub among : Among u (units_of q row)
  pub first : ((folded q.prefix q.delimiter row.name ≡ None) × (u ≡ item_of q.view row))
      ⊎ (((p : List ℕ) × (folded q.prefix q.delimiter row.name ≡ Some p) × (u ≡ prefix_unit p))
      ⊎ ((p : List ℕ) × (folded q.prefix q.delimiter row.name ≡ Some p) × (row.name ≡ p) × (is_after cur (prefix_unit p) ≡ false) × (u ≡ item_of q.view row)))

found_one : (f : unit.Unit → Bool) (x u : unit.Unit) (xs : List unit.Unit) → find f (x ∷ xs) ≡ Some u → ((f x ≡ true) × (u ≡ x)) ⊎ ((f x ≡ false) × (find f xs ≡ Some u))
found_one f x u xs h = by (f x) refl
  where
    by : (b : Bool) → f x ≡ b → ((f x ≡ true) × (u ≡ x)) ⊎ ((f x ≡ false) × (find f xs ≡ Some u))
    by true e = let s : Some x ≡ Some u = sym (ap (λ t. if t then Some x else find f xs) e) ∙ h in inl (e, cc)
    by false e = inr (e, sym (ap (λ t. if t then Some x else find f xs) e) ∙ h)

pub news_is : (q : PageQuery) (cur : Option unit.Unit) (row : Row) (u : unit.Unit) → find (is_after cur) (units_of q row) ≡ Some u → IsNews q cur row u
news_is q cur row u = by (folded q.prefix q.delimiter row.name) refl
  where
    at : (x : unit.Unit) → is_after cur x ≡ true → u ≡ x → is_after cur u ≡ true
    at x a e = subst (λ w. is_after cur w ≡ true) (sym e) a

    none_in : {X : Type 0} → find (is_after cur) [] ≡ Some u → X
    none_in h = absurd (cc)

    last : (p : List ℕ) → folded q.prefix q.delimiter row.name ≡ Some p → is_after cur (prefix_unit p) ≡ false → (b : Bool) → (q.trailing && bytes_eq row.name p) ≡ b
        → find (is_after cur) (if b then item_of q.view row ∷ [] else []) ≡ Some u
        → Among u (prefix_unit p ∷ (if b then item_of q.view row ∷ [] else [])) × (is_after cur u ≡ true) × (row.name ≡ p) × (u ≡ item_of q.view row)
    last p e n false f h = absurd (cc)
    last p e n true f h = elim (found_one (is_after cur) (item_of q.view row) u [] h) [
      | inl is ↦ (inr (inl is.1), at (item_of q.view row) is.0 is.1, bytes_same row.name p (and_parts q.trailing (bytes_eq row.name p) f).1, is.1)
      | inr other ↦ none_in other.1
    ]

    by : (o : Option (List ℕ)) → folded q.prefix q.delimiter row.name ≡ o → find (is_after cur) (units_from q row o) ≡ Some u → IsNews q cur row u
    by None e h = elim (found_one (is_after cur) (item_of q.view row) u [] h) [
      | inl is ↦ record {
        after = at (item_of q.view row) is.0 is.1;
        among = subst (λ o. Among u (units_from q row o)) (sym e) (inl is.1);
        first = inl (e, is.1);
      }
      | inr other ↦ none_in other.1
    ]
    by (Some p) e h = elim (found_one (is_after cur) (prefix_unit p) u (if q.trailing && bytes_eq row.name p then item_of q.view row ∷ [] else []) h) [
      | inl is ↦ record {
        after = at (prefix_unit p) is.0 is.1;
        among = subst (λ o. Among u (units_from q row o)) (sym e) (inl is.1);
        first = inr (inl (p, e, is.1));
      }
      | inr more ↦ (let got = last p e more.0 (q.trailing && bytes_eq row.name p) refl more.1 in
          record {
            after = got.1;
            among = subst (λ o. Among u (units_from q row o)) (sym e) got.0;
            first = inr (inr (p, e, got.2, more.0, got.3));
          })
    ]

-- the news of a row comes before all that later rows have
pub row_least : (q : PageQuery) (cur : Option unit.Unit) (r s : Row) (u v : unit.Unit) → keeps q r ≡ true → keeps q s ≡ true
    → comes_before (item_of q.view s) (item_of q.view r) ≡ false → IsNews q cur r u → IsUnit q s v → is_after cur v ≡ true → comes_before v u ≡ false
row_least q cur r s u v keep_r keep_s le news is_unit after = by news.first is_unit
  where
    names : is_below s.name r.name ≡ false
    names = upto_text (item_of q.view r) (item_of q.view s) le

    fold_r : (p : List ℕ) → folded q.prefix q.delimiter r.name ≡ Some p → FoldsTo q.prefix q.delimiter r.name p
    fold_r p = folds_to q.prefix q.delimiter r.name p (and_parts _ _ keep_r).0

    fold_s : (p : List ℕ) → folded q.prefix q.delimiter s.name ≡ Some p → FoldsTo q.prefix q.delimiter s.name p
    fold_s p = folds_to q.prefix q.delimiter s.name p (and_parts _ _ keep_s).0

    both : (x y : unit.Unit) → u ≡ x → v ≡ y → comes_before y x ≡ false → comes_before v u ≡ false
    both x y e f h = ap₂ comes_before f e ∙ h

    item_item : u ≡ item_of q.view r → v ≡ item_of q.view s → comes_before v u ≡ false
    item_item e f = both (item_of q.view r) (item_of q.view s) e f le

    -- the prefix of a later row, against the item of a row that gives both
    after_both : (p w : List ℕ) → folded q.prefix q.delimiter r.name ≡ Some p → r.name ≡ p → is_after cur (prefix_unit p) ≡ false → folded q.prefix q.delimiter s.name ≡ Some w → v ≡ prefix_unit w
        → comes_before (prefix_unit w) (item_of q.view r) ≡ false
    after_both p w e same out f is = with_test (is_below p w) refl
      where
        rise : is_below w p ≡ false
        rise = folds_rise q r.name s.name p w (fold_r p e) (fold_s w f) names

        with_test : (b : Bool) → is_below p w ≡ b → comes_before (prefix_unit w) (item_of q.view r) ≡ false
        with_test true t = lt_not_back unit_total (item_of q.view r) (prefix_unit w) (text_before (item_of q.view r) (prefix_unit w) (subst (λ n. is_below n w ≡ true) (sym same) t))
        with_test false t =
            let eq : p ≡ w = tied nat_list_cmp_total exact_bytes p w t rise in
            absurd (apart after (ap (is_after cur) (is ∙ ap prefix_unit (sym eq)) ∙ out))

    by : ((folded q.prefix q.delimiter r.name ≡ None) × (u ≡ item_of q.view r))
        ⊎ (((p : List ℕ) × (folded q.prefix q.delimiter r.name ≡ Some p) × (u ≡ prefix_unit p))
        ⊎ ((p : List ℕ) × (folded q.prefix q.delimiter r.name ≡ Some p) × (r.name ≡ p) × (is_after cur (prefix_unit p) ≡ false) × (u ≡ item_of q.view r)))
        → IsUnit q s v → comes_before v u ≡ false
    by (inl a) (inl b) = item_item a.1 b.1
    by (inl a) (inr (inl b)) = both (item_of q.view r) (prefix_unit b.0) a.1 b.2
        (lt_not_back unit_total (item_of q.view r) (prefix_unit b.0) (text_before (item_of q.view r) (prefix_unit b.0) (unfolded_below q r.name s.name b.0 a.0 (fold_s b.0 b.1) names)))
    by (inl a) (inr (inr b)) = item_item a.1 b.4
    by (inr (inl a)) (inl b) = both (prefix_unit a.0) (item_of q.view s) a.2 b.1
        (before_zero (item_of q.view s) a.0 (le_le nat_list_cmp_total a.0 r.name s.name (begins_above a.0 r.name (fold_r a.0 a.1).front) names))
    by (inr (inl a)) (inr (inl b)) = both (prefix_unit a.0) (prefix_unit b.0) a.2 b.2
        (before_zero (prefix_unit b.0) a.0 (folds_rise q r.name s.name a.0 b.0 (fold_r a.0 a.1) (fold_s b.0 b.1) names))
    by (inr (inl a)) (inr (inr b)) = both (prefix_unit a.0) (item_of q.view s) a.2 b.4
        (before_zero (item_of q.view s) a.0 (le_le nat_list_cmp_total a.0 r.name s.name (begins_above a.0 r.name (fold_r a.0 a.1).front) names))
    by (inr (inr a)) (inl b) = item_item a.4 b.1
    by (inr (inr a)) (inr (inl b)) = both (item_of q.view r) (prefix_unit b.0) a.4 b.2 (after_both a.0 b.0 a.1 a.2 a.3 b.1 b.2)
    by (inr (inr a)) (inr (inr b)) = item_item a.4 b.4
