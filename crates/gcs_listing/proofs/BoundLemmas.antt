-- Where the next unit is sought.
use Rattle.std.proofs.Common.{◌≡◌, ℕ, suc, ◌+◌, ◌-◌, ◌<◌, ◌≤◌, ◌∙◌, sym, ap, ap₂, refl, List, [], ◌∷◌, ◌++◌, length, get_or, set, arith, subst, Some, Option}
use Rattle.std.specs.Prelude.{Bool, true, false, not, ◌⊎◌, ◌^◌}
use mathlib.Core.Bool.{true≢false}
use mathlib.Core.Logic.{inl, inr}
use Rattle.std.specs.Ordering.{is_lt, nat_cmp, ordering_then}
use Rattle.std.specs.Cmp.Lexicographic.{slice_cmp}
use Rattle.std.specs.declared.cmp.Ordering.{Ordering}
use Rattle.std.specs.declared.cmp.Ordering.TheVariants.{Less, Equal, Greater}
use Rattle.std.proofs.lemmas.Bool.{and_parts, not-true, not_from_false}
use Rattle.std.proofs.lemmas.Bool.Decides.{nat_tests}
use Rattle.std.proofs.lemmas.Cmp.{nat_list_cmp_total, tied_itself}
use Rattle.std.proofs.lemmas.Map.Lookups.{exact_bytes}
use Rattle.gcs_meaning.specs.declared.version.Row.{Row}
use Rattle.gcs_meaning.specs.declared.listing.Unit as unit
use Rattle.gcs_meaning.specs.declared.listing.View.{View}
use Rattle.gcs_meaning.specs.declared.listing.View.TheVariants.{Live, Versions}
use Rattle.gcs_meaning.specs.declared.listing.PageQuery.{PageQuery}
use Rattle.gcs_listing.specs.Seeking.{past, IsAfterBound, IsBound, IsLow}
use Rattle.gcs_meaning.specs.Listing.{item_of, is_from, is_after}
use Rattle.gcs_meaning.specs.Order.{is_below, comes_before, place_of, is_at_least, unit_at, IsNumbered}
use Rattle.gcs_listing.proofs.OrderLemmas.{apart, lt_self, lt_le, le_le, tied}
use Rattle.gcs_listing.proofs.TextLemmas.{first_same, nothing_below_nil}
use Rattle.gcs_listing.proofs.UnitLemmas.{text_before, before_text, upto_text, before_zero}
use Rattle.gcs_listing.proofs.SeekLemmas.{news_due, from_later}

-- a unit before another: by text, or by number
pub split : (x y : unit.Unit) → comes_before x y ≡ true → (is_below x.text y.text ≡ true) ⊎ ((x.text ≡ y.text) × (x.number < y.number))
split x y h = by (slice_cmp nat_cmp x.text y.text) refl
  where
    by : (o : Ordering) → slice_cmp nat_cmp x.text y.text ≡ o → (is_below x.text y.text ≡ true) ⊎ ((x.text ≡ y.text) × (x.number < y.number))
    by Less e = inl (ap is_lt e)
    by Equal e =
        let n : is_lt (nat_cmp x.number y.number) ≡ true = sym (ap (λ o. is_lt (ordering_then o (nat_cmp x.number y.number))) e) ∙ h in
        inr (exact_bytes x.text y.text e, grind (arith, nat_tests))
    by Greater e = absurd (true≢false (sym h ∙ ap (λ o. is_lt (ordering_then o (nat_cmp x.number y.number))) e))

same_text : (t u : List ℕ) (m n : ℕ) → t ≡ u → comes_before (unit_at t m) (unit_at u n) ≡ is_lt (nat_cmp m n)
same_text t u m n e = ap (λ o. is_lt (ordering_then o (nat_cmp m n))) (subst (λ w. slice_cmp nat_cmp t w ≡ Equal) e (tied_itself nat_list_cmp_total t))

below_next : (t : List ℕ) → is_below t (t ++ 0 ∷ []) ≡ true
below_next [] = refl
below_next (a ∷ t) = first_same a a t (t ++ 0 ∷ []) refl ∙ below_next t

next_least : (t x : List ℕ) → is_below t x ≡ true → is_below x (t ++ 0 ∷ []) ≡ false
next_least [] [] h = absurd (true≢false (sym h))
next_least [] (b ∷ x) h = by (nat_cmp b 0) refl
  where
    by : (o : Ordering) → nat_cmp b 0 ≡ o → is_lt (ordering_then (nat_cmp b 0) (slice_cmp nat_cmp x [])) ≡ false
    by Less e = absurd (grind (arith, nat_tests))
    by Equal e = ap (λ o. is_lt (ordering_then o (slice_cmp nat_cmp x []))) e ∙ nothing_below_nil x
    by Greater e = ap (λ o. is_lt (ordering_then o (slice_cmp nat_cmp x []))) e
next_least (a ∷ t) [] h = absurd (true≢false (sym h))
next_least (a ∷ t) (b ∷ x) h = by (nat_cmp a b) refl (λ h2. next_least t x h2)
  where
    by : (o : Ordering) → nat_cmp a b ≡ o → (is_below t x ≡ true → is_below x (t ++ 0 ∷ []) ≡ false) → is_below (b ∷ x) (a ∷ (t ++ 0 ∷ [])) ≡ false
    by Less e more =
        let g : nat_cmp b a ≡ Greater = grind (arith, nat_tests) in
        ap (λ o. is_lt (ordering_then o (slice_cmp nat_cmp x (t ++ 0 ∷ [])))) g
    by Equal e more =
        let g : nat_cmp b a ≡ Equal = grind (arith, nat_tests) in
        ap (λ o. is_lt (ordering_then o (slice_cmp nat_cmp x (t ++ 0 ∷ [])))) g ∙ more (sym (ap (λ o. is_lt (ordering_then o (slice_cmp nat_cmp t x))) e) ∙ h)
    by Greater e more = absurd (true≢false (sym h ∙ ap (λ o. is_lt (ordering_then o (slice_cmp nat_cmp t x))) e))

tied_texts : (x y : List ℕ) → is_below x y ≡ false → is_below y x ≡ false → x ≡ y
tied_texts x y a b = tied nat_list_cmp_total exact_bytes x y a b

-- ---- the bounds
pub after_zero : (c : unit.Unit) → c.number ≡ 0 → IsAfterBound Live c (unit_at c.text 0)
after_zero c e = record {
  due = λ row n before. not_from_false (comes_before (place_of row) (unit_at c.text 0)) (before_zero (place_of row) c.text (before_text c (item_of Live row) before));
  after = λ row at. by row (is_below c.text row.name) refl (upto_text (unit_at c.text 0) (place_of row) (not-true (comes_before (place_of row) (unit_at c.text 0)) at));
}
  where
    by : (row : Row) (b : Bool) → is_below c.text row.name ≡ b → is_below row.name c.text ≡ false → comes_before c (item_of Live row) ≡ true
    by row true t le = text_before c (item_of Live row) t
    by row false t le =
        same_text c.text row.name c.number 1 (tied_texts c.text row.name t le) ∙ ap (λ n. is_lt (nat_cmp n 1)) e

-- past a name altogether
pub after_name : (view : View) (c : unit.Unit) → ((row : Row) → IsNumbered row → comes_before c (item_of view row) ≡ true → is_below c.text row.name ≡ true) → IsAfterBound view c (unit_at (c.text ++ 0 ∷ []) 0)
after_name view c above = record {
  due = λ row n before. not_from_false (comes_before (place_of row) (unit_at (c.text ++ 0 ∷ []) 0)) (before_zero (place_of row) (c.text ++ 0 ∷ []) (next_least c.text row.name (above row n before)));
  after = λ row at. text_before c (item_of view row) (lt_le nat_list_cmp_total c.text (c.text ++ 0 ∷ []) row.name (below_next c.text) (upto_text (unit_at (c.text ++ 0 ∷ []) 0) (place_of row) (not-true (comes_before (place_of row) (unit_at (c.text ++ 0 ∷ []) 0)) at)));
}

pub after_item : (c : unit.Unit) → 1 ≤ c.number → IsAfterBound Live c (unit_at (c.text ++ 0 ∷ []) 0)
after_item c one = after_name Live c (λ row n before. elim (split c (item_of Live row) before) [
  | inl t ↦ t
  | inr same ↦ absurd (omega (arith, same.1))
])

pub after_last : (c : unit.Unit) → 2 ^ 64 ≤ c.number + 1 → IsAfterBound Versions c (unit_at (c.text ++ 0 ∷ []) 0)
after_last c last = after_name Versions c (λ row n before. elim (split c (item_of Versions row) before) [
  | inl t ↦ t
  | inr same ↦ absurd (omega (arith, same.1, n.1))
])

pub after_number : (c : unit.Unit) → IsAfterBound Versions c (unit_at c.text (c.number + 1))
after_number c = record { due = due; after = after }
  where
    due : (row : Row) → IsNumbered row → comes_before c (item_of Versions row) ≡ true → is_at_least (unit_at c.text (c.number + 1)) row ≡ true
    due row n before = not_from_false (comes_before (place_of row) (unit_at c.text (c.number + 1))) (by (comes_before (place_of row) (unit_at c.text (c.number + 1))) refl)
      where
        by : (b : Bool) → comes_before (place_of row) (unit_at c.text (c.number + 1)) ≡ b → b ≡ false
        by false e = refl
        by true e = elim (split (place_of row) (unit_at c.text (c.number + 1)) e) [
          | inl t ↦ absurd (apart t (before_text c (item_of Versions row) before))
          | inr same ↦ elim (split c (item_of Versions row) before) [
            | inl t ↦ absurd (apart (subst (λ w. is_below c.text w ≡ true) same.0 t) (lt_self nat_list_cmp_total c.text))
            | inr again ↦ absurd (omega (arith, same.1, again.1))
          ]
        ]

    after : (row : Row) → is_at_least (unit_at c.text (c.number + 1)) row ≡ true → comes_before c (item_of Versions row) ≡ true
    after row at = by (comes_before c (item_of Versions row)) refl (not-true (comes_before (place_of row) (unit_at c.text (c.number + 1))) at)
      where
        number : c.text ≡ row.name → is_lt (nat_cmp c.number row.generation) ≡ false → is_lt (nat_cmp row.generation (c.number + 1)) ≡ true
        number _ h = grind (arith, nat_tests)

        by : (b : Bool) → comes_before c (item_of Versions row) ≡ b → comes_before (place_of row) (unit_at c.text (c.number + 1)) ≡ false → b ≡ true
        by true e out = refl
        by false e out =
            let le = upto_text (item_of Versions row) c e in
            let same : c.text ≡ row.name = tied_texts c.text row.name le (upto_text (unit_at c.text (c.number + 1)) (place_of row) out) in
            let low = sym (same_text c.text row.name c.number row.generation same) ∙ e in
            absurd (apart (same_text row.name c.text row.generation (c.number + 1) (sym same) ∙ number same low) out)

pub bound_low : (q : PageQuery) (cur : Option unit.Unit) (low : List ℕ) → IsLow q low → ((row : Row) → is_below row.name low ≡ false → is_after cur (item_of q.view row) ≡ true) → IsBound q cur (unit_at low 0)
bound_low q cur low is after = record {
  due = λ row n news.
      (let due = and_parts _ _ (news_due q cur row n news) in
      let place = and_parts (not (is_below row.name q.prefix)) (is_from q.start row.name) due.1 in
      not_from_false (comes_before (place_of row) (unit_at low 0)) (before_zero (place_of row) low (is.least row.name (not-true (is_below row.name q.prefix) place.0) place.1)));
  from_prefix = λ row at. le_le nat_list_cmp_total q.prefix low row.name is.prefix (from row at);
  from_start = λ row at. from_later q.start low row.name is.start (from row at);
  after = λ row at. after row (from row at);
}
  where
    from : (row : Row) → is_at_least (unit_at low 0) row ≡ true → is_below row.name low ≡ false
    from row at = upto_text (unit_at low 0) (place_of row) (not-true (comes_before (place_of row) (unit_at low 0)) at)

pub bound_after : (q : PageQuery) (c b : unit.Unit) (low : List ℕ) → IsLow q low → is_below c.text low ≡ false → IsAfterBound q.view c b → IsBound q (Some c) b
bound_after q c b low is above bound = record {
  due = λ row n news. bound.due row n (and_parts (comes_before c (item_of q.view row)) _ (news_due q (Some c) row n news)).0;
  from_prefix = λ row at. le_le nat_list_cmp_total q.prefix low row.name is.prefix (from row at);
  from_start = λ row at. from_later q.start low row.name is.start (from row at);
  after = λ row at. bound.after row at;
}
  where
    from : (row : Row) → is_at_least b row ≡ true → is_below row.name low ≡ false
    from row at = le_le nat_list_cmp_total low c.text row.name above (before_text c (item_of q.view row) (bound.after row at))

pub low_below : (c : unit.Unit) (low : List ℕ) → is_below c.text low ≡ true → (view : View) (row : Row) → is_below row.name low ≡ false → comes_before c (item_of view row) ≡ true
low_below c low h view row from = text_before c (item_of view row) (lt_le nat_list_cmp_total c.text low row.name h from)

past_set : (a : ℕ) (p : List ℕ) (d : ℕ) → past (a ∷ p) ≡ set (a ∷ p) (length p) (get_or (a ∷ p) (length p) d + 1)
past_set a [] d = let e : suc a ≡ a + 1 = omega arith in ap (λ n. n ∷ []) e
past_set a (b ∷ p) d = ap (λ l. a ∷ l) (past_set b p d)

-- what is past a text differs in its last byte
pub past_last : (p items : List ℕ) (n v : ℕ) → items ≡ p → 1 ≤ length p → n ≡ length p → v ≡ get_or items (n - 1) v → set items (n - 1) (v + 1) ≡ past p
past_last p [] n v same some e at = absurd (omega (arith, ap length same))
past_last p (a ∷ q) n v same some e at =
    let last : n - 1 ≡ length q = omega (arith, ap length same) in
    let value : v ≡ get_or (a ∷ q) (length q) v = subst (λ m. v ≡ get_or (a ∷ q) m v) last at in
    ap₂ (λ m w. set (a ∷ q) m (w + 1)) last value ∙ sym (past_set a q v) ∙ ap past same
