-- The order of units is total and exact, and equal bytes are the same text.
use Rattle.std.proofs.Common.{◌≡◌, ◌∙◌, sym, ap, refl, subst, ℕ, Bool, true, false, List, inl, inr}
use Rattle.std.specs.Prelude.{◌⊎◌}
use mathlib.Core.Bool.{true≢false}
use Rattle.std.specs.Str.{bytes_eq}
use Rattle.std.specs.Cmp.{IsTotalOrder}
use Rattle.std.specs.Cmp.Lexicographic.{slice_cmp}
use Rattle.std.specs.declared.cmp.Ordering.{Ordering}
use Rattle.std.specs.declared.cmp.Ordering.TheVariants.{Less, Equal, Greater}
use Rattle.std.specs.Ordering.{is_lt, is_eq, nat_cmp, ordering_reverse, ordering_then}
use Rattle.std.proofs.lemmas.Cmp.{tied_itself, nat_list_cmp_total, nat_cmp_total, then_total, on_total}
use Rattle.std.proofs.lemmas.Map.Lookups.{exact_bytes, exact_unsigned}
use Rattle.std.proofs.lemmas.Map.Text.{is_eq-slice_cmp}
use Rattle.gcs_meaning.specs.declared.listing.Unit as unit
use Rattle.gcs_meaning.specs.Order.{comes_before, unit_cmp}

-- two answers that exclude each other
pub apart : {b : Bool} → b ≡ true → b ≡ false → ⊥
apart t f = true≢false (sym t ∙ f)

less_from : (o : Ordering) → is_lt o ≡ true → o ≡ Less
less_from Less h = refl
less_from Equal h = absurd (true≢false (sym h))
less_from Greater h = absurd (true≢false (sym h))

not_less : (o : Ordering) → is_lt o ≡ false → (o ≡ Equal) ⊎ (o ≡ Greater)
not_less Less h = absurd (true≢false h)
not_less Equal h = inl refl
not_less Greater h = inr refl

unit_total : IsTotalOrder unit_cmp
unit_total = then_total (on_total (λ (u : unit.Unit). u.text) nat_list_cmp_total) (on_total (λ (u : unit.Unit). u.number) nat_cmp_total)

unit_exact : (x y : unit.Unit) → unit_cmp x y ≡ Equal → x ≡ y
unit_exact x y e = by (slice_cmp nat_cmp x.text y.text) refl
  where
    by : (o : Ordering) → slice_cmp nat_cmp x.text y.text ≡ o → x ≡ y
    by Less f = absurd (cc)
    by Greater f = absurd (cc)
    by Equal f =
        let t = exact_bytes x.text y.text f in
        let n = exact_unsigned x.number y.number (sym (ap (λ o. ordering_then o (nat_cmp x.number y.number)) f) ∙ e) in
        λ i. record { text = t i; number = n i }

-- to come before is transitive, and is no two-way road
pub before_before : (x y z : unit.Unit) → comes_before x y ≡ true → comes_before y z ≡ true → comes_before x z ≡ true
before_before x y z p q = ap is_lt (unit_total.trans x y z (less_from (unit_cmp x y) p) (less_from (unit_cmp y z) q))

pub before_self : (x : unit.Unit) → comes_before x x ≡ false
before_self x = ap is_lt (tied_itself unit_total x)

pub not_back : (x y : unit.Unit) → comes_before x y ≡ true → comes_before y x ≡ false
not_back x y p = ap is_lt (unit_total.antisymm y x ∙ ap ordering_reverse (less_from (unit_cmp x y) p))

-- what comes no earlier than y comes behind all that is before y
pub from_before : (x y z : unit.Unit) → comes_before y x ≡ false → comes_before y z ≡ true → comes_before x z ≡ true
from_before x y z p q = by (not_less (unit_cmp y x) p)
  where
    by : (unit_cmp y x ≡ Equal) ⊎ (unit_cmp y x ≡ Greater) → comes_before x z ≡ true
    by (inl e) = ap is_lt (sym (unit_total.congr y x z e)) ∙ q
    by (inr g) = before_before x y z (ap is_lt (unit_total.antisymm x y ∙ ap ordering_reverse g)) q

-- of two different places one comes before the other
pub tied : (x y : unit.Unit) → comes_before x y ≡ false → comes_before y x ≡ false → x ≡ y
tied x y p q = by (not_less (unit_cmp x y) p)
  where
    by : (unit_cmp x y ≡ Equal) ⊎ (unit_cmp x y ≡ Greater) → x ≡ y
    by (inl e) = unit_exact x y e
    by (inr g) = absurd (true≢false (sym (ap is_lt (unit_total.antisymm y x ∙ ap ordering_reverse g)) ∙ q))

-- equal bytes are the same text, and the other way round
pub same_text : (x y : List ℕ) → bytes_eq x y ≡ true → x ≡ y
same_text x y e = exact_bytes x y (equal_from (slice_cmp nat_cmp x y) (is_eq-slice_cmp x y ∙ e))
  where
    equal_from : (o : Ordering) → is_eq o ≡ true → o ≡ Equal
    equal_from Less h = absurd (true≢false (sym h))
    equal_from Equal h = refl
    equal_from Greater h = absurd (true≢false (sym h))

pub bytes_eq_from : (x y : List ℕ) → x ≡ y → bytes_eq x y ≡ true
bytes_eq_from x y e = sym (is_eq-slice_cmp x y) ∙ ap is_eq (subst (λ w. slice_cmp nat_cmp x w ≡ Equal) e (tied_itself nat_list_cmp_total x))
