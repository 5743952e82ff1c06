-- The first unit of the first row that has news is the least of the units that are left.
use Rattle.std.proofs.Common.{◌≡◌, ◌∙◌, sym, ap, ap₂, refl, List, [], ◌∷◌, subst, Some, None, Option}
use Rattle.std.specs.Prelude.{Bool, true, false, ◌⊎◌, if◌then◌else◌, ⊤}
use mathlib.Core.Logic.{inl, inr}
use Rattle.std.specs.List.{filter, AllByRecursion}
use Rattle.std.specs.declared.cmp.Ordering.{Ordering}
use Rattle.std.specs.declared.cmp.Ordering.TheVariants.{Less, Equal, Greater}
use Rattle.std.specs.Ordering.{nat_cmp, ordering_then}
use Rattle.std.specs.Cmp.{IsTotalOrder}
use Rattle.std.specs.Cmp.Lexicographic.{slice_cmp}
use Rattle.std.proofs.lemmas.Cmp.{nat_list_cmp_total, nat_cmp_total, then_total, on_total}
use Rattle.std.proofs.lemmas.Map.Lookups.{exact_bytes, exact_unsigned}
use Rattle.gcs_meaning.specs.declared.listing.Unit as unit
use Rattle.gcs_meaning.specs.Listing.{placed, ordered, is_after}
use Rattle.gcs_meaning.specs.Order.{unit_cmp, comes_before}
use Rattle.gcs_listing.proofs.OrderLemmas.{apart, lt_trans, lt_self, lt_not_back, tied}

pub unit_total : IsTotalOrder unit_cmp
unit_total = then_total (on_total (λ (m : unit.Unit). m.text) nat_list_cmp_total) (on_total (λ (m : unit.Unit). m.number) nat_cmp_total)

unit_exact : (x y : unit.Unit) → unit_cmp x y ≡ Equal → x ≡ y
unit_exact x y e = by (slice_cmp nat_cmp x.text y.text) refl
  where
    by : (o : Ordering) → slice_cmp nat_cmp x.text y.text ≡ o → x ≡ y
    by Less f = absurd (cc)
    by Greater f = absurd (cc)
    by Equal f =
        let t = exact_bytes x.text y.text f in
        let n = exact_unsigned x.number y.number (sym (ap (λ o. ordering_then o (nat_cmp x.number y.number)) f) ∙ e) in
        λ i. record { text = t i; number = n i }

-- ---- units in order, each once
abbrev pub Rising : List unit.Unit → Type 0
Rising [] = ⊤
Rising (u ∷ us) = AllByRecursion (λ v. comes_before u v ≡ true) us × Rising us

abbrev pub Among : unit.Unit → List unit.Unit → Type 0
Among u [] = ⊥
Among u (v ∷ vs) = (u ≡ v) ⊎ Among u vs

pub all_map : {X : Type 0} {P Q : X → Type 0} → ((x : X) → P x → Q x) → (xs : List X) → AllByRecursion P xs → AllByRecursion Q xs
all_map f [] h = tt
all_map f (x ∷ xs) h = (f x h.0, all_map f xs h.1)

pub all_both : {X : Type 0} (P Q : X → Type 0) (xs : List X) → AllByRecursion P xs → AllByRecursion Q xs → AllByRecursion (λ x. P x × Q x) xs
all_both P Q [] h g = tt
all_both P Q (x ∷ xs) h g = ((h.0, g.0), all_both P Q xs h.1 g.1)

by_tests : (P : List unit.Unit → Type 0) (b c : Bool) (x y z : List unit.Unit) → (b ≡ true → P x) → (b ≡ false → c ≡ true → P y) → (b ≡ false → c ≡ false → P z) → P (if b then x else if c then y else z)
by_tests P true c x y z f g h = f refl
by_tests P false true x y z f g h = g refl refl
by_tests P false false x y z f g h = h refl refl

all_placed : (P : unit.Unit → Type 0) (u : unit.Unit) (us : List unit.Unit) → P u → AllByRecursion P us → AllByRecursion P (placed u us)
all_placed P u [] p all = (p, tt)
all_placed P u (v ∷ vs) p all =
    by_tests (AllByRecursion P) (comes_before u v) (comes_before v u) (u ∷ v ∷ vs) (v ∷ placed u vs) (v ∷ vs)
    (λ _. (p, all)) (λ _ _. (all.0, all_placed P u vs p all.1)) (λ _ _. all)

pub all_ordered : (P : unit.Unit → Type 0) (us : List unit.Unit) → AllByRecursion P us → AllByRecursion P (ordered us)
all_ordered P [] all = tt
all_ordered P (u ∷ us) all = all_placed P u (ordered us) all.0 (all_ordered P us all.1)

rising_placed : (u : unit.Unit) (us : List unit.Unit) → Rising us → Rising (placed u us)
rising_placed u [] r = (tt, tt)
rising_placed u (v ∷ vs) r =
    by_tests Rising (comes_before u v) (comes_before v u) (u ∷ v ∷ vs) (v ∷ placed u vs) (v ∷ vs)
    (λ below. ((below, all_map (λ w. lt_trans unit_total u v w below) vs r.0), r))
    (λ _ above. (all_placed (λ w. comes_before v w ≡ true) u vs above r.0, rising_placed u vs r.1))
    (λ _ _. r)

pub rising_ordered : (us : List unit.Unit) → Rising (ordered us)
rising_ordered [] = tt
rising_ordered (u ∷ us) = rising_placed u (ordered us) (rising_ordered us)

among_placed : (u : unit.Unit) (us : List unit.Unit) → Among u (placed u us)
among_placed u [] = inl refl
among_placed u (v ∷ vs) =
    by_tests (Among u) (comes_before u v) (comes_before v u) (u ∷ v ∷ vs) (v ∷ placed u vs) (v ∷ vs)
    (λ _. inl refl) (λ _ _. inr (among_placed u vs)) (λ a b. inl (tied unit_total unit_exact u v a b))

stays_placed : (w u : unit.Unit) (us : List unit.Unit) → Among w us → Among w (placed u us)
stays_placed w u [] there = absurd there
stays_placed w u (v ∷ vs) there =
    by_tests (Among w) (comes_before u v) (comes_before v u) (u ∷ v ∷ vs) (v ∷ placed u vs) (v ∷ vs)
    (λ _. inr there)
    (λ _ _. elim there [ inl e ↦ inl e | inr more ↦ inr (stays_placed w u vs more) ])
    (λ _ _. there)

pub among_ordered : (w : unit.Unit) (us : List unit.Unit) → Among w us → Among w (ordered us)
among_ordered w [] there = there
among_ordered w (u ∷ us) (inl e) = subst (λ x. Among w (placed x (ordered us))) e (among_placed w (ordered us))
among_ordered w (u ∷ us) (inr more) = stays_placed w u (ordered us) (among_ordered w us more)

-- ---- the units after one
kept : (b : Bool) (x : unit.Unit) (xs : List unit.Unit) → b ≡ true → (if b then x ∷ xs else xs) ≡ x ∷ xs
kept b x xs e = ap (λ t. if t then x ∷ xs else xs) e

dropped : (b : Bool) (x : unit.Unit) (xs : List unit.Unit) → b ≡ false → (if b then x ∷ xs else xs) ≡ xs
dropped b x xs e = ap (λ t. if t then x ∷ xs else xs) e

keeps_all : (f : unit.Unit → Bool) (xs : List unit.Unit) → AllByRecursion (λ x. f x ≡ true) xs → filter f xs ≡ xs
keeps_all f [] all = refl
keeps_all f (x ∷ xs) all = kept (f x) x (filter f xs) all.0 ∙ ap (λ l. x ∷ l) (keeps_all f xs all.1)

pub keeps_none : (f : unit.Unit → Bool) (xs : List unit.Unit) → AllByRecursion (λ x. f x ≡ false) xs → filter f xs ≡ []
keeps_none f [] all = refl
keeps_none f (x ∷ xs) all = dropped (f x) x (filter f xs) all.0 ∙ keeps_none f xs all.1

-- what comes after what is after is after
after_more : (cur : Option unit.Unit) (x y : unit.Unit) → is_after cur x ≡ true → comes_before x y ≡ true → is_after cur y ≡ true
after_more None x y a b = refl
after_more (Some c) x y a b = lt_trans unit_total c x y a b

-- the least unit that is left comes first
pub step : (cur : Option unit.Unit) (u : unit.Unit) (us : List unit.Unit) → Rising us → Among u us → is_after cur u ≡ true
    → AllByRecursion (λ v. is_after cur v ≡ true → comes_before v u ≡ false) us
    → filter (is_after cur) us ≡ u ∷ filter (is_after (Some u)) us
step cur u [] r there after least = absurd there
step cur u (x ∷ us) r (inl e) after least =
    let ax : is_after cur x ≡ true = subst (λ w. is_after cur w ≡ true) e after in
    kept (is_after cur x) x (filter (is_after cur) us) ax
    ∙ ap₂ (λ a l. a ∷ l) (sym e)
    (keeps_all (is_after cur) us (all_map (λ y. after_more cur x y ax) us r.0)
    ∙ sym (keeps_all (is_after (Some u)) us (subst (λ w. AllByRecursion (λ y. comes_before w y ≡ true) us) (sym e) r.0))
    ∙ sym (dropped (is_after (Some u) x) x (filter (is_after (Some u)) us) (subst (λ w. comes_before w x ≡ false) (sym e) (lt_self unit_total x))))
step cur u (x ∷ us) r (inr more) after least =
    let before : comes_before x u ≡ true = at us r.0 more in
    let out : is_after cur x ≡ false = by (is_after cur x) refl before in
    dropped (is_after cur x) x (filter (is_after cur) us) out
    ∙ step cur u us r.1 more after least.1
    ∙ ap (λ l. u ∷ l) (sym (dropped (is_after (Some u) x) x (filter (is_after (Some u)) us) (lt_not_back unit_total x u before)))
  where
    at : (vs : List unit.Unit) → AllByRecursion (λ v. comes_before x v ≡ true) vs → Among u vs → comes_before x u ≡ true
    at [] all there = absurd there
    at (v ∷ vs) all (inl e) = subst (λ w. comes_before x w ≡ true) (sym e) all.0
    at (v ∷ vs) all (inr there) = at vs all.1 there

    by : (b : Bool) → is_after cur x ≡ b → comes_before x u ≡ true → b ≡ false
    by false e before = refl
    by true e before = absurd (apart before (least.0 e))
