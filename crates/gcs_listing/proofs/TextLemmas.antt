-- The texts that begin with p are those from p on and below `past p`; names that a delimiter folds alike are such a group.
use Rattle.std.proofs.Common.{◌≡◌, ℕ, suc, ◌<◌, ◌≤◌, ◌∙◌, sym, ap, ap₂, refl, List, [], ◌∷◌, ◌++◌, length, drop, arith, subst, Some, None, Option}
use Rattle.std.specs.Prelude.{Bool, true, false, ◌⊎◌, ◌&&◌, ◌==◌, if◌then◌else◌}
use mathlib.Core.Bool.{true≢false}
use mathlib.Core.Logic.{inl, inr}
use Rattle.std.specs.Option.{option_map}
use Rattle.std.specs.declared.cmp.Ordering.TheVariants.{Less, Equal, Greater}
use Rattle.std.specs.Ordering.{is_lt, nat_cmp, ordering_then}
use Rattle.std.specs.Cmp.Lexicographic.{slice_cmp}
use Rattle.std.proofs.lemmas.Bool.{cases_order, and_parts, and_from, eqb-true, eq-eqb}
use Rattle.std.proofs.lemmas.Bool.Decides.{nat_tests}
use Rattle.gcs_listing.specs.Seeking.{past}
use Rattle.gcs_meaning.specs.Order.{is_below}
use Rattle.gcs_meaning.specs.Texts.{begins, cut, folded}
use Rattle.gcs_listing.proofs.OrderLemmas.{apart}

cmp_less : (a b : ℕ) → a < b → nat_cmp a b ≡ Less
cmp_less a b h = grind (arith, nat_tests)

cmp_same : (a : ℕ) → nat_cmp a a ≡ Equal
cmp_same a = grind (arith, nat_tests)

cmp_greater : (a b : ℕ) → b < a → nat_cmp a b ≡ Greater
cmp_greater a b h = grind (arith, nat_tests)

pub first_less : (a b : ℕ) (x y : List ℕ) → a < b → is_below (a ∷ x) (b ∷ y) ≡ true
first_less a b x y h = ap (λ o. is_lt (ordering_then o (slice_cmp nat_cmp x y))) (cmp_less a b h)

pub first_greater : (a b : ℕ) (x y : List ℕ) → b < a → is_below (a ∷ x) (b ∷ y) ≡ false
first_greater a b x y h = ap (λ o. is_lt (ordering_then o (slice_cmp nat_cmp x y))) (cmp_greater a b h)

pub first_same : (a b : ℕ) (x y : List ℕ) → a ≡ b → is_below (a ∷ x) (b ∷ y) ≡ is_below x y
first_same a b x y e = ap (λ n. is_lt (ordering_then (nat_cmp a n) (slice_cmp nat_cmp x y))) (sym e) ∙ ap (λ o. is_lt (ordering_then o (slice_cmp nat_cmp x y))) (cmp_same a)

pub nothing_below_nil : (x : List ℕ) → is_below x [] ≡ false
nothing_below_nil [] = refl
nothing_below_nil (a ∷ x) = refl

-- what begins with p is not below it
pub begins_above : (p y : List ℕ) → begins p y ≡ true → is_below y p ≡ false
begins_above [] y h = nothing_below_nil y
begins_above (a ∷ p) [] h = absurd (true≢false (sym h))
begins_above (a ∷ p) (b ∷ y) h =
    let both = and_parts (a == b) (begins p y) h in
    first_same b a y p (sym (eqb-true a b both.0)) ∙ begins_above p y both.1

-- and is below what is past p
pub begins_below_past : (a : ℕ) (p y : List ℕ) → begins (a ∷ p) y ≡ true → is_below y (past (a ∷ p)) ≡ true
begins_below_past a p [] h = absurd (true≢false (sym h))
begins_below_past a [] (b ∷ y) h =
    let both = and_parts (a == b) true h in
    let e = eqb-true a b both.0 in
    first_less b (suc a) y [] (omega arith)
begins_below_past a (c ∷ p) (b ∷ y) h =
    let both = and_parts (a == b) (begins (c ∷ p) y) h in
    first_same b a y (past (c ∷ p)) (sym (eqb-true a b both.0)) ∙ begins_below_past c p y both.1

-- only what begins with p lies between the two
pub begins_between : (a : ℕ) (p y : List ℕ) → is_below y (a ∷ p) ≡ false → is_below y (past (a ∷ p)) ≡ true → begins (a ∷ p) y ≡ true
begins_between a p [] low high = absurd (true≢false low)
begins_between a [] (b ∷ y) low high = by (cases_order a b)
  where
    by : (a ≡ b) ⊎ ((a < b) ⊎ (b < a)) → begins (a ∷ []) (b ∷ y) ≡ true
    by (inl e) = and_from (a == b) true (eq-eqb a b e) refl
    by (inr (inr below)) = absurd (apart (first_less b a y [] below) low)
    by (inr (inl above)) = elim (cases_order (suc a) b) [
      | inl e ↦ absurd (apart high (first_same b (suc a) y [] (sym e) ∙ nothing_below_nil y))
      | inr (inl more) ↦ absurd (apart high (first_greater b (suc a) y [] more))
      | inr (inr less) ↦ absurd (omega arith)
    ]
begins_between a (c ∷ p) (b ∷ y) low high = elim (cases_order a b) [
  | inl e ↦ and_from (a == b) (begins (c ∷ p) y) (eq-eqb a b e) (begins_between c p y (sym (first_same b a y (c ∷ p) (sym e)) ∙ low) (sym (first_same b a y (past (c ∷ p)) (sym e)) ∙ high))
  | inr (inr below) ↦ absurd (apart (first_less b a y (c ∷ p) below) low)
  | inr (inl above) ↦ absurd (apart high (first_greater b a y (past (c ∷ p)) above))
]

-- each text begins with itself, and with what its beginning begins with
pub begins_self : (p : List ℕ) → begins p p ≡ true
begins_self [] = refl
begins_self (a ∷ p) = and_from (a == a) (begins p p) (eq-eqb a a refl) (begins_self p)

-- two texts that begin alike begin alike with anything short enough
same_front : (d p x y : List ℕ) → begins p x ≡ true → begins p y ≡ true → length d ≤ length p → begins d x ≡ begins d y
same_front [] p x y hx hy short = refl
same_front (c ∷ d) [] x y hx hy short = absurd (omega arith)
same_front (c ∷ d) (a ∷ p) [] y hx hy short = absurd (true≢false (sym hx))
same_front (c ∷ d) (a ∷ p) (b ∷ x) [] hx hy short = absurd (true≢false (sym hy))
same_front (c ∷ d) (a ∷ p) (b ∷ x) (e ∷ y) hx hy short =
    let px = and_parts (a == b) (begins p x) hx in
    let py = and_parts (a == e) (begins p y) hy in
    let same : b ≡ e = sym (eqb-true a b px.0) ∙ eqb-true a e py.0 in
    ap₂ (λ n t. (c == n) && t) same (same_front d p x y px.1 py.1 (omega arith))

some_map : (f : List ℕ → List ℕ) (o : Option (List ℕ)) (p : List ℕ) → option_map f o ≡ Some p → (q : List ℕ) × (o ≡ Some q) × (f q ≡ p)
some_map f None p h = absurd (cc)
some_map f (Some q) p h = (q, refl, cc)

-- p is what the delimiter cuts off the text x: x begins with it, it is at least as long as the delimiter, and whatever begins so is cut there
abbrev pub IsCut : List ℕ → List ℕ → List ℕ → Type 0
IsCut d x p = (begins p x ≡ true) × (length d ≤ length p) × ((y : List ℕ) → begins p y ≡ true → cut d y ≡ Some p)

pub cut_is : (c : ℕ) (d x p : List ℕ) → cut (c ∷ d) x ≡ Some p → IsCut (c ∷ d) x p
cut_is c d [] p h = absurd (cc)
cut_is c d (b ∷ x) p h = by (cut_is c d x) (begins (c ∷ d) (b ∷ x)) refl
  where
    here : (y : List ℕ) → begins (c ∷ d) y ≡ true → cut (c ∷ d) y ≡ Some (c ∷ d)
    here [] hy = absurd (true≢false (sym hy))
    here (e ∷ y) hy = ap (λ t. if t then Some (c ∷ d) else option_map (λ q. e ∷ q) (cut (c ∷ d) y)) hy

    later : (q : List ℕ) → IsCut (c ∷ d) x q → begins (c ∷ d) (b ∷ x) ≡ false → (y : List ℕ) → begins (b ∷ q) y ≡ true → cut (c ∷ d) y ≡ Some (b ∷ q)
    later q deep f [] hy = absurd (true≢false (sym hy))
    later q deep f (e ∷ y) hy =
        let both = and_parts (b == e) (begins q y) hy in
        let same : begins (c ∷ d) (b ∷ x) ≡ begins (c ∷ d) (e ∷ y) = same_front (c ∷ d) (b ∷ q) (b ∷ x) (e ∷ y) (and_from (b == b) (begins q x) (eq-eqb b b refl) deep.0) hy (omega (arith, deep.1)) in
        ap (λ t. if t then Some (c ∷ d) else option_map (λ r. e ∷ r) (cut (c ∷ d) y)) (sym same ∙ f)
        ∙ ap (option_map (λ r. e ∷ r)) (deep.2 y both.1)
        ∙ ap (λ n. Some (n ∷ q)) (sym (eqb-true b e both.0))

    by : ((q : List ℕ) → cut (c ∷ d) x ≡ Some q → IsCut (c ∷ d) x q) → (t : Bool) → begins (c ∷ d) (b ∷ x) ≡ t → IsCut (c ∷ d) (b ∷ x) p
    by before true e =
        let same : Some (c ∷ d) ≡ Some p = sym (ap (λ t. if t then Some (c ∷ d) else option_map (λ q. b ∷ q) (cut (c ∷ d) x)) e) ∙ h in
        let is : c ∷ d ≡ p = cc in
        subst (IsCut (c ∷ d) (b ∷ x)) is (e, omega arith, here)
    by before false e =
        let step : option_map (λ q. b ∷ q) (cut (c ∷ d) x) ≡ Some p = sym (ap (λ t. if t then Some (c ∷ d) else option_map (λ q. b ∷ q) (cut (c ∷ d) x)) e) ∙ h in
        let got = some_map (λ q. b ∷ q) (cut (c ∷ d) x) p step in
        let deep = before got.0 got.1 in
        subst (IsCut (c ∷ d) (b ∷ x)) got.2
        (and_from (b == b) (begins got.0 x) (eq-eqb b b refl) deep.0, omega (arith, deep.1), later got.0 deep e)

-- what begins with a longer text begins with its beginning
front_of : (p q y : List ℕ) → begins (p ++ q) y ≡ true → (begins p y ≡ true) × (begins q (drop (length p) y) ≡ true)
front_of [] q y h = (refl, h)
front_of (a ∷ p) q [] h = absurd (true≢false (sym h))
front_of (a ∷ p) q (b ∷ y) h =
    let both = and_parts (a == b) (begins (p ++ q) y) h in
    let rest = front_of p q y both.1 in
    (and_from (a == b) (begins p y) both.0 rest.0, rest.1)

joined_front : (p q y : List ℕ) → begins p y ≡ true → begins q (drop (length p) y) ≡ true → begins (p ++ q) y ≡ true
joined_front [] q y h g = g
joined_front (a ∷ p) q [] h g = absurd (true≢false (sym h))
joined_front (a ∷ p) q (b ∷ y) h g =
    let both = and_parts (a == b) (begins p y) h in
    and_from (a == b) (begins (p ++ q) y) both.0 (joined_front p q y both.1 g)

-- what a text is folded to: not empty
some_front : (a : List ℕ) (p : List ℕ) → 1 ≤ length p → (c : ℕ) × (d : List ℕ) × (a ++ p ≡ c ∷ d)
some_front [] [] h = absurd (omega arith)
some_front [] (c ∷ d) h = (c, d, refl)
some_front (b ∷ a) p h = (b, a ++ p, refl)

-- the two laws of folding, for names that begin with the prefix
pub record FoldsTo (prefix delimiter name p : List ℕ) : Type 0 where
  pub front : begins p name ≡ true
  pub in_prefix : (y : List ℕ) → begins p y ≡ true → begins prefix y ≡ true
  pub all : (y : List ℕ) → begins p y ≡ true → folded prefix delimiter y ≡ Some p
  pub first : ℕ
  pub rest : List ℕ
  pub some : p ≡ first ∷ rest

pub folds_to : (prefix delimiter name p : List ℕ) → begins prefix name ≡ true → folded prefix delimiter name ≡ Some p → FoldsTo prefix delimiter name p
folds_to prefix [] name p begin h = absurd (cc)
folds_to prefix (c ∷ d) name p begin h =
    let got = some_map (λ q. prefix ++ q) (cut (c ∷ d) (drop (length prefix) name)) p h in
    let is = cut_is c d (drop (length prefix) name) got.0 got.1 in
    let one = some_front prefix got.0 (omega (arith, is.1)) in
    subst (λ q. FoldsTo prefix (c ∷ d) name q) got.2 record {
      front = joined_front prefix got.0 name begin is.0;
      in_prefix = λ y hy. (front_of prefix got.0 y hy).0;
      all = λ y hy. ap (option_map (λ q. prefix ++ q)) (is.2 (drop (length prefix) y) (front_of prefix got.0 y hy).1);
      first = one.0;
      rest = one.1;
      some = one.2;
    }

-- what a name is folded to isn't empty
pub folded_some : (prefix delimiter name p : List ℕ) → begins prefix name ≡ true → Some p ≡ folded prefix delimiter name → 1 ≤ length p
folded_some prefix delimiter name p begin h =
    let to = folds_to prefix delimiter name p begin (sym h) in
    subst (λ (w : List ℕ). 1 ≤ length w) (sym to.some) (omega arith)
