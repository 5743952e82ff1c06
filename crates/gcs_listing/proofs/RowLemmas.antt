-- From rows to units: what the first row with news gives; and how two seeks find that row.
use Rattle.std.proofs.Common.{◌≡◌, ◌∙◌, sym, ap, refl, List, [], ◌∷◌, ◌++◌, subst, Some, None, Option}
use Rattle.std.specs.Prelude.{Bool, true, false, ◌⊎◌, if◌then◌else◌, ⊤, is_some}
use mathlib.Core.Logic.{inl, inr}
use Rattle.std.specs.List.{filter, flat_map, find, AllByRecursion}
use Rattle.std.proofs.lemmas.Bool.{and_parts, and_from}
use Rattle.std.proofs.lemmas.List.Concat.{flat_map-cons}
use Rattle.gcs_meaning.specs.declared.version.Row.{Row}
use Rattle.gcs_meaning.specs.declared.listing.Unit as unit
use Rattle.gcs_meaning.specs.declared.listing.PageQuery.{PageQuery}
use Rattle.gcs_listing.specs.Seeking.{is_news, RisesBy}
use Rattle.gcs_meaning.specs.Listing.{item_of, keeps, units_of, units, is_after}
use Rattle.gcs_meaning.specs.Order.{comes_before, place_of}
use Rattle.gcs_listing.proofs.OrderLemmas.{apart, lt_self, lt_not_back}
use Rattle.gcs_listing.proofs.ListingLemmas.{unit_total, all_map, Among, step, keeps_none, all_ordered, among_ordered, rising_ordered}
use Rattle.gcs_listing.proofs.UnitLemmas.{are_units, IsNews, news_is, row_least}

-- ---- finding
pub find_cases : {X : Type 0} (f : X → Bool) (x k : X) (xs : List X) → find f (x ∷ xs) ≡ Some k → ((f x ≡ true) × (k ≡ x)) ⊎ ((f x ≡ false) × (find f xs ≡ Some k))
find_cases f x k xs h = by (f x) refl
  where
    by : (b : Bool) → f x ≡ b → ((f x ≡ true) × (k ≡ x)) ⊎ ((f x ≡ false) × (find f xs ≡ Some k))
    by true e = let s : Some x ≡ Some k = sym (ap (λ t. if t then Some x else find f xs) e) ∙ h in inl (e, cc)
    by false e = inr (e, sym (ap (λ t. if t then Some x else find f xs) e) ∙ h)

find_none : {X : Type 0} (f : X → Bool) (x : X) (xs : List X) → find f (x ∷ xs) ≡ None → (f x ≡ false) × (find f xs ≡ None)
find_none f x xs h = by (f x) refl
  where
    by : (b : Bool) → f x ≡ b → (f x ≡ false) × (find f xs ≡ None)
    by true e = let s : Some x ≡ None = sym (ap (λ t. if t then Some x else find f xs) e) ∙ h in absurd (cc)
    by false e = (e, sym (ap (λ t. if t then Some x else find f xs) e) ∙ h)

pub none_found : {X : Type 0} (f : X → Bool) (xs : List X) → find f xs ≡ None → AllByRecursion (λ x. f x ≡ false) xs
none_found f [] h = tt
none_found f (x ∷ xs) h = let parts = find_none f x xs h in (parts.0, none_found f xs parts.1)

pub finds_none : {X : Type 0} (f : X → Bool) (xs : List X) → AllByRecursion (λ x. f x ≡ false) xs → find f xs ≡ None
finds_none f [] all = refl
finds_none f (x ∷ xs) all = ap (λ t. if t then Some x else find f xs) all.0 ∙ finds_none f xs all.1

-- a found element passes, and what holds of each holds of it
pub found_passes : {X : Type 0} (f : X → Bool) (P : X → Type 0) (k : X) (xs : List X) → AllByRecursion P xs → find f xs ≡ Some k → (f k ≡ true) × P k
found_passes f P k [] all h = absurd (cc)
found_passes f P k (x ∷ xs) all h = elim (find_cases f x k xs h) [
  | inl is ↦ subst (λ y. (f y ≡ true) × P y) (sym is.1) (is.0, all.0)
  | inr more ↦ found_passes f P k xs all.1 more.1
]

-- the first that passes a stricter test is the first of a laxer one, if that passes
pub find_same : {X : Type 0} (f g : X → Bool) (k : X) (xs : List X) → AllByRecursion (λ x. f x ≡ true → g x ≡ true) xs → find g xs ≡ Some k → f k ≡ true → find f xs ≡ Some k
find_same f g k [] all h t = absurd (cc)
find_same f g k (x ∷ xs) all h t = elim (find_cases g x k xs h) [
  | inl is ↦ ap (λ b. if b then Some x else find f xs) (subst (λ y. f y ≡ true) is.1 t) ∙ ap Some (sym is.1)
  | inr more ↦ by (f x) refl more.0 (find_same f g k xs all.1 more.1 t)
]
  where
    by : (b : Bool) → f x ≡ b → g x ≡ false → find f xs ≡ Some k → find f (x ∷ xs) ≡ Some k
    by true e out rest = absurd (apart (all.0 e) out)
    by false e out rest = ap (λ b. if b then Some x else find f xs) e ∙ rest

pub find_none_too : {X : Type 0} (f g : X → Bool) (xs : List X) → AllByRecursion (λ x. f x ≡ true → g x ≡ true) xs → find g xs ≡ None → find f xs ≡ None
find_none_too f g [] all h = refl
find_none_too f g (x ∷ xs) all h =
    let parts = find_none g x xs h in
    by (f x) refl parts.0 (find_none_too f g xs all.1 parts.1)
  where
    by : (b : Bool) → f x ≡ b → g x ≡ false → find f xs ≡ None → find f (x ∷ xs) ≡ None
    by true e out rest = absurd (apart (all.0 e) out)
    by false e out rest = ap (λ b. if b then Some x else find f xs) e ∙ rest

-- among rising rows, those that pass are from the found one on
pub from_found : (g : Row → Bool) (k : Row) (rows : List Row) → RisesBy place_of rows → find g rows ≡ Some k → AllByRecursion (λ x. g x ≡ true → comes_before (place_of x) (place_of k) ≡ false) rows
from_found g k [] r h = tt
from_found g k (x ∷ rows) r h = elim (find_cases g x k rows h) [
  | inl is ↦ (
    λ _. subst (λ y. comes_before (place_of x) (place_of y) ≡ false) (sym is.1) (lt_self unit_total (place_of x)),
    all_map (λ y before. λ _. subst (λ z. comes_before (place_of y) (place_of z) ≡ false) (sym is.1) (lt_not_back unit_total (place_of x) (place_of y) before)) rows r.0,
  )
  | inr more ↦ (λ t. absurd (apart t more.0), from_found g k rows r.1 more.1)
]

-- ---- the units of all rows
all_append : (P : unit.Unit → Type 0) (xs ys : List unit.Unit) → AllByRecursion P xs → AllByRecursion P ys → AllByRecursion P (xs ++ ys)
all_append P [] ys a b = b
all_append P (x ∷ xs) ys a b = (a.0, all_append P xs ys a.1 b)

among_left : (u : unit.Unit) (xs ys : List unit.Unit) → Among u xs → Among u (xs ++ ys)
among_left u [] ys there = absurd there
among_left u (x ∷ xs) ys (inl e) = inl e
among_left u (x ∷ xs) ys (inr more) = inr (among_left u xs ys more)

among_right : (u : unit.Unit) (xs ys : List unit.Unit) → Among u ys → Among u (xs ++ ys)
among_right u [] ys there = there
among_right u (x ∷ xs) ys there = inr (among_right u xs ys there)

abbrev pub all_units : PageQuery → List Row → List unit.Unit
all_units q rows = flat_map (units_of q) (filter (keeps q) rows)

units_kept : (q : PageQuery) (x : Row) (rows : List Row) → keeps q x ≡ true → all_units q (x ∷ rows) ≡ units_of q x ++ all_units q rows
units_kept q x rows e = ap (λ b. flat_map (units_of q) (if b then x ∷ filter (keeps q) rows else filter (keeps q) rows)) e ∙ flat_map-cons (units_of q) x (filter (keeps q) rows)

units_passed : (q : PageQuery) (x : Row) (rows : List Row) → keeps q x ≡ false → all_units q (x ∷ rows) ≡ all_units q rows
units_passed q x rows e = ap (λ b. flat_map (units_of q) (if b then x ∷ filter (keeps q) rows else filter (keeps q) rows)) e

-- what holds of the units of each kept row holds of all units
pub all_of_rows : (q : PageQuery) (P : unit.Unit → Type 0) (rows : List Row) → AllByRecursion (λ x. keeps q x ≡ true → AllByRecursion P (units_of q x)) rows → AllByRecursion P (all_units q rows)
all_of_rows q P [] all = tt
all_of_rows q P (x ∷ rows) all = by (keeps q x) refl (all_of_rows q P rows all.1)
  where
    by : (b : Bool) → keeps q x ≡ b → AllByRecursion P (all_units q rows) → AllByRecursion P (all_units q (x ∷ rows))
    by true e rest = subst (AllByRecursion P) (sym (units_kept q x rows e)) (all_append P (units_of q x) (all_units q rows) (all.0 e) rest)
    by false e rest = subst (AllByRecursion P) (sym (units_passed q x rows e)) rest

pub among_of_rows : (q : PageQuery) (u : unit.Unit) (r : Row) (f : Row → Bool) (rows : List Row) → find f rows ≡ Some r → keeps q r ≡ true → Among u (units_of q r) → Among u (all_units q rows)
among_of_rows q u r f [] h keep there = absurd (cc)
among_of_rows q u r f (x ∷ rows) h keep there = elim (find_cases f x r rows h) [
  | inl is ↦ subst (Among u) (sym (units_kept q x rows (subst (λ y. keeps q y ≡ true) is.1 keep))) (among_left u (units_of q x) (all_units q rows) (subst (λ y. Among u (units_of q y)) is.1 there))
  | inr more ↦ by (keeps q x) refl (among_of_rows q u r f rows more.1 keep there)
]
  where
    by : (b : Bool) → keeps q x ≡ b → Among u (all_units q rows) → Among u (all_units q (x ∷ rows))
    by true e rest = subst (Among u) (sym (units_kept q x rows e)) (among_right u (units_of q x) (all_units q rows) rest)
    by false e rest = subst (Among u) (sym (units_passed q x rows e)) rest

-- no unit of a row without news is after
pub no_news : (q : PageQuery) (cur : Option unit.Unit) (x : Row) → is_news q cur x ≡ false → keeps q x ≡ true → AllByRecursion (λ v. is_after cur v ≡ false) (units_of q x)
no_news q cur x out keep = none_found (is_after cur) (units_of q x) (by (find (is_after cur) (units_of q x)) refl)
  where
    by : (o : Option unit.Unit) → find (is_after cur) (units_of q x) ≡ o → o ≡ None
    by None e = refl
    by (Some u) e = absurd (apart (and_from (keeps q x) (is_some (find (is_after cur) (units_of q x))) keep (ap is_some e)) out)

least_of_rows : (q : PageQuery) (cur : Option unit.Unit) (r : Row) (u : unit.Unit) (rows : List Row) → RisesBy (item_of q.view) rows → find (is_news q cur) rows ≡ Some r → keeps q r ≡ true → IsNews q cur r u
    → AllByRecursion (λ x. keeps q x ≡ true → AllByRecursion (λ v. is_after cur v ≡ true → comes_before v u ≡ false) (units_of q x)) rows
least_of_rows q cur r u [] rise h keep news = tt
least_of_rows q cur r u (x ∷ rows) rise h keep news = elim (find_cases (is_news q cur) x r rows h) [
  | inl is ↦ (
    λ k. all_map (λ v is_unit. λ after. row_least q cur r x u v keep k (subst (λ y. comes_before (item_of q.view x) (item_of q.view y) ≡ false) (sym is.1) (lt_self unit_total (item_of q.view x))) news is_unit after) (units_of q x) (are_units q x),
    all_map (λ s before. λ k. all_map (λ v is_unit. λ after. row_least q cur r s u v keep k (subst (λ y. comes_before (item_of q.view s) (item_of q.view y) ≡ false) (sym is.1) (lt_not_back unit_total (item_of q.view x) (item_of q.view s) before)) news is_unit after) (units_of q s) (are_units q s)) rows rise.0,
  )
  | inr more ↦ (
    λ k. all_map (λ v out. λ after. absurd (apart after out)) (units_of q x) (no_news q cur x more.0 k),
    least_of_rows q cur r u rows rise.1 more.1 keep news,
  )
]

-- the news of the first row that has any is the next unit
pub next_unit : (q : PageQuery) (cur : Option unit.Unit) (r : Row) (u : unit.Unit) (rows : List Row) → RisesBy (item_of q.view) rows → find (is_news q cur) rows ≡ Some r → find (is_after cur) (units_of q r) ≡ Some u
    → filter (is_after cur) (units q rows) ≡ u ∷ filter (is_after (Some u)) (units q rows)
next_unit q cur r u rows rise h first =
    let news = news_is q cur r u first in
    let passes = found_passes (is_news q cur) (λ _. ⊤) r rows (every rows) h in
    let keep = (and_parts (keeps q r) (is_some (find (is_after cur) (units_of q r))) passes.0).0 in
    step cur u (units q rows) (rising_ordered (all_units q rows))
    (among_ordered u (all_units q rows) (among_of_rows q u r (is_news q cur) rows h keep news.among)) news.after
    (all_ordered (λ v. is_after cur v ≡ true → comes_before v u ≡ false) (all_units q rows) (all_of_rows q (λ v. is_after cur v ≡ true → comes_before v u ≡ false) rows (least_of_rows q cur r u rows rise h keep news)))
  where
    every : (xs : List Row) → AllByRecursion (λ _. ⊤) xs
    every [] = tt
    every (x ∷ xs) = (tt, every xs)

-- with no news nothing is left
pub no_unit : (q : PageQuery) (cur : Option unit.Unit) (rows : List Row) → find (is_news q cur) rows ≡ None → filter (is_after cur) (units q rows) ≡ []
no_unit q cur rows h =
    keeps_none (is_after cur) (units q rows)
    (all_ordered (λ v. is_after cur v ≡ false) (all_units q rows)
    (all_of_rows q (λ v. is_after cur v ≡ false) rows (all_map (λ x out. no_news q cur x out) rows (none_found (is_news q cur) rows h))))
