-- Rows still rise, with at most one live of a name, where one is added, changed or retired, and where some are aged away.
use Rattle.std.proofs.Common.{◌≡◌, ◌≢◌, ◌<◌, ◌∙◌, sym, ap, refl, subst, ℕ, Bool, true, false, List, [], ◌∷◌, ◌++◌, Option, Some, None, arith}
use Rattle.std.specs.Prelude.{if◌then◌else◌, ◌&&◌}
use Rattle.std.specs.Str.{bytes_eq}
use Rattle.std.specs.List.{AllByRecursion, filter, find}
use Rattle.std.proofs.lemmas.Bool.{and_parts}
use Rattle.gcs_meaning.specs.declared.listing.Unit as unit
use Rattle.gcs_meaning.specs.declared.settings.Meta.{Meta}
use Rattle.gcs_meaning.specs.declared.version.Row.{Row}
use Rattle.gcs_meaning.specs.declared.policy.Retired.{Retired}
use Rattle.gcs_meaning.specs.declared.policy.Retired.TheVariants.{Noncurrent as ToNoncurrent, Soft as ToSoft, Out}
use Rattle.gcs_meaning.specs.Choosing.{is_chosen, is_live, is_live_of, live_row}
use Rattle.gcs_meaning.specs.ObjectChange.{changed_row}
use Rattle.gcs_meaning.specs.Order.{comes_before, place_of, AreSingle, Rise}
use Rattle.gcs_meaning.specs.Put.{with_row}
use Rattle.gcs_meaning.specs.Retiring.{change_first, retired_row}
use Rattle.gcs_meaning.proofs.Chosen.{finds_none, none_found}
use Rattle.gcs_meaning.proofs.Listed.{all-change_first, all-filter, all-weaker, all-with_row}
use Rattle.gcs_meaning.proofs.Orders.{apart, before_before, same_text, bytes_eq_from, tied}

-- ---- filtered rows
pub filtered_rise : (q : Row → Bool) (rows : List Row) → Rise rows → Rise (filter q rows)
filtered_rise q [] rise = tt
filtered_rise q (x ∷ xs) rise = by (q x) (filtered_rise q xs rise.1)
  where
    by : (b : Bool) → Rise (filter q xs) → Rise (if b then x ∷ filter q xs else filter q xs)
    by true rest = (all-filter (λ later. comes_before (place_of x) (place_of later) ≡ true) q xs rise.0, rest)
    by false rest = rest

none_filtered : (name : List ℕ) (q : Row → Bool) (rows : List Row) → live_row name rows ≡ None → live_row name (filter q rows) ≡ None
none_filtered name q rows none = finds_none (is_live_of name) (filter q rows) (all-filter (λ row. is_live_of name row ≡ false) q rows (none_found (is_live_of name) rows none))

pub filtered_single : (q : Row → Bool) (rows : List Row) → AreSingle rows → AreSingle (filter q rows)
filtered_single q [] single = tt
filtered_single q (x ∷ xs) single = by (q x) (filtered_single q xs single.1)
  where
    by : (b : Bool) → AreSingle (filter q xs) → AreSingle (if b then x ∷ filter q xs else filter q xs)
    by true rest = (λ live. none_filtered x.name q xs (single.0 live), rest)
    by false rest = rest

-- ---- a row that is changed in its place, or goes, and isn't live unless it was
abbrev pub IsLess : Row → List Row → Type 0
IsLess x [] = Unit {0}
IsLess x (y ∷ []) = (place_of y ≡ place_of x) × (is_live y.kind ≡ true → is_live x.kind ≡ true)
IsLess x (y ∷ z ∷ more) = ⊥

-- what holds of a place holds of what stands there then
all_less : (P : unit.Unit → Type 0) (x : Row) (ys : List Row) → IsLess x ys → P (place_of x) → AllByRecursion (λ y. P (place_of y)) ys
all_less P x [] less h = tt
all_less P x (y ∷ []) less h = (subst P (sym less.0) h, tt)
all_less P x (y ∷ z ∷ more) less h = absurd less

changed_all : (p : Row → Bool) (becomes : Row → List Row) → ((x : Row) → IsLess x (becomes x)) → (P : unit.Unit → Type 0) (rows : List Row)
    → AllByRecursion (λ row. P (place_of row)) rows → AllByRecursion (λ row. P (place_of row)) (change_first p becomes rows)
changed_all p becomes less P rows h = all-change_first (λ row. P (place_of row)) p becomes (λ x here. all_less P x (becomes x) (less x) here) rows h

less_rise : (x : Row) (ys rows : List Row) → IsLess x ys → AllByRecursion (λ later. comes_before (place_of x) (place_of later) ≡ true) rows → Rise rows → Rise (ys ++ rows)
less_rise x [] rows less first rise = rise
less_rise x (y ∷ []) rows less first rise = (subst (λ u. AllByRecursion (λ later. comes_before u (place_of later) ≡ true) rows) (sym less.0) first, rise)
less_rise x (y ∷ z ∷ more) rows less first rise = absurd less

pub changed_rise : (p : Row → Bool) (becomes : Row → List Row) → ((x : Row) → IsLess x (becomes x)) → (rows : List Row) → Rise rows → Rise (change_first p becomes rows)
changed_rise p becomes less [] rise = tt
changed_rise p becomes less (x ∷ xs) rise = by (p x) (changed_rise p becomes less xs rise.1)
  where
    by : (b : Bool) → Rise (change_first p becomes xs) → Rise (if b then becomes x ++ xs else x ∷ change_first p becomes xs)
    by true rest = less_rise x (becomes x) xs (less x) rise.0 rise.1
    by false rest = (changed_all p becomes less (λ u. comes_before (place_of x) u ≡ true) xs rise.0, rest)

-- what wasn't a name's live version doesn't become one
not_live : (name : List ℕ) (x : Row) (ys : List Row) → IsLess x ys → is_live_of name x ≡ false → AllByRecursion (λ y. is_live_of name y ≡ false) ys
not_live name x [] less none = tt
not_live name x (y ∷ []) less none = (by (is_live_of name y) refl, tt)
  where
    by : (b : Bool) → is_live_of name y ≡ b → b ≡ false
    by false e = refl
    by true e =
        let parts = and_parts (is_live y.kind) (bytes_eq name y.name) e in
        let same : y.name ≡ x.name = ap (λ (u : unit.Unit). u.text) less.0 in
        absurd (apart (ap (λ t. t && bytes_eq name x.name) (less.1 parts.0) ∙ ap (bytes_eq name) (sym same) ∙ parts.1) none)
not_live name x (y ∷ z ∷ more) less none = absurd less

none_changed : (p : Row → Bool) (becomes : Row → List Row) → ((x : Row) → IsLess x (becomes x)) → (name : List ℕ) (rows : List Row) → live_row name rows ≡ None → live_row name (change_first p becomes rows) ≡ None
none_changed p becomes less name rows none =
    finds_none (is_live_of name) (change_first p becomes rows)
    (all-change_first (λ row. is_live_of name row ≡ false) p becomes (λ x here. not_live name x (becomes x) (less x) here) rows (none_found (is_live_of name) rows none))

less_single : (x : Row) (ys rows : List Row) → IsLess x ys → (is_live x.kind ≡ true → live_row x.name rows ≡ None) → AreSingle rows → AreSingle (ys ++ rows)
less_single x [] rows less first single = single
less_single x (y ∷ []) rows less first single =
    (λ live. subst (λ name. live_row name rows ≡ None) (sym (ap (λ (u : unit.Unit). u.text) less.0)) (first (less.1 live)), single)
less_single x (y ∷ z ∷ more) rows less first single = absurd less

pub changed_single : (p : Row → Bool) (becomes : Row → List Row) → ((x : Row) → IsLess x (becomes x)) → (rows : List Row) → AreSingle rows → AreSingle (change_first p becomes rows)
changed_single p becomes less [] single = tt
changed_single p becomes less (x ∷ xs) single = by (p x) (changed_single p becomes less xs single.1)
  where
    by : (b : Bool) → AreSingle (change_first p becomes xs) → AreSingle (if b then becomes x ++ xs else x ∷ change_first p becomes xs)
    by true rest = less_single x (becomes x) xs (less x) single.0 single.1
    by false rest = (λ live. none_changed p becomes less x.name xs (single.0 live), rest)

pub retired_less : (to : Retired) (t : ℕ) (row : Row) → IsLess row (retired_row to t row)
retired_less ToNoncurrent t row = (refl, λ live. cc)
retired_less (ToSoft hard) t row = (refl, λ live. cc)
retired_less Out t row = tt

-- two changes that make the same of the first that passes
pub same_becomes : {X : Type 0} (p : X → Bool) (f g : X → List X) (x : X) (xs : List X) → find p xs ≡ Some x → f x ≡ g x → change_first p f xs ≡ change_first p g xs
same_becomes p f g x [] found same = refl
same_becomes p f g x (y ∷ ys) found same = by (p y) found (λ later. same_becomes p f g x ys later same)
  where
    by : (b : Bool) → (if b then Some y else find p ys) ≡ Some x → (find p ys ≡ Some x → change_first p f ys ≡ change_first p g ys)
        → (if b then f y ++ ys else y ∷ change_first p f ys) ≡ (if b then g y ++ ys else y ∷ change_first p g ys)
    by true found deeper = ap (λ front. front ++ ys) (subst (λ z. f z ≡ g z) (sym (inside found)) same)
      where
        inside : Some y ≡ Some x → y ≡ x
        inside s = cc
    by false found deeper = ap (λ rest. y ∷ rest) (deeper found)

-- a version whose metadata are changed stands where it stood
pub meta_rise : (t : ℕ) (meta : Meta) (p : Row → Bool) (had : Row) (rows : List Row) → find p rows ≡ Some had → Rise rows → Rise (change_first p (λ row. changed_row t meta had ∷ []) rows)
meta_rise t meta p had rows found rise =
    subst Rise (same_becomes p (λ row. changed_row t meta row ∷ []) (λ row. changed_row t meta had ∷ []) had rows found refl)
    (changed_rise p (λ row. changed_row t meta row ∷ []) (λ row. (refl, λ live. live)) rows rise)

pub meta_single : (t : ℕ) (meta : Meta) (p : Row → Bool) (had : Row) (rows : List Row) → find p rows ≡ Some had → AreSingle rows → AreSingle (change_first p (λ row. changed_row t meta had ∷ []) rows)
meta_single t meta p had rows found single =
    subst AreSingle (same_becomes p (λ row. changed_row t meta row ∷ []) (λ row. changed_row t meta had ∷ []) had rows found refl)
    (changed_single p (λ row. changed_row t meta row ∷ []) (λ row. (refl, λ live. live)) rows single)

-- ---- one row more
-- a greater generation is another place
pub above_other : (row : Row) (rows : List Row) → AllByRecursion (λ other. other.generation < row.generation) rows → AllByRecursion (λ other. place_of other ≢ place_of row) rows
above_other row rows above =
    all-weaker (λ other. other.generation < row.generation) (λ other. place_of other ≢ place_of row)
    (λ other below same. let number : other.generation ≡ row.generation = ap (λ (u : unit.Unit). u.number) same in omega (arith, below, number)) rows above

pub placed_rise : (row : Row) (rows : List Row) → AllByRecursion (λ other. place_of other ≢ place_of row) rows → Rise rows → Rise (with_row row rows)
placed_rise row [] absent rise = (tt, tt)
placed_rise row (x ∷ xs) absent rise = by (comes_before (place_of row) (place_of x)) refl (placed_rise row xs absent.1 rise.1)
  where
    behind : (b : Bool) → comes_before (place_of x) (place_of row) ≡ b → comes_before (place_of row) (place_of x) ≡ false → b ≡ true
    behind true e f = refl
    behind false e f = absurd (absent.0 (tied (place_of x) (place_of row) e f))

    by : (b : Bool) → comes_before (place_of row) (place_of x) ≡ b → Rise (with_row row xs) → Rise (if b then row ∷ x ∷ xs else x ∷ with_row row xs)
    by true e rest =
        let behind_it = all-weaker (λ later. comes_before (place_of x) (place_of later) ≡ true) (λ later. comes_before (place_of row) (place_of later) ≡ true)
        (λ later after. before_before (place_of row) (place_of x) (place_of later) e after) xs rise.0 in
        ((e, behind_it), rise)
    by false e rest =
        let first = behind (comes_before (place_of x) (place_of row)) refl e in
        (all-with_row (λ later. comes_before (place_of x) (place_of later) ≡ true) row xs first rise.0, rest)

-- a row of another name hides no live version
none_placed : (name : List ℕ) (row : Row) (rows : List Row) → is_live_of name row ≡ false → live_row name rows ≡ None → live_row name (with_row row rows) ≡ None
none_placed name row rows other none =
    finds_none (is_live_of name) (with_row row rows) (all-with_row (λ later. is_live_of name later ≡ false) row rows other (none_found (is_live_of name) rows none))

pub placed_single : (row : Row) (rows : List Row) → live_row row.name rows ≡ None → AreSingle rows → AreSingle (with_row row rows)
placed_single row [] none single = (λ live. refl, tt)
placed_single row (x ∷ xs) none single = by (comes_before (place_of row) (place_of x)) (placed_single row xs (none_later (is_live_of row.name x) refl none) single.1)
  where
    none_later : (b : Bool) → is_live_of row.name x ≡ b → (if b then Some x else live_row row.name xs) ≡ None → live_row row.name xs ≡ None
    none_later true e h = absurd (cc)
    none_later false e h = h

    not_first : (b : Bool) → is_live_of row.name x ≡ b → (if b then Some x else live_row row.name xs) ≡ None → is_live_of row.name x ≡ false
    not_first true e h = absurd (cc)
    not_first false e h = e

    other : is_live x.kind ≡ true → is_live_of x.name row ≡ false
    other live = cases (is_live_of x.name row) refl
      where
        cases : (b : Bool) → is_live_of x.name row ≡ b → b ≡ false
        cases false e = refl
        cases true e =
            let parts = and_parts (is_live row.kind) (bytes_eq x.name row.name) e in
            let same = bytes_eq_from row.name x.name (sym (same_text x.name row.name parts.1)) in
            absurd (apart (ap (λ t. t && bytes_eq row.name x.name) live ∙ same) (not_first (is_live_of row.name x) refl none))

    by : (b : Bool) → AreSingle (with_row row xs) → AreSingle (if b then row ∷ x ∷ xs else x ∷ with_row row xs)
    by true rest = (λ live. none, single)
    by false rest = (λ live. none_placed x.name row xs (other live) (single.0 live), rest)

-- once the live version is retired none is live
pub live_retired : (to : Retired) (t : ℕ) (name : List ℕ) (rows : List Row) → AreSingle rows → live_row name (change_first (is_chosen name None) (retired_row to t) rows) ≡ None
live_retired to t name [] single = refl
live_retired to t name (x ∷ xs) single = by (is_live_of name x) refl (live_retired to t name xs single.1)
  where
    gone : (rest : Option Row) → (to : Retired) → rest ≡ None → live_row name xs ≡ rest → live_row name (retired_row to t x ++ xs) ≡ None
    gone rest ToNoncurrent none is = is ∙ none
    gone rest (ToSoft hard) none is = is ∙ none
    gone rest Out none is = is ∙ none

    by : (b : Bool) → is_live_of name x ≡ b → live_row name (change_first (is_chosen name None) (retired_row to t) xs) ≡ None
        → live_row name (if b then retired_row to t x ++ xs else x ∷ change_first (is_chosen name None) (retired_row to t) xs) ≡ None
    by true e rest =
        let parts = and_parts (is_live x.kind) (bytes_eq name x.name) e in
        gone (live_row name xs) to (subst (λ n. live_row n xs ≡ None) (sym (same_text name x.name parts.1)) (single.0 parts.0)) refl
    by false e rest = ap (λ b. if b then Some x else live_row name (change_first (is_chosen name None) (retired_row to t) xs)) e ∙ rest
