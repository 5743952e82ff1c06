-- The version that a request names is the one of its name and generation, or the live one of the name.
use Rattle.std.proofs.Common.{◌≡◌, ◌<◌, ◌∙◌, sym, ap, ap₂, refl, subst, ℕ, Bool, true, false, List, [], ◌∷◌, ◌++◌, Option, Some, None, arith}
use Rattle.std.specs.Prelude.{not, ◌&&◌, ◌==◌, if◌then◌else◌}
use Rattle.std.specs.Str.{bytes_eq}
use Rattle.std.specs.List.{AllByRecursion, find}
use Rattle.std.proofs.lemmas.Bool.{and_from, and_parts, eqb-true}
use Rattle.std.proofs.lemmas.Bool.Decides.{nat_tests}
use Rattle.gcs_meaning.specs.declared.version.Kind.{Kind}
use Rattle.gcs_meaning.specs.declared.version.Kind.TheVariants.{Live, Noncurrent, Soft}
use Rattle.gcs_meaning.specs.declared.version.Row.{Row}
use Rattle.gcs_meaning.specs.Aging.{aged_rows, kind_stays}
use Rattle.gcs_meaning.specs.Choosing.{chosen_row, is_chosen, is_live, is_readable, is_soft_chosen}
use Rattle.gcs_meaning.specs.Order.{comes_before, place_of, Rise}
use Rattle.gcs_meaning.specs.Retiring.{change_first}
use Rattle.gcs_meaning.proofs.Chosen.{all-find, asked_row-aged, finds_none, none_found}
use Rattle.gcs_meaning.proofs.Listed.{all-weaker}
use Rattle.gcs_versions.specs.Rows.{is_version}
use Rattle.gcs_meaning.proofs.Orders.{apart}
use Rattle.gcs_versions.proofs.Orders.{behind_other, before_other, version_place}
use Rattle.gcs_versions.proofs.Finding.{first_if}

-- what is found passes
found_here : {X : Type 0} (p : X → Bool) (x y : X) (found : Option X) (b : Bool) → p y ≡ b → (if b then Some y else found) ≡ Some x → (found ≡ Some x → p x ≡ true) → p x ≡ true
found_here p x y found true e is later = subst (λ z. p z ≡ true) (inside is) e
  where
    inside : Some y ≡ Some x → y ≡ x
    inside s = cc
found_here p x y found false e is later = later is

pub found_passes : {X : Type 0} (p : X → Bool) (x : X) (xs : List X) → find p xs ≡ Some x → p x ≡ true
found_passes p x [] is = absurd (cc)
found_passes p x (y ∷ ys) is = found_here p x y (find p ys) (p y) refl is (λ later. found_passes p x ys later)

-- ---- tests that name the same version
-- behind the version no other row is it
alone : (name : List ℕ) (generation : ℕ) (row : Row) (rows : List Row) → is_version name generation row ≡ true
    → AllByRecursion (λ later. comes_before (place_of row) (place_of later) ≡ true) rows → AllByRecursion (λ later. is_version name generation later ≡ false) rows
alone name generation row rows is behind =
    all-weaker (λ later. comes_before (place_of row) (place_of later) ≡ true) (λ later. is_version name generation later ≡ false)
    (λ later after. behind_other name generation later (ap (λ u. comes_before u (place_of later)) (sym (version_place name generation row is)) ∙ after)) rows behind

-- a version that passes one more test is the version, if that passes
pub tested_version : (q : Row → Bool) (name : List ℕ) (generation : ℕ) (rows : List Row) → Rise rows
    → find (λ row. q row && is_version name generation row) rows ≡ first_if q (find (is_version name generation) rows)
tested_version q name generation [] rise = refl
tested_version q name generation (x ∷ xs) rise = by (is_version name generation x) (q x) refl refl (tested_version q name generation xs rise.1)
  where
    no_more : (y : Row) → is_version name generation y ≡ false → q y && is_version name generation y ≡ false
    no_more y e = and_no (q y) e
      where
        and_no : (b : Bool) → is_version name generation y ≡ false → b && is_version name generation y ≡ false
        and_no true e = e
        and_no false e = refl

    none_left : is_version name generation x ≡ true → find (λ row. q row && is_version name generation row) xs ≡ None
    none_left is = finds_none (λ row. q row && is_version name generation row) xs
        (all-weaker (λ y. is_version name generation y ≡ false) (λ y. q y && is_version name generation y ≡ false) no_more xs (alone name generation x xs is rise.0))

    by : (v b : Bool) → is_version name generation x ≡ v → q x ≡ b → find (λ row. q row && is_version name generation row) xs ≡ first_if q (find (is_version name generation) xs)
        → find (λ row. q row && is_version name generation row) (x ∷ xs) ≡ first_if q (find (is_version name generation) (x ∷ xs))
    by v b e f rest = cases v b (ap₂ (λ s t. if s && t then Some x else find (λ row. q row && is_version name generation row) xs) f e)
        (ap (λ t. first_if q (if t then Some x else find (is_version name generation) xs)) e) (ap (λ t. if t then Some x else None) f) (λ is. none_left (e ∙ is))
      where
        tested : Option Row
        tested = find (λ row. q row && is_version name generation row) (x ∷ xs)

        cases : (v b : Bool) → tested ≡ (if b && v then Some x else find (λ row. q row && is_version name generation row) xs)
            → first_if q (find (is_version name generation) (x ∷ xs)) ≡ first_if q (if v then Some x else find (is_version name generation) xs)
            → first_if q (Some x) ≡ (if b then Some x else None) → (v ≡ true → find (λ row. q row && is_version name generation row) xs ≡ None)
            → tested ≡ first_if q (find (is_version name generation) (x ∷ xs))
        cases true true t u w ended = t ∙ sym (u ∙ w)
        cases true false t u w ended = t ∙ ended refl ∙ sym (u ∙ w)
        cases false true t u w ended = t ∙ rest ∙ sym u
        cases false false t u w ended = t ∙ rest ∙ sym u

-- tests that are equal on each find the same
pub find_same : {X : Type 0} (p q : X → Bool) → ((x : X) → p x ≡ q x) → (xs : List X) → find p xs ≡ find q xs
find_same p q same [] = refl
find_same p q same (x ∷ xs) = ap₂ (λ t found. if t then Some x else found) (same x) (find_same p q same xs)

bracketed : (a b c : Bool) → (a && b && c) ≡ (a && (b && c))
bracketed true b c = refl
bracketed false b c = refl

-- the live or noncurrent version of a generation
pub chosen_version : (name : List ℕ) (generation : ℕ) (rows : List Row) → Rise rows
    → chosen_row name (Some generation) rows ≡ first_if (λ row. is_readable row.kind) (find (is_version name generation) rows)
chosen_version name generation rows rise =
    find_same (is_chosen name (Some generation)) (λ row. is_readable row.kind && is_version name generation row)
    (λ row. bracketed (is_readable row.kind) (row.generation == generation) (bytes_eq name row.name)) rows
    ∙ tested_version (λ row. is_readable row.kind) name generation rows rise

-- a row that is found is the version of its name and generation
pub found_version : (p : Row → Bool) (name : List ℕ) (generation : ℕ) (row : Row) (rows : List Row) → Rise rows → find p rows ≡ Some row → is_version name generation row ≡ true
    → find (is_version name generation) rows ≡ Some row
found_version p name generation row [] rise is version = absurd (cc)
found_version p name generation row (x ∷ xs) rise is version = by (p x) refl is (λ later. found_version p name generation row xs rise.1 later version)
  where
    by : (b : Bool) → p x ≡ b → (if b then Some x else find p xs) ≡ Some row → (find p xs ≡ Some row → find (is_version name generation) xs ≡ Some row) → find (is_version name generation) (x ∷ xs) ≡ Some row
    by true e same deeper =
        ap (λ t. if t then Some x else find (is_version name generation) xs) (subst (λ y. is_version name generation y ≡ true) (sym (inside same)) version) ∙ same
      where
        inside : Some x ≡ Some row → x ≡ row
        inside s = cc
    by false e later deeper =
        let after = all-find (λ y. comes_before (place_of x) (place_of y) ≡ true) p row xs later rise.0 in
        ap (λ t. if t then Some x else find (is_version name generation) xs) (before_other name generation x (ap (comes_before (place_of x)) (sym (version_place name generation row version)) ∙ after))
        ∙ deeper later

-- ---- a change of what two tests find first is one change
pub same_change : {X : Type 0} (p q : X → Bool) (becomes : X → List X) (x : X) (xs : List X) → find p xs ≡ Some x → find q xs ≡ Some x → change_first p becomes xs ≡ change_first q becomes xs
same_change p q becomes x [] first second = refl
same_change p q becomes x (y ∷ ys) first second = by (p y) (q y) refl refl first second (same_change p q becomes x ys)
  where
    inside : Some y ≡ Some x → y ≡ x
    inside s = cc

    by : (b c : Bool) → p y ≡ b → q y ≡ c → (if b then Some y else find p ys) ≡ Some x → (if c then Some y else find q ys) ≡ Some x
        → (find p ys ≡ Some x → find q ys ≡ Some x → change_first p becomes ys ≡ change_first q becomes ys)
        → (if b then becomes y ++ ys else y ∷ change_first p becomes ys) ≡ (if c then becomes y ++ ys else y ∷ change_first q becomes ys)
    by true true e f h k rest = refl
    by true false e f h k rest = absurd (apart (subst (λ z. q z ≡ true) (sym (inside h)) (found_passes q x ys k)) f)
    by false true e f h k rest = absurd (apart (subst (λ z. p z ≡ true) (sym (inside k)) (found_passes p x ys h)) e)
    by false false e f h k rest = ap (λ r. y ∷ r) (rest h k)

-- where none passes the list stays
all_stay : {X : Type 0} (p : X → Bool) (becomes : X → List X) (xs : List X) → AllByRecursion (λ x. p x ≡ false) xs → change_first p becomes xs ≡ xs
all_stay p becomes [] all = refl
all_stay p becomes (x ∷ xs) all = ap (λ t. if t then becomes x ++ xs else x ∷ change_first p becomes xs) all.0 ∙ ap (λ r. x ∷ r) (all_stay p becomes xs all.1)

pub unchanged : {X : Type 0} (p : X → Bool) (becomes : X → List X) (xs : List X) → find p xs ≡ None → change_first p becomes xs ≡ xs
unchanged p becomes xs none = all_stay p becomes xs (none_found p xs none)

-- ---- the version that a request names
chosen_parts : (name : List ℕ) (asked : Option ℕ) (row : Row) → is_chosen name asked row ≡ true → (is_readable row.kind ≡ true) × (bytes_eq name row.name ≡ true)
chosen_parts name None row is =
    let parts = and_parts (is_live row.kind) (bytes_eq name row.name) is in
    (live_readable row.kind parts.0, parts.1)
  where
    live_readable : (kind : Kind) → is_live kind ≡ true → is_readable kind ≡ true
    live_readable Live live = refl
    live_readable (Noncurrent at) live = refl
    live_readable (Soft at hard) live = live
chosen_parts name (Some generation) row is =
    let parts = and_parts (is_readable row.kind && (row.generation == generation)) (bytes_eq name row.name) is in
    let front = and_parts (is_readable row.kind) (row.generation == generation) parts.0 in
    (front.0, parts.1)

-- it is the version of its generation, live or noncurrent
pub chosen_found : (name : List ℕ) (asked : Option ℕ) (row : Row) (rows : List Row) → Rise rows → chosen_row name asked rows ≡ Some row
    → find (is_version name row.generation) rows ≡ Some row
chosen_found name asked row rows rise is =
    let parts = chosen_parts name asked row (found_passes (is_chosen name asked) row rows is) in
    found_version (is_chosen name asked) name row.generation row rows rise is
    (and_from (row.generation == row.generation) (bytes_eq name row.name) (grind (arith, nat_tests)) parts.1)

pub chosen_again : (name : List ℕ) (asked : Option ℕ) (row : Row) (rows : List Row) → Rise rows → chosen_row name asked rows ≡ Some row
    → chosen_row name (Some row.generation) rows ≡ Some row
chosen_again name asked row rows rise is =
    let parts = chosen_parts name asked row (found_passes (is_chosen name asked) row rows is) in
    chosen_version name row.generation rows rise
    ∙ ap (first_if (λ (r : Row). is_readable r.kind)) (chosen_found name asked row rows rise is)
    ∙ ap (λ t. if t then Some row else None) parts.0

-- a change of the version of its generation is a change of it
pub chosen_change : (becomes : Row → List Row) (name : List ℕ) (asked : Option ℕ) (row : Row) (rows : List Row) → Rise rows → chosen_row name asked rows ≡ Some row
    → change_first (is_version name row.generation) becomes rows ≡ change_first (is_chosen name asked) becomes rows
chosen_change becomes name asked row rows rise is =
    same_change (is_version name row.generation) (is_chosen name asked) becomes row rows (chosen_found name asked row rows rise is) is

-- the soft-deleted version of a generation that isn't gone yet
pub soft_aged : (t : ℕ) (name : List ℕ) (generation : ℕ) (rows : List Row) → Rise rows
    → find (is_soft_chosen name (Some generation)) (aged_rows t rows) ≡ first_if (λ row. kind_stays t row.kind && not (is_readable row.kind)) (find (is_version name generation) rows)
soft_aged t name generation rows rise =
    asked_row-aged t true name (Some generation) rows
    ∙ find_same (λ row. kind_stays t row.kind && is_soft_chosen name (Some generation) row) (λ row. (kind_stays t row.kind && not (is_readable row.kind)) && is_version name generation row)
    (λ row. rebracketed (kind_stays t row.kind) (not (is_readable row.kind)) (row.generation == generation) (bytes_eq name row.name)) rows
    ∙ tested_version (λ row. kind_stays t row.kind && not (is_readable row.kind)) name generation rows rise
  where
    rebracketed : (s a b c : Bool) → (s && (a && b && c)) ≡ ((s && a) && (b && c))
    rebracketed true a b c = bracketed a b c
    rebracketed false a b c = refl

-- ---- what a put finds
-- a generation above all that were given isn't there
pub fresh_absent : (name : List ℕ) (generation : ℕ) (rows : List Row) → AllByRecursion (λ row. row.generation < generation) rows → find (is_version name generation) rows ≡ None
fresh_absent name generation rows above =
    finds_none (is_version name generation) rows
    (all-weaker (λ row. row.generation < generation) (λ row. is_version name generation row ≡ false) (λ row below. by row (is_version name generation row) refl below) rows above)
  where
    by : (row : Row) (b : Bool) → is_version name generation row ≡ b → row.generation < generation → b ≡ false
    by row false e below = refl
    by row true e below =
        let parts = and_parts (row.generation == generation) (bytes_eq name row.name) e in
        absurd (omega (arith, eqb-true row.generation generation parts.0, below))
