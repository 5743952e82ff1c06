-- Soft-deleted versions by hard time: what their index says of the rows.
use Rattle.std.proofs.Common.{◌≡◌, ◌≤◌, ◌<◌, ◌+◌, ◌∙◌, sym, ap, ap₂, refl, subst, ℕ, zero, suc, drop, max, Bool, true, false, List, [], ◌∷◌, ◌++◌, Option, Some, None, length, arith}
use Rattle.std.specs.Prelude.{not, ◌||◌, if◌then◌else◌, nat_le, nat_lt, slice_get, IsSomeAnd}
use Rattle.std.specs.List.{AllByRecursion, filter, find, list_any}
use Rattle.std.specs.declared.cmp.Ordering.{Ordering}
use Rattle.std.specs.declared.cmp.Ordering.TheVariants.{Less, Equal, Greater}
use Rattle.std.specs.Ordering.{is_eq, is_gt, nat_cmp, ordering_reverse, ordering_then, MatchOrdering}
use Rattle.std.proofs.lemmas.Bool.Decides.{nat_tests}
use Rattle.std.proofs.lemmas.Cmp.{ranked}
use Rattle.slab.specs.Slab.{Slab, get}
use Rattle.gcs_index.specs.declared.blocks.Entry.{Entry}
use Rattle.gcs_index.specs.Entries.{entry_of, with_entry, Rises}
use Rattle.gcs_meaning.specs.declared.listing.Unit as unit
use Rattle.gcs_meaning.specs.declared.version.Kind.{Kind}
use Rattle.gcs_meaning.specs.declared.version.Kind.TheVariants.{Live, Noncurrent, Soft}
use Rattle.gcs_meaning.specs.declared.version.Row.{Row}
use Rattle.gcs_meaning.specs.Aging.{aged_rows, kind_stays}
use Rattle.gcs_meaning.specs.BucketDeletion.{hard_of, latest_hard}
use Rattle.gcs_meaning.specs.Order.{place_of, unit_cmp}
use Rattle.gcs_meaning.specs.Retiring.{change_first}
use Rattle.gcs_meaning.proofs.Chosen.{all-find}
use Rattle.gcs_meaning.proofs.Listed.{all-weaker}
use Rattle.gcs_versions.specs.declared.keys.DueKey.{DueKey}
use Rattle.gcs_versions.specs.Indexes.{found_before, indexed, key_in, rows_at, with_keyed, IsAt, LeadsToItsOwn}
use Rattle.gcs_versions.specs.Keys.{due_at, due_cmp, due_of, due_total, place_total}
use Rattle.gcs_versions.specs.Rows.{is_version}
use Rattle.gcs_versions.proofs.Entries.{all_with}
use Rattle.gcs_versions.proofs.RowsAt.{at_itself, led, Leads}

-- ---- the version that an entry by hard time leads to
-- it is soft-deleted until that time
pub record IsDueAt (slots : Slab Row) (all : List (Entry unit.Unit ℕ)) (d : Entry DueKey ℕ) : Type 0 where
  pub row : Row
  pub at : IsAt slots all d.value row
  pub key : due_of row ≡ Some d.key

-- a lower place before all others hides no version
behind_one : (slots : Slab Row) (e : Entry unit.Unit ℕ) (es : List (Entry unit.Unit ℕ)) (d : Entry DueKey ℕ) → AllByRecursion (λ x. unit_cmp e.key x.key ≡ Less) es → IsDueAt slots es d → IsDueAt slots (e ∷ es) d
behind_one slots e es d below is =
    let place = place_of is.row in
    let less = all-find (λ (x : Entry unit.Unit ℕ). unit_cmp e.key x.key ≡ Less) (λ (x : Entry unit.Unit ℕ). is_eq (unit_cmp place x.key)) (entry_of place d.value) es is.at.found below in
    let other : is_eq (unit_cmp place e.key) ≡ false = ap is_eq (place_total.antisymm place e.key ∙ ap ordering_reverse less) in
    record {
      row = is.row;
      at = record { found = ap (λ b. if b then Some e else find (λ x. is_eq (unit_cmp place x.key)) es) other ∙ is.at.found; there = is.at.there };
      key = is.key;
    }

-- each entry by hard time leads to its version
due_own : (slots : Slab Row) (all : List (Entry unit.Unit ℕ)) → Rises unit_cmp all → AllByRecursion (LeadsToItsOwn slots) all → AllByRecursion (IsDueAt slots all) (indexed due_cmp due_of slots all)
due_own slots [] rise own = tt
due_own slots (e ∷ es) rise own =
    subst (λ o. AllByRecursion (IsDueAt slots (e ∷ es)) (with_keyed due_cmp (key_in due_of o) e.value (indexed due_cmp due_of slots es))) (sym first.here)
    (by (due_of first.row) refl
    (all-weaker (IsDueAt slots es) (IsDueAt slots (e ∷ es)) (λ d is. behind_one slots e es d rise.0 is) (indexed due_cmp due_of slots es) (due_own slots es rise.1 own.1)))
  where
    first : Leads slots e
    first = led slots e own.0

    entry : find (λ x. is_eq (unit_cmp (place_of first.row) x.key)) (e ∷ es) ≡ Some (entry_of (place_of first.row) e.value)
    entry =
        ap (λ b. if b then Some e else find (λ x. is_eq (unit_cmp (place_of first.row) x.key)) es)
        (ap (λ (u : unit.Unit). is_eq (unit_cmp (place_of first.row) u)) (sym first.place) ∙ at_itself (place_of first.row))
        ∙ ap (λ (u : unit.Unit). Some (entry_of u e.value)) (sym first.place)

    by : (k : Option DueKey) → due_of first.row ≡ k → AllByRecursion (IsDueAt slots (e ∷ es)) (indexed due_cmp due_of slots es)
        → AllByRecursion (IsDueAt slots (e ∷ es)) (with_keyed due_cmp k e.value (indexed due_cmp due_of slots es))
    by None f later = later
    by (Some key) f later =
        all_with due_total (IsDueAt slots (e ∷ es)) (entry_of key e.value) (indexed due_cmp due_of slots es)
        record { row = first.row; at = record { found = entry; there = first.here }; key = f } later

-- the first entry by hard time leads to its version
pub due_leads : (slots : Slab Row) (all : List (Entry unit.Unit ℕ)) (d : Entry DueKey ℕ) (ds : List (Entry DueKey ℕ)) → Rises unit_cmp all → AllByRecursion (LeadsToItsOwn slots) all
    → indexed due_cmp due_of slots all ≡ d ∷ ds → IsDueAt slots all d
due_leads slots all d ds rise own is = (subst (AllByRecursion (IsDueAt slots all)) is (due_own slots all rise own)).0

-- ---- whether a hard time has come
-- the hard time of an entry is at most t
abbrev has_come : ℕ → Entry DueKey ℕ → Bool
has_come t d = nat_le d.key.hard t

-- where an entry stands makes no difference to a test of any
any_with : (test : Entry DueKey ℕ → Bool) (x : Entry DueKey ℕ) (es : List (Entry DueKey ℕ)) → list_any test (with_entry due_cmp x es) ≡ (test x || list_any test es)
any_with test x [] = refl
any_with test x (e ∷ es) = by (is_gt (due_cmp x.key e.key)) (any_with test x es)
  where
    turned : (a b c : Bool) → (a || (b || c)) ≡ (b || (a || c))
    turned true true c = refl
    turned true false c = refl
    turned false b c = refl

    by : (b : Bool) → list_any test (with_entry due_cmp x es) ≡ (test x || list_any test es)
        → list_any test (if b then e ∷ with_entry due_cmp x es else x ∷ (e ∷ es)) ≡ (test x || (test e || list_any test es))
    by true rest = ap (λ b. test e || b) rest ∙ turned (test e) (test x) (list_any test es)
    by false rest = refl

-- one version more
any_kind : (t : ℕ) (kind : Kind) (place : unit.Unit) (slot : ℕ) (ds : List (Entry DueKey ℕ))
    → (not (kind_stays t kind) || list_any (has_come t) ds) ≡ list_any (has_come t) (with_keyed due_cmp (due_at kind place) slot ds)
any_kind t Live place slot ds = refl
any_kind t (Noncurrent at) place slot ds = refl
any_kind t (Soft at hard) place slot ds =
    ap (λ b. b || list_any (has_come t) ds) (not_before t hard) ∙ sym (any_with (has_come t) (entry_of (record { hard = hard; version = place }) slot) ds)
  where
    not_before : (t hard : ℕ) → not (nat_lt t hard) ≡ nat_le hard t
    not_before t hard = grind (arith, nat_tests)

-- a version's hard time has come where that of an entry has
any_due : (slots : Slab Row) (all : List (Entry unit.Unit ℕ)) (t : ℕ) → AllByRecursion (LeadsToItsOwn slots) all
    → list_any (λ row. not (kind_stays t row.kind)) (rows_at slots all) ≡ list_any (has_come t) (indexed due_cmp due_of slots all)
any_due slots [] t own = refl
any_due slots (e ∷ es) t own = by (get slots e.value) own.0 (any_due slots es t own.1)
  where
    by : (o : Option Row) → IsSomeAnd o (λ row. place_of row ≡ e.key) → list_any (λ row. not (kind_stays t row.kind)) (rows_at slots es) ≡ list_any (has_come t) (indexed due_cmp due_of slots es)
        → list_any (λ row. not (kind_stays t row.kind)) (found_before o (rows_at slots es)) ≡ list_any (has_come t) (with_keyed due_cmp (key_in due_of o) e.value (indexed due_cmp due_of slots es))
    by None place rest = absurd place
    by (Some row) place rest =
        ap (λ b. not (kind_stays t row.kind) || b) rest ∙ any_kind t row.kind (place_of row) e.value (indexed due_cmp due_of slots es)

-- no entry by hard time: all versions stay
pub none_due : (slots : Slab Row) (all : List (Entry unit.Unit ℕ)) (t : ℕ) → AllByRecursion (LeadsToItsOwn slots) all → indexed due_cmp due_of slots all ≡ []
    → list_any (λ row. not (kind_stays t row.kind)) (rows_at slots all) ≡ false
none_due slots all t own none = any_due slots all t own ∙ ap (list_any (has_come t)) none

-- keys by hard time that rise have hard times that don't fall
hard_rises : (k l : DueKey) → due_cmp k l ≡ Less → k.hard ≤ l.hard
hard_rises k l less = by (nat_cmp k.hard l.hard) refl (ranked k.hard l.hard (nat_cmp k.hard l.hard) refl)
  where
    by : (o : Ordering) → nat_cmp k.hard l.hard ≡ o → MatchOrdering o (k.hard < l.hard) (k.hard ≡ l.hard) (l.hard < k.hard) → k.hard ≤ l.hard
    by Less f is = omega arith
    by Equal f is = omega arith
    by Greater f is = let wrong : Greater ≡ Less = sym (ap (λ o. ordering_then o (unit_cmp k.version l.version)) f) ∙ less in absurd (cc)

-- what isn't over at t, a greater isn't either
not_over : (t a b : ℕ) → a ≤ b → nat_le a t ≡ false → nat_le b t ≡ false
not_over t a b above before = grind (arith, nat_tests)

-- the first hard time hasn't come: no later one has
none_comes : (t : ℕ) (d : Entry DueKey ℕ) (ds : List (Entry DueKey ℕ)) → has_come t d ≡ false → AllByRecursion (λ x. due_cmp d.key x.key ≡ Less) ds → list_any (has_come t) ds ≡ false
none_comes t d [] before below = refl
none_comes t d (x ∷ xs) before below =
    ap₂ (λ a b. a || b) (not_over t d.key.hard x.key.hard (hard_rises d.key x.key below.0) before) (none_comes t d xs before below.1)

-- a list begins with its first element
pub starts : {X : Type 0} (xs : List X) (x : X) → slice_get xs 0 ≡ Some x → xs ≡ x ∷ drop 1 xs
starts [] x is = absurd (cc)
starts (y ∷ ys) x is = ap (λ z. z ∷ ys) (inside is)
  where
    inside : Some y ≡ Some x → y ≡ x
    inside same = cc

-- a version's hard time has come where the first one has
pub first_due : (slots : Slab Row) (all : List (Entry unit.Unit ℕ)) (t : ℕ) (d : Entry DueKey ℕ) (ds : List (Entry DueKey ℕ)) → AllByRecursion (LeadsToItsOwn slots) all
    → indexed due_cmp due_of slots all ≡ d ∷ ds → Rises due_cmp (d ∷ ds) → list_any (λ row. not (kind_stays t row.kind)) (rows_at slots all) ≡ nat_le d.key.hard t
first_due slots all t d ds own is rise = any_due slots all t own ∙ ap (list_any (has_come t)) is ∙ by (has_come t d) refl
  where
    by : (b : Bool) → has_come t d ≡ b → (b || list_any (has_come t) ds) ≡ b
    by true f = refl
    by false f = none_comes t d ds f rise.0

-- ---- the latest hard time
-- of entries by hard time, and 0 where there are none
abbrev latest : List (Entry DueKey ℕ) → ℕ
latest [] = 0
latest (d ∷ ds) = max d.key.hard (latest ds)

-- where an entry stands makes no difference to it
latest_with : (x : Entry DueKey ℕ) (es : List (Entry DueKey ℕ)) → latest (with_entry due_cmp x es) ≡ max x.key.hard (latest es)
latest_with x [] = refl
latest_with x (e ∷ es) = by (is_gt (due_cmp x.key e.key)) (latest_with x es)
  where
    turned : (a b c : ℕ) → max a (max b c) ≡ max b (max a c)
    turned a b c = omega arith

    by : (b : Bool) → latest (with_entry due_cmp x es) ≡ max x.key.hard (latest es) → latest (if b then e ∷ with_entry due_cmp x es else x ∷ (e ∷ es)) ≡ max x.key.hard (max e.key.hard (latest es))
    by true rest = ap (max e.key.hard) rest ∙ turned e.key.hard x.key.hard (latest es)
    by false rest = refl

-- one version more
latest_kind : (kind : Kind) (place : unit.Unit) (slot : ℕ) (ds : List (Entry DueKey ℕ)) → max (hard_of kind) (latest ds) ≡ latest (with_keyed due_cmp (due_at kind place) slot ds)
latest_kind Live place slot ds = omega arith
latest_kind (Noncurrent at) place slot ds = omega arith
latest_kind (Soft at hard) place slot ds = sym (latest_with (entry_of (record { hard = hard; version = place }) slot) ds)

-- the latest hard time of the rows is that of the entries
latest_is : (slots : Slab Row) (all : List (Entry unit.Unit ℕ)) → AllByRecursion (LeadsToItsOwn slots) all → latest_hard (rows_at slots all) ≡ latest (indexed due_cmp due_of slots all)
latest_is slots [] own = refl
latest_is slots (e ∷ es) own = by (get slots e.value) own.0 (latest_is slots es own.1)
  where
    by : (o : Option Row) → IsSomeAnd o (λ row. place_of row ≡ e.key) → latest_hard (rows_at slots es) ≡ latest (indexed due_cmp due_of slots es)
        → latest_hard (found_before o (rows_at slots es)) ≡ latest (with_keyed due_cmp (key_in due_of o) e.value (indexed due_cmp due_of slots es))
    by None place rest = absurd place
    by (Some row) place rest = ap (max (hard_of row.kind)) rest ∙ latest_kind row.kind (place_of row) e.value (indexed due_cmp due_of slots es)

-- no entry by hard time: no hard time
pub none_latest : (slots : Slab Row) (all : List (Entry unit.Unit ℕ)) → AllByRecursion (LeadsToItsOwn slots) all → indexed due_cmp due_of slots all ≡ [] → latest_hard (rows_at slots all) ≡ 0
none_latest slots all own none = latest_is slots all own ∙ ap latest none

-- what holds of all holds of what stands at a place
at_place : {X : Type 0} (P : X → Type 0) (xs : List X) (n : ℕ) (x : X) → AllByRecursion P xs → slice_get xs n ≡ Some x → P x
at_place P [] n x all is = cc
at_place P (y ∷ ys) zero x all is = subst P (inside is) all.0
  where
    inside : Some y ≡ Some x → y ≡ x
    inside same = cc
at_place P (y ∷ ys) (suc n) x all is = at_place P ys n x all.1 is

-- the last has the latest
last_latest : (ds : List (Entry DueKey ℕ)) (n : ℕ) (d : Entry DueKey ℕ) → Rises due_cmp ds → slice_get ds n ≡ Some d → n + 1 ≡ length ds → latest ds ≡ d.key.hard
last_latest [] n d rise is last = absurd (omega (arith, last))
last_latest (x ∷ []) zero d rise is last = only is
  where
    only : Some x ≡ Some d → max x.key.hard 0 ≡ d.key.hard
    only same = let here : x ≡ d = cc in omega (arith, ap (λ (e : Entry DueKey ℕ). e.key.hard) here)
last_latest (x ∷ (y ∷ ys)) zero d rise is last = absurd (omega (arith, last))
last_latest (x ∷ xs) (suc n) d rise is last =
    let above = hard_rises x.key d.key (at_place (λ (e : Entry DueKey ℕ). due_cmp x.key e.key ≡ Less) xs n d rise.0 is) in
    omega (arith, above, last_latest xs n d rise.1 is (omega (arith, last)))

-- the latest hard time of the rows is that of the last entry
pub latest_due : (slots : Slab Row) (all : List (Entry unit.Unit ℕ)) (ds : List (Entry DueKey ℕ)) (n : ℕ) (d : Entry DueKey ℕ) → AllByRecursion (LeadsToItsOwn slots) all
    → indexed due_cmp due_of slots all ≡ ds → Rises due_cmp ds → slice_get ds n ≡ Some d → n + 1 ≡ length ds → latest_hard (rows_at slots all) ≡ d.key.hard
latest_due slots all ds n d own are rise is last = latest_is slots all own ∙ ap latest are ∙ last_latest ds n d rise is last

-- ---- rows that are aged
-- what a filter doesn't keep may go before it
gone_before : {X : Type 0} (p q : X → Bool) (x : X) (xs : List X) → find p xs ≡ Some x → q x ≡ false → filter q (change_first p (λ y. []) xs) ≡ filter q xs
gone_before p q x [] found gone = refl
gone_before p q x (y ∷ ys) found gone = by (p y) found (λ later. gone_before p q x ys later gone)
  where
    inside : Some y ≡ Some x → y ≡ x
    inside same = cc

    by : (b : Bool) → (if b then Some y else find p ys) ≡ Some x → (find p ys ≡ Some x → filter q (change_first p (λ z. []) ys) ≡ filter q ys)
        → filter q (if b then [] ++ ys else y ∷ change_first p (λ z. []) ys) ≡ filter q (y ∷ ys)
    by true is deeper = sym (ap (λ b. if b then y ∷ filter q ys else filter q ys) (ap q (inside is) ∙ gone))
    by false later deeper = ap (λ rest. if q y then y ∷ rest else rest) (deeper later)

-- a version whose hard time has come may go before all that have
pub aged_drop : (t : ℕ) (row : Row) (rows : List Row) → find (is_version row.name row.generation) rows ≡ Some row → kind_stays t row.kind ≡ false
    → aged_rows t (change_first (is_version row.name row.generation) (λ r. []) rows) ≡ aged_rows t rows
aged_drop t row rows found gone = gone_before (is_version row.name row.generation) (λ r. kind_stays t r.kind) row rows found gone

-- where all versions stay none goes
pub aged_still : (t : ℕ) (rows : List Row) → list_any (λ row. not (kind_stays t row.kind)) rows ≡ false → aged_rows t rows ≡ rows
aged_still t [] still = refl
aged_still t (row ∷ rows) still = by (kind_stays t row.kind) still (aged_still t rows)
  where
    by : (b : Bool) → (not b || list_any (λ r. not (kind_stays t r.kind)) rows) ≡ false → (list_any (λ r. not (kind_stays t r.kind)) rows ≡ false → aged_rows t rows ≡ rows)
        → (if b then row ∷ aged_rows t rows else aged_rows t rows) ≡ row ∷ rows
    by true still rest = ap (λ later. row ∷ later) (rest still)
    by false still rest = cc

-- a version whose hard time has come doesn't stay
pub gone_at : (t : ℕ) (kind : Kind) (place : unit.Unit) (k : DueKey) → due_at kind place ≡ Some k → nat_le k.hard t ≡ true → kind_stays t kind ≡ false
gone_at t Live place k is over = absurd (cc)
gone_at t (Noncurrent at) place k is over = absurd (cc)
gone_at t (Soft at hard) place k is over = later t hard k.hard (ap (λ (d : DueKey). d.hard) (inside is)) over
  where
    inside : Some (record { hard = hard; version = place }) ≡ Some k → (record { hard = hard; version = place }) ≡ k
    inside same = cc

    later : (t a b : ℕ) → a ≡ b → nat_le b t ≡ true → nat_lt t a ≡ false
    later t a b same over = grind (arith, nat_tests)
