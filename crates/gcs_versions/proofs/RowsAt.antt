-- The rows that the entries of all versions lead to: under one change of a slot, and in searches.
use Rattle.std.proofs.Common.{◌≡◌, ◌≤◌, ◌∙◌, sym, ap, ap₂, refl, subst, ℕ, suc, Bool, true, false, List, [], ◌∷◌, ◌++◌, Option, Some, None, length, arith}
use Rattle.std.specs.Prelude.{not, ◌&&◌, ◌||◌, ◌==◌, if◌then◌else◌, IsSomeAnd}
use Rattle.std.specs.Cmp.{both_ways, Equal-is}
use Rattle.std.specs.Cmp.Lexicographic.{slice_cmp}
use Rattle.std.specs.List.{AllByRecursion, filter, find, list_any}
use Rattle.std.specs.declared.cmp.Ordering.{Ordering}
use Rattle.std.specs.declared.cmp.Ordering.TheVariants.{Less, Equal, Greater}
use Rattle.std.specs.Ordering.{is_eq, is_gt, is_lt, nat_cmp, ordering_reverse}
use Rattle.std.proofs.lemmas.Bool.Decides.{nat_tests}
use Rattle.std.proofs.lemmas.Cmp.{tied_back, tied_itself}
use Rattle.std.proofs.lemmas.List.Sums.{count_by-le-length, length-filter}
use Rattle.std.proofs.lemmas.Map.Text.{is_eq-slice_cmp}
use Rattle.slab.specs.Slab.{Slab, get, Updates}
use Rattle.gcs_index.specs.declared.blocks.Entry.{Entry}
use Rattle.gcs_index.specs.Entries.{entry_of, value_in, with_entry, without_key, Rises}
use Rattle.gcs_meaning.specs.declared.listing.Unit as unit
use Rattle.gcs_meaning.specs.declared.listing.View.{View}
use Rattle.gcs_meaning.specs.declared.version.Kind.{Kind}
use Rattle.gcs_meaning.specs.declared.version.Row.{Row}
use Rattle.gcs_meaning.specs.Choosing.{is_live, is_live_of, is_readable, live_row}
use Rattle.gcs_meaning.specs.Order.{comes_before, is_at_least, is_shown, place_of, shown_rows, unit_at, unit_cmp}
use Rattle.gcs_meaning.specs.Put.{with_row}
use Rattle.gcs_meaning.specs.Retiring.{change_first}
use Rattle.gcs_meaning.proofs.Chosen.{all-find, found_passes, none_found}
use Rattle.gcs_meaning.proofs.Listed.{all-filter, all-weaker}
use Rattle.gcs_meaning.proofs.Orders.{apart, tied}
use Rattle.gcs_versions.specs.Indexes.{found_before, passes, placed, rows_at, slot_row, with_keyed, key_in, IsAt, LeadsToItsOwn}
use Rattle.gcs_versions.specs.Keys.{place_if, place_total}
use Rattle.gcs_versions.specs.Rows.{is_version}
use Rattle.gcs_versions.proofs.Entries.{with_first}
use Rattle.gcs_versions.proofs.Indexing.{all_still, still_beside, IsStill}
use Rattle.gcs_versions.proofs.Orders.{place_version, version_place}

-- options that are equal have equal values
some_is : {X : Type 0} (x y : X) → Some x ≡ Some y → x ≡ y
some_is x y same = cc

-- a value is not no value
some_not_none : {X : Type 0} (x : X) → Some x ≡ None → ⊥
some_not_none x same = cc

-- ---- places
-- places that are equal by order are the same
same_place : (x y : unit.Unit) → is_eq (unit_cmp x y) ≡ true → x ≡ y
same_place x y same =
    let level : unit_cmp x y ≡ Equal = (Equal-is (unit_cmp x y)).0 same in
    tied x y (ap is_lt level) (ap is_lt (tied_back place_total x y level))

-- a place is itself
pub at_itself : (x : unit.Unit) → is_eq (unit_cmp x x) ≡ true
at_itself x = ap is_eq (tied_itself place_total x)

-- behind a place that is this one all are others
others_behind : (x y : unit.Unit) (es : List (Entry unit.Unit ℕ)) → is_eq (unit_cmp x y) ≡ true → AllByRecursion (λ e. unit_cmp y e.key ≡ Less) es
    → AllByRecursion (λ e. is_eq (unit_cmp x e.key) ≡ false) es
others_behind x y es same behind =
    all-weaker (λ (e : Entry unit.Unit ℕ). unit_cmp y e.key ≡ Less) (λ (e : Entry unit.Unit ℕ). is_eq (unit_cmp x e.key) ≡ false)
    (λ e less. ap is_eq (place_total.congr x y e.key ((Equal-is (unit_cmp x y)).0 same) ∙ less)) es behind

-- the test of a version is one of its place
version_test : (name : List ℕ) (generation : ℕ) (row : Row) → is_version name generation row ≡ is_eq (unit_cmp (unit_at name generation) (place_of row))
version_test name generation row =
    both_ways (is_version name generation row) (is_eq (unit_cmp (unit_at name generation) (place_of row)))
    (λ is. ap (λ (u : unit.Unit). is_eq (unit_cmp (unit_at name generation) u)) (version_place name generation row is) ∙ at_itself (unit_at name generation))
    (λ is. place_version name generation row (sym (same_place (unit_at name generation) (place_of row) is)))

-- ---- the row that an entry leads to
-- it is the version of the entry's place
pub record Leads (slots : Slab Row) (e : Entry unit.Unit ℕ) : Type 0 where
  pub row : Row
  pub here : get slots e.value ≡ Some row
  pub place : place_of row ≡ e.key

-- each entry of all leads to a row
pub led : (slots : Slab Row) (e : Entry unit.Unit ℕ) → LeadsToItsOwn slots e → Leads slots e
led slots e own = by (get slots e.value) refl own
  where
    by : (o : Option Row) → get slots e.value ≡ o → IsSomeAnd o (λ row. place_of row ≡ e.key) → Leads slots e
    by None f own = absurd own
    by (Some row) f own = record { row = row; here = f; place = own }

-- it is the first of the rows
rows_first : (slots : Slab Row) (e : Entry unit.Unit ℕ) (es : List (Entry unit.Unit ℕ)) (row : Row) → get slots e.value ≡ Some row → rows_at slots (e ∷ es) ≡ row ∷ rows_at slots es
rows_first slots e es row here = ap (λ o. found_before o (rows_at slots es)) here

-- there are as many rows as entries
pub length_rows : (slots : Slab Row) (all : List (Entry unit.Unit ℕ)) → AllByRecursion (LeadsToItsOwn slots) all → length (rows_at slots all) ≡ length all
length_rows slots [] own = refl
length_rows slots (e ∷ es) own =
    let first = led slots e own.0 in
    ap length (rows_first slots e es first.row first.here) ∙ ap suc (length_rows slots es own.1)

-- rows stay where their slots do
pub rows_stay : (old new : Slab Row) (es : List (Entry unit.Unit ℕ)) → AllByRecursion (IsStill old new) es → rows_at new es ≡ rows_at old es
rows_stay old new [] same = refl
rows_stay old new (e ∷ es) same = ap₂ found_before same.0 (rows_stay old new es same.1)

-- ---- a new row in a free slot
-- the new row stands where its entry does
put_among : (old new : Slab Row) (all : List (Entry unit.Unit ℕ)) (slot : ℕ) (row : Row) → AllByRecursion (LeadsToItsOwn old) all
    → AllByRecursion (λ e. is_eq (unit_cmp (place_of row) e.key) ≡ false) all → get old slot ≡ None → Updates old new slot (Some row)
    → rows_at new (with_entry unit_cmp (entry_of (place_of row) slot) all) ≡ with_row row (rows_at old all)
put_among old new [] slot row own others free updates = rows_first new (entry_of (place_of row) slot) [] row updates.changed
put_among old new (e ∷ es) slot row own others free updates =
    by (unit_cmp (place_of row) e.key) refl (put_among old new es slot row own.1 others.1 free updates)
    ∙ sym
    (ap (with_row row) (rows_first old e es first.row first.here)
    ∙ ap (λ (u : unit.Unit). if comes_before (place_of row) u then row ∷ first.row ∷ rows_at old es else first.row ∷ with_row row (rows_at old es)) first.place)
  where
    first : Leads old e
    first = led old e own.0

    stay : AllByRecursion (IsStill old new) (e ∷ es)
    stay = all_still old new slot (Some row) updates free (e ∷ es) own

    by : (o : Ordering) → unit_cmp (place_of row) e.key ≡ o → rows_at new (with_entry unit_cmp (entry_of (place_of row) slot) es) ≡ with_row row (rows_at old es)
        → rows_at new (if is_gt o then e ∷ with_entry unit_cmp (entry_of (place_of row) slot) es else entry_of (place_of row) slot ∷ (e ∷ es))
        ≡ (if is_lt o then row ∷ first.row ∷ rows_at old es else first.row ∷ with_row row (rows_at old es))
    by Less f rest =
        rows_first new (entry_of (place_of row) slot) (e ∷ es) row updates.changed
        ∙ ap (λ rows. row ∷ rows) (rows_stay old new (e ∷ es) stay ∙ rows_first old e es first.row first.here)
    by Equal f rest = absurd (apart (ap is_eq f) others.0)
    by Greater f rest =
        rows_first new e (with_entry unit_cmp (entry_of (place_of row) slot) es) first.row (stay.0 ∙ first.here) ∙ ap (λ rows. first.row ∷ rows) rest

-- a new row in a free slot, and its entry, are a new row among the rows
pub rows_put : (old new : Slab Row) (all : List (Entry unit.Unit ℕ)) (slot : ℕ) (row : Row) → Rises unit_cmp all → AllByRecursion (LeadsToItsOwn old) all
    → find (λ e. is_eq (unit_cmp (place_of row) e.key)) all ≡ None → get old slot ≡ None → Updates old new slot (Some row)
    → rows_at new (with_entry unit_cmp (entry_of (place_of row) slot) all) ≡ with_row row (rows_at old all)
rows_put old new all slot row rise own absent free updates =
    put_among old new all slot row own (none_found (λ (e : Entry unit.Unit ℕ). is_eq (unit_cmp (place_of row) e.key)) all absent) free updates

-- ---- a change of a row in its slot
-- a row before others is the rows of one before them
before_all : (now : Option Row) (rows : List Row) → found_before now rows ≡ found_before now [] ++ rows
before_all None rows = refl
before_all (Some row) rows = refl

-- the row becomes what stands in its slot then
rows_changed : (old new : Slab Row) (all : List (Entry unit.Unit ℕ)) (slot : ℕ) (row : Row) (now : Option Row) (f : Row → List Row) → Rises unit_cmp all → AllByRecursion (LeadsToItsOwn old) all
    → find (λ e. is_eq (unit_cmp (place_of row) e.key)) all ≡ Some (entry_of (place_of row) slot) → get old slot ≡ Some row → f row ≡ found_before now [] → Updates old new slot now
    → rows_at new all ≡ change_first (is_version row.name row.generation) f (rows_at old all)
rows_changed old new [] slot row now f rise own found here becomes updates = cc
rows_changed old new (e ∷ es) slot row now f rise own found here becomes updates =
    by (is_eq (unit_cmp (place_of row) e.key)) refl found (λ later. rows_changed old new es slot row now f rise.1 own.1 later here becomes updates)
    ∙ sym
    (ap (change_first (is_version row.name row.generation) f) (rows_first old e es first.row first.here)
    ∙ ap (λ b. if b then f first.row ++ rows_at old es else first.row ∷ change_first (is_version row.name row.generation) f (rows_at old es))
    (version_test row.name row.generation first.row ∙ ap (λ (u : unit.Unit). is_eq (unit_cmp (place_of row) u)) first.place))
  where
    first : Leads old e
    first = led old e own.0

    by : (b : Bool) → is_eq (unit_cmp (place_of row) e.key) ≡ b → (if b then Some e else find (λ x. is_eq (unit_cmp (place_of row) x.key)) es) ≡ Some (entry_of (place_of row) slot)
        → (find (λ x. is_eq (unit_cmp (place_of row) x.key)) es ≡ Some (entry_of (place_of row) slot) → rows_at new es ≡ change_first (is_version row.name row.generation) f (rows_at old es))
        → rows_at new (e ∷ es) ≡ (if b then f first.row ++ rows_at old es else first.row ∷ change_first (is_version row.name row.generation) f (rows_at old es))
    by true same is deeper =
        let same_slot : e.value ≡ slot = ap (λ (x : Entry unit.Unit ℕ). x.value) (some_is e (entry_of (place_of row) slot) is) in
        let the_row : first.row ≡ row = some_is first.row row (sym first.here ∙ ap (get old) same_slot ∙ here) in
        let stay = still_beside old new slot now updates row here es own.1 (others_behind (place_of row) e.key es same rise.0) in
        ap₂ found_before (ap (get new) same_slot ∙ updates.changed) (rows_stay old new es stay)
        ∙ before_all now (rows_at old es) ∙ ap (λ rows. rows ++ rows_at old es) (sym (ap f the_row ∙ becomes))
    by false other is deeper =
        rows_first new e es first.row ((still_beside old new slot now updates row here (e ∷ []) (own.0, tt) (other, tt)).0 ∙ first.here) ∙ ap (λ rows. first.row ∷ rows) (deeper is)

-- another row in the slot of a row is a change of that row
pub rows_change : (old new : Slab Row) (all : List (Entry unit.Unit ℕ)) (slot : ℕ) (row changed : Row) (f : Row → List Row) → Rises unit_cmp all → AllByRecursion (LeadsToItsOwn old) all
    → find (λ e. is_eq (unit_cmp (place_of row) e.key)) all ≡ Some (entry_of (place_of row) slot) → get old slot ≡ Some row → f row ≡ changed ∷ [] → Updates old new slot (Some changed)
    → rows_at new all ≡ change_first (is_version row.name row.generation) f (rows_at old all)
rows_change old new all slot row changed f rise own found here becomes updates = rows_changed old new all slot row (Some changed) f rise own found here becomes updates

-- ---- a row that goes
-- what equals the place of an entry leads to its slot
one_slot : (place : unit.Unit) (slot : ℕ) (all : List (Entry unit.Unit ℕ)) → Rises unit_cmp all → find (λ e. is_eq (unit_cmp place e.key)) all ≡ Some (entry_of place slot)
    → AllByRecursion (λ e. is_eq (unit_cmp place e.key) ≡ true → e.value ≡ slot) all
one_slot place slot [] rise found = tt
one_slot place slot (e ∷ es) rise found = by (is_eq (unit_cmp place e.key)) refl found (one_slot place slot es rise.1)
  where
    by : (b : Bool) → is_eq (unit_cmp place e.key) ≡ b → (if b then Some e else find (λ x. is_eq (unit_cmp place x.key)) es) ≡ Some (entry_of place slot)
        → (find (λ x. is_eq (unit_cmp place x.key)) es ≡ Some (entry_of place slot) → AllByRecursion (λ x. is_eq (unit_cmp place x.key) ≡ true → x.value ≡ slot) es)
        → AllByRecursion (λ x. is_eq (unit_cmp place x.key) ≡ true → x.value ≡ slot) (e ∷ es)
    by true same is deeper = (
      λ _. ap (λ (x : Entry unit.Unit ℕ). x.value) (some_is e (entry_of place slot) is),
      all-weaker (λ (x : Entry unit.Unit ℕ). is_eq (unit_cmp place x.key) ≡ false) (λ (x : Entry unit.Unit ℕ). is_eq (unit_cmp place x.key) ≡ true → x.value ≡ slot)
          (λ x other equal. absurd (apart equal other)) es (others_behind place e.key es same rise.0),
    )
    by false other is deeper = (λ equal. absurd (apart equal other), deeper is)

-- entries that lead to no row may go
rows_without : (slots : Slab Row) (place : unit.Unit) (all : List (Entry unit.Unit ℕ)) → AllByRecursion (λ e. is_eq (unit_cmp place e.key) ≡ true → get slots e.value ≡ None) all
    → rows_at slots (without_key unit_cmp place all) ≡ rows_at slots all
rows_without slots place [] gone = refl
rows_without slots place (e ∷ es) gone = by (is_eq (unit_cmp place e.key)) gone.0 (rows_without slots place es gone.1)
  where
    by : (b : Bool) → (b ≡ true → get slots e.value ≡ None) → rows_at slots (without_key unit_cmp place es) ≡ rows_at slots es
        → rows_at slots (if not b then e ∷ without_key unit_cmp place es else without_key unit_cmp place es) ≡ rows_at slots (e ∷ es)
    by true gone rest = rest ∙ sym (ap (λ o. found_before o (rows_at slots es)) (gone refl))
    by false gone rest = ap (found_before (get slots e.value)) rest

-- a row that goes from its slot, and its entry, goes from the rows
pub rows_removal : (old new : Slab Row) (all : List (Entry unit.Unit ℕ)) (slot : ℕ) (row : Row) (f : Row → List Row) → Rises unit_cmp all → AllByRecursion (LeadsToItsOwn old) all
    → find (λ e. is_eq (unit_cmp (place_of row) e.key)) all ≡ Some (entry_of (place_of row) slot) → get old slot ≡ Some row → f row ≡ [] → Updates old new slot None
    → rows_at new (without_key unit_cmp (place_of row) all) ≡ change_first (is_version row.name row.generation) f (rows_at old all)
rows_removal old new all slot row f rise own found here becomes updates =
    rows_without new (place_of row) all
    (all-weaker (λ (e : Entry unit.Unit ℕ). is_eq (unit_cmp (place_of row) e.key) ≡ true → e.value ≡ slot) (λ (e : Entry unit.Unit ℕ). is_eq (unit_cmp (place_of row) e.key) ≡ true → get new e.value ≡ None)
    (λ e leads equal. ap (get new) (leads equal) ∙ updates.changed) all (one_slot (place_of row) slot all rise found))
    ∙ rows_changed old new all slot row None f rise own found here becomes updates

-- ---- searches
-- a search among the rows is one among the entries
found_rows : (slots : Slab Row) (p : Row → Bool) (q : Entry unit.Unit ℕ → Bool) → ((row : Row) (e : Entry unit.Unit ℕ) → get slots e.value ≡ Some row → place_of row ≡ e.key → p row ≡ q e)
    → (all : List (Entry unit.Unit ℕ)) → AllByRecursion (LeadsToItsOwn slots) all → find p (rows_at slots all) ≡ slot_row slots (value_in (find q all))
found_rows slots p q same [] own = refl
found_rows slots p q same (e ∷ es) own =
    ap (find p) (rows_first slots e es first.row first.here)
    ∙ ap (λ b. if b then Some first.row else find p (rows_at slots es)) (same first.row e first.here first.place)
    ∙ by (q e) (found_rows slots p q same es own.1)
  where
    first : Leads slots e
    first = led slots e own.0

    by : (b : Bool) → find p (rows_at slots es) ≡ slot_row slots (value_in (find q es))
        → (if b then Some first.row else find p (rows_at slots es)) ≡ slot_row slots (value_in (if b then Some e else find q es))
    by true rest = sym first.here
    by false rest = rest

-- a version is found by its entry
pub version_found : (slots : Slab Row) (all : List (Entry unit.Unit ℕ)) (name : List ℕ) (generation : ℕ) → AllByRecursion (LeadsToItsOwn slots) all
    → find (is_version name generation) (rows_at slots all) ≡ slot_row slots (value_in (find (λ e. is_eq (unit_cmp (unit_at name generation) e.key)) all))
version_found slots all name generation own =
    found_rows slots (is_version name generation) (λ e. is_eq (unit_cmp (unit_at name generation) e.key))
    (λ row e here place. version_test name generation row ∙ ap (λ (u : unit.Unit). is_eq (unit_cmp (unit_at name generation) u)) place) all own

-- a version that isn't there has no entry
pub version_absent : (slots : Slab Row) (all : List (Entry unit.Unit ℕ)) (name : List ℕ) (generation : ℕ) → AllByRecursion (LeadsToItsOwn slots) all
    → find (is_version name generation) (rows_at slots all) ≡ None → find (λ e. is_eq (unit_cmp (unit_at name generation) e.key)) all ≡ None
version_absent slots all name generation own absent =
    by (find (λ e. is_eq (unit_cmp (unit_at name generation) e.key)) all) refl (sym (version_found slots all name generation own) ∙ absent)
  where
    by : (o : Option (Entry unit.Unit ℕ)) → find (λ e. is_eq (unit_cmp (unit_at name generation) e.key)) all ≡ o → slot_row slots (value_in o) ≡ None → o ≡ None
    by None f none = refl
    by (Some e) f none =
        let first = led slots e (all-find (LeadsToItsOwn slots) (λ (x : Entry unit.Unit ℕ). is_eq (unit_cmp (unit_at name generation) x.key)) e all f own) in
        absurd (some_not_none first.row (sym first.here ∙ none))

-- where a version is: its slot, and its entry by place
pub record IsThere (slots : Slab Row) (all : List (Entry unit.Unit ℕ)) (name : List ℕ) (generation : ℕ) (row : Row) : Type 0 where
  pub slot : ℕ
  pub place : place_of row ≡ unit_at name generation
  pub entry : find (λ e. is_eq (unit_cmp (unit_at name generation) e.key)) all ≡ Some (entry_of (unit_at name generation) slot)
  pub at : IsAt slots all slot row

-- a version that is there has an entry and a slot
pub version_there : (slots : Slab Row) (all : List (Entry unit.Unit ℕ)) (name : List ℕ) (generation : ℕ) (row : Row) → AllByRecursion (LeadsToItsOwn slots) all
    → find (is_version name generation) (rows_at slots all) ≡ Some row → IsThere slots all name generation row
version_there slots all name generation row own found =
    by (find (λ e. is_eq (unit_cmp (unit_at name generation) e.key)) all) refl (sym (version_found slots all name generation own) ∙ found)
  where
    place : place_of row ≡ unit_at name generation
    place = version_place name generation row (found_passes (is_version name generation) row (rows_at slots all) found)

    by : (o : Option (Entry unit.Unit ℕ)) → find (λ e. is_eq (unit_cmp (unit_at name generation) e.key)) all ≡ o → slot_row slots (value_in o) ≡ Some row → IsThere slots all name generation row
    by None f here = absurd (some_not_none row (sym here))
    by (Some e) f here =
        let key = same_place (unit_at name generation) e.key (found_passes (λ (x : Entry unit.Unit ℕ). is_eq (unit_cmp (unit_at name generation) x.key)) e all f) in
        let entry : find (λ x. is_eq (unit_cmp (unit_at name generation) x.key)) all ≡ Some (entry_of (unit_at name generation) e.value) =
        f ∙ ap (λ (u : unit.Unit). Some (entry_of u e.value)) (sym key) in
        record {
          slot = e.value;
          place = place;
          entry = entry;
          at = record { found = subst (λ (u : unit.Unit). find (λ x. is_eq (unit_cmp u x.key)) all ≡ Some (entry_of u e.value)) (sym place) entry; there = here };
        }

-- ---- the places of the versions whose kind passes
-- they are the entries that lead to one
pub placed_filter : (test : Kind → Bool) (slots : Slab Row) (all : List (Entry unit.Unit ℕ)) → Rises unit_cmp all → AllByRecursion (LeadsToItsOwn slots) all
    → placed test slots all ≡ filter (λ e. passes test (get slots e.value)) all
placed_filter test slots [] rise own = refl
placed_filter test slots (e ∷ es) rise own = by (get slots e.value) own.0 (placed_filter test slots es rise.1 own.1)
  where
    kept : Entry unit.Unit ℕ → Bool
    kept x = passes test (get slots x.value)

    choose : (b : Bool) (place : unit.Unit) → place ≡ e.key → placed test slots es ≡ filter kept es
        → with_keyed unit_cmp (if b then Some place else None) e.value (placed test slots es) ≡ (if b then e ∷ filter kept es else filter kept es)
    choose true place at rest =
        ap₂ (λ (u : unit.Unit) entries. with_entry unit_cmp (entry_of u e.value) entries) at rest
        ∙ with_first place_total e (filter kept es) (all-filter (λ (x : Entry unit.Unit ℕ). is_gt (unit_cmp e.key x.key) ≡ false) kept es
        (all-weaker (λ (x : Entry unit.Unit ℕ). unit_cmp e.key x.key ≡ Less) (λ (x : Entry unit.Unit ℕ). is_gt (unit_cmp e.key x.key) ≡ false) (λ x less. ap is_gt less) es rise.0))
    choose false place at rest = rest

    by : (o : Option Row) → IsSomeAnd o (λ row. place_of row ≡ e.key) → placed test slots es ≡ filter kept es
        → with_keyed unit_cmp (key_in (place_if test) o) e.value (placed test slots es) ≡ (if passes test o then e ∷ filter kept es else filter kept es)
    by None at rest = absurd at
    by (Some row) at rest = choose (test row.kind) (place_of row) at rest

-- there are no more of them than rows
pub placed_fewer : (test : Kind → Bool) (slots : Slab Row) (all : List (Entry unit.Unit ℕ)) → Rises unit_cmp all → AllByRecursion (LeadsToItsOwn slots) all
    → length (placed test slots all) ≤ length (rows_at slots all)
placed_fewer test slots all rise own =
    let kept = λ (e : Entry unit.Unit ℕ). passes test (get slots e.value) in
    omega (arith, ap length (placed_filter test slots all rise own), length-filter kept all, count_by-le-length kept all, length_rows slots all own)

-- a search among what a filter keeps
found_filtered : {X : Type 0} (p q : X → Bool) (xs : List X) → find p (filter q xs) ≡ find (λ x. q x && p x) xs
found_filtered p q [] = refl
found_filtered p q (x ∷ xs) = by (q x) (found_filtered p q xs)
  where
    by : (b : Bool) → find p (filter q xs) ≡ find (λ y. q y && p y) xs → find p (if b then x ∷ filter q xs else filter q xs) ≡ (if b && p x then Some x else find (λ y. q y && p y) xs)
    by true rest = ap (λ found. if p x then Some x else found) rest
    by false rest = rest

-- a search among the rows whose kind passes is one among their places
found_placed : (test : Kind → Bool) (p : Row → Bool) (q : Entry unit.Unit ℕ → Bool) → ((row : Row) (e : Entry unit.Unit ℕ) → place_of row ≡ e.key → p row ≡ (test row.kind && q e))
    → (slots : Slab Row) (all : List (Entry unit.Unit ℕ)) → Rises unit_cmp all → AllByRecursion (LeadsToItsOwn slots) all
    → find p (rows_at slots all) ≡ slot_row slots (value_in (find q (placed test slots all)))
found_placed test p q same slots all rise own =
    found_rows slots p (λ e. passes test (get slots e.value) && q e) (λ row e here place. same row e place ∙ ap (λ o. passes test o && q e) (sym here)) all own
    ∙ ap (λ found. slot_row slots (value_in found)) (sym (ap (find q) (placed_filter test slots all rise own) ∙ found_filtered q (λ e. passes test (get slots e.value)) all))

-- the live version is found by the first live place of its name
pub live_found : (slots : Slab Row) (all : List (Entry unit.Unit ℕ)) (name : List ℕ) → Rises unit_cmp all → AllByRecursion (LeadsToItsOwn slots) all
    → live_row name (rows_at slots all) ≡ slot_row slots (value_in (find (λ e. is_eq (slice_cmp nat_cmp name e.key.text)) (placed is_live slots all)))
live_found slots all name rise own =
    found_placed is_live (is_live_of name) (λ e. is_eq (slice_cmp nat_cmp name e.key.text))
    (λ row e place. ap (λ b. is_live row.kind && b) (sym (is_eq-slice_cmp name row.name) ∙ ap (λ (u : unit.Unit). is_eq (slice_cmp nat_cmp name u.text)) place))
    slots all rise own

-- an order turned round
reversed : (o : Ordering) → is_lt (ordering_reverse o) ≡ is_gt o
reversed Less = refl
reversed Equal = refl
reversed Greater = refl

-- to come before a bound is to be below it
before_bound : (place bound : unit.Unit) → comes_before place bound ≡ is_gt (unit_cmp bound place)
before_bound place bound = ap is_lt (place_total.antisymm place bound) ∙ reversed (unit_cmp bound place)

-- the first row of a view from a bound on is found by the first of the view's places from there on
pub shown_found : (view : View) (slots : Slab Row) (all : List (Entry unit.Unit ℕ)) (bound : unit.Unit) → Rises unit_cmp all → AllByRecursion (LeadsToItsOwn slots) all
    → find (is_at_least bound) (shown_rows view (rows_at slots all)) ≡ slot_row slots (value_in (find (λ e. not (is_gt (unit_cmp bound e.key))) (placed (is_shown view) slots all)))
shown_found view slots all bound rise own =
    found_filtered (is_at_least bound) (λ row. is_shown view row.kind) (rows_at slots all)
    ∙ found_placed (is_shown view) (λ row. is_shown view row.kind && is_at_least bound row) (λ e. not (is_gt (unit_cmp bound e.key)))
    (λ row e place. ap (λ b. is_shown view row.kind && not b) (before_bound (place_of row) bound ∙ ap (λ (u : unit.Unit). is_gt (unit_cmp bound u)) place))
    slots all rise own

-- ---- whether there is such a version
-- a row's kind passes where an entry is kept
some_pass : (test : Kind → Bool) (slots : Slab Row) (all : List (Entry unit.Unit ℕ)) → AllByRecursion (LeadsToItsOwn slots) all
    → list_any (λ row. test row.kind) (rows_at slots all) ≡ not (length (filter (λ e. passes test (get slots e.value)) all) == 0)
some_pass test slots [] own = refl
some_pass test slots (e ∷ es) own = by (get slots e.value) own.0 (some_pass test slots es own.1)
  where
    kept : Entry unit.Unit ℕ → Bool
    kept x = passes test (get slots x.value)

    not_none : (n : ℕ) → true ≡ not (suc n == 0)
    not_none n = grind (arith, nat_tests)

    choose : (b : Bool) → list_any (λ row. test row.kind) (rows_at slots es) ≡ not (length (filter kept es) == 0)
        → (b || list_any (λ row. test row.kind) (rows_at slots es)) ≡ not (length (if b then e ∷ filter kept es else filter kept es) == 0)
    choose true rest = not_none (length (filter kept es))
    choose false rest = rest

    by : (o : Option Row) → IsSomeAnd o (λ row. place_of row ≡ e.key) → list_any (λ row. test row.kind) (rows_at slots es) ≡ not (length (filter kept es) == 0)
        → list_any (λ row. test row.kind) (found_before o (rows_at slots es)) ≡ not (length (if passes test o then e ∷ filter kept es else filter kept es) == 0)
    by None at rest = absurd at
    by (Some row) at rest = choose (test row.kind) rest

-- there is a live or noncurrent version where there is a place of one
pub any_readable : (slots : Slab Row) (all : List (Entry unit.Unit ℕ)) → Rises unit_cmp all → AllByRecursion (LeadsToItsOwn slots) all
    → list_any (λ row. is_readable row.kind) (rows_at slots all) ≡ not (length (placed is_readable slots all) == 0)
any_readable slots all rise own =
    some_pass is_readable slots all own ∙ ap (λ (entries : List (Entry unit.Unit ℕ)). not (length entries == 0)) (sym (placed_filter is_readable slots all rise own))
