-- What a change of one slot does to what the indexes hold.
use Rattle.std.proofs.Common.{◌≡◌, ◌≢◌, ◌∙◌, sym, ap, ap₂, refl, subst, subst₂, ℕ, Bool, true, false, List, [], ◌∷◌, Option, Some, None}
use Rattle.std.specs.Prelude.{not, ◌==◌, if◌then◌else◌, IsSomeAnd}
use mathlib.Core.Bool.{true≢false}
use Rattle.std.specs.Cmp.{IsTotalOrder}
use Rattle.std.specs.List.{AllByRecursion, find}
use Rattle.std.specs.declared.cmp.Ordering.{Ordering}
use Rattle.std.specs.declared.cmp.Ordering.TheVariants.{Less, Equal, Greater}
use Rattle.std.specs.Ordering.{is_eq, is_gt, nat_cmp, ordering_then}
use Rattle.std.proofs.lemmas.Bool.{eqb-true, eqb-false}
use Rattle.std.proofs.lemmas.Cmp.{tied_itself}
use Rattle.slab.specs.Slab.{Slab, get, Updates}
use Rattle.gcs_index.specs.declared.blocks.Entry.{Entry}
use Rattle.gcs_index.specs.Entries.{entry_of, with_entry, without_key, Rises}
use Rattle.gcs_meaning.specs.declared.listing.Unit as unit
use Rattle.gcs_meaning.specs.declared.version.Kind.{Kind}
use Rattle.gcs_meaning.specs.declared.version.Kind.TheVariants.{Live, Noncurrent, Soft}
use Rattle.gcs_meaning.specs.declared.version.Row.{Row}
use Rattle.gcs_meaning.specs.Choosing.{is_live, is_readable}
use Rattle.gcs_meaning.specs.Order.{place_of, unit_cmp}
use Rattle.gcs_meaning.proofs.Chosen.{finds_none, none_found}
use Rattle.gcs_meaning.proofs.Listed.{all-members, all-weaker}
use Rattle.gcs_meaning.proofs.Orders.{apart}
use Rattle.gcs_versions.specs.declared.keys.DueKey.{DueKey}
use Rattle.gcs_versions.specs.Indexes.{indexed, is_soft, key_in, placed, with_keyed, without_keyed, AreIndexes, IsAt, LeadsToItsOwn}
use Rattle.gcs_versions.specs.Keys.{due_at, due_cmp, due_of, due_total, place_if, place_total}
use Rattle.gcs_versions.specs.Rows.{with_kind}
use Rattle.gcs_versions.proofs.Entries.{all_with, all_without, put_back, rises_with, rises_without, with_with, without_absent, without_first, without_others, without_with}

-- ---- slots
-- a slot has a row of this place
abbrev HasRowOf : unit.Unit → Option Row → Type 0
HasRowOf place slot = IsSomeAnd slot (λ row. place_of row ≡ place)

-- the entry leads to what it led to
abbrev pub IsStill : Slab Row → Slab Row → Entry unit.Unit ℕ → Type 0
IsStill old new e = get new e.value ≡ get old e.value

-- the entries of the other rows
abbrev others_of : Row → List (Entry unit.Unit ℕ) → List (Entry unit.Unit ℕ)
others_of row all = without_key unit_cmp (place_of row) all

-- they lead to their own rows too
own_others : (slots : Slab Row) (row : Row) (all : List (Entry unit.Unit ℕ)) → AllByRecursion (LeadsToItsOwn slots) all → AllByRecursion (LeadsToItsOwn slots) (others_of row all)
own_others slots row all own = all_without place_total (LeadsToItsOwn slots) (place_of row) all own

-- entries that lead to what they led to lead to their own rows
pub own_still : (old new : Slab Row) (es : List (Entry unit.Unit ℕ)) → AllByRecursion (IsStill old new) es → AllByRecursion (LeadsToItsOwn old) es → AllByRecursion (LeadsToItsOwn new) es
own_still old new [] still own = tt
own_still old new (e ∷ es) still own = (subst (HasRowOf e.key) (sym still.0) own.0, own_still old new es still.1 own.1)

module _ (old new : Slab Row) (slot : ℕ) (o : Option Row) (updates : Updates old new slot o) where
  -- what holds of the slot that changes, and of each that stays, holds of each slot
  at_each : (P : Option Row → Option Row → Type 0) → P (get old slot) o → ((p : Option Row) → P p p) → (other : ℕ) → P (get old other) (get new other)
  at_each P changed same other = by (other == slot) refl
    where
      by : (b : Bool) → (other == slot) ≡ b → P (get old other) (get new other)
      by true e =
          let is = eqb-true other slot e in
          subst₂ P (sym (ap (get old) is)) (sym (ap (get new) is ∙ updates.changed)) changed
      by false e = subst (P (get old other)) (sym (updates.others other (eqb-false other slot e))) (same (get old other))

  -- no entry leads to an empty slot
  pub all_still : get old slot ≡ None → (es : List (Entry unit.Unit ℕ)) → AllByRecursion (LeadsToItsOwn old) es → AllByRecursion (IsStill old new) es
  all_still empty es own =
      all-weaker (LeadsToItsOwn old) (IsStill old new) (λ e own. updates.others e.value (λ is. subst (HasRowOf e.key) (ap (get old) is ∙ empty) own)) es own

  module _ (row : Row) (there : get old slot ≡ Some row) where
    -- no entry of another place leads to the slot of a row
    pub still_beside : (es : List (Entry unit.Unit ℕ)) → AllByRecursion (LeadsToItsOwn old) es → AllByRecursion (λ e. is_eq (unit_cmp (place_of row) e.key) ≡ false) es → AllByRecursion (IsStill old new) es
    still_beside [] own other = tt
    still_beside (e ∷ es) own other = (updates.others e.value away, still_beside es own.1 other.1)
      where
        away : e.value ≢ slot
        away is =
            let here : place_of row ≡ e.key = subst (HasRowOf e.key) (ap (get old) is ∙ there) own.0 in
            apart (ap (λ p. is_eq (unit_cmp (place_of row) p)) (sym here) ∙ ap is_eq (tied_itself place_total (place_of row))) other.0

    -- so the entries of the other rows stay
    others_still : (all : List (Entry unit.Unit ℕ)) → AllByRecursion (LeadsToItsOwn old) all → AllByRecursion (IsStill old new) (others_of row all)
    others_still all own = still_beside (others_of row all) (own_others old row all own) (without_others unit_cmp (place_of row) all)

-- a row is changed at its place
module _ (old new : Slab Row) (slot : ℕ) (row changed : Row) (place : place_of changed ≡ place_of row) (updates : Updates old new slot (Some changed)) where
  -- each entry still leads to its own row
  own_changed : get old slot ≡ Some row → (es : List (Entry unit.Unit ℕ)) → AllByRecursion (LeadsToItsOwn old) es → AllByRecursion (LeadsToItsOwn new) es
  own_changed there es own =
      all-weaker (LeadsToItsOwn old) (LeadsToItsOwn new)
      (λ e. at_each old new slot (Some changed) updates (λ p q. HasRowOf e.key p → HasRowOf e.key q) (here e) (λ p own. own) e.value) es own
    where
      here : (e : Entry unit.Unit ℕ) → HasRowOf e.key (get old slot) → place_of changed ≡ e.key
      here e own = let is : place_of row ≡ e.key = subst (HasRowOf e.key) there own in place ∙ is

  -- and the changed row is where the row was
  at_changed : (all : List (Entry unit.Unit ℕ)) → IsAt old all slot row → IsAt new all slot changed
  at_changed all at = record {
    found = subst (λ p. find (λ (e : Entry unit.Unit ℕ). is_eq (unit_cmp p e.key)) all ≡ Some (entry_of p slot)) (sym place) at.found;
    there = updates.changed;
  }

-- ---- a key that may be there
module _ {K : Type 0} {cmp : K → K → Ordering} (total : IsTotalOrder cmp) where
  -- two keys in either order
  keyed_keyed : (k l : Option K) (s t : ℕ) (es : List (Entry K ℕ)) → ((x y : K) → k ≡ Some x → l ≡ Some y → is_eq (cmp x y) ≡ false)
      → with_keyed cmp k s (with_keyed cmp l t es) ≡ with_keyed cmp l t (with_keyed cmp k s es)
  keyed_keyed None l s t es other = refl
  keyed_keyed (Some x) None s t es other = refl
  keyed_keyed (Some x) (Some y) s t es other = with_with total (entry_of x s) (entry_of y t) es (other x y refl refl)

  -- a new key that is taken away again
  unkeyed_keyed : (k : Option K) (s : ℕ) (es : List (Entry K ℕ)) → ((x : K) → k ≡ Some x → AllByRecursion (λ e. is_eq (cmp x e.key) ≡ false) es)
      → without_keyed cmp k (with_keyed cmp k s es) ≡ es
  unkeyed_keyed None s es absent = refl
  unkeyed_keyed (Some x) s es absent = without_with total x s es (absent x refl)

  -- what holds of all entries
  all_keyed : (P : Entry K ℕ → Type 0) (k : Option K) (s : ℕ) (es : List (Entry K ℕ)) → ((x : K) → k ≡ Some x → P (entry_of x s)) → AllByRecursion P es → AllByRecursion P (with_keyed cmp k s es)
  all_keyed P None s es new all = all
  all_keyed P (Some x) s es new all = all_with total P (entry_of x s) es (new x refl) all

  -- a new key among rising ones
  rises_keyed : (k : Option K) (s : ℕ) (es : List (Entry K ℕ)) → ((x : K) → k ≡ Some x → AllByRecursion (λ e. is_eq (cmp x e.key) ≡ false) es) → Rises cmp es → Rises cmp (with_keyed cmp k s es)
  rises_keyed None s es absent rise = rise
  rises_keyed (Some x) s es absent rise = rises_with total (entry_of x s) es rise (absent x refl)

-- ---- an index by a key of rows
-- slots whose rows have the same keys
indexed_same : {K : Type 0} (cmp : K → K → Ordering) (key_of : Row → Option K) (old new : Slab Row) (es : List (Entry unit.Unit ℕ))
    → AllByRecursion (λ e. key_in key_of (get new e.value) ≡ key_in key_of (get old e.value)) es → indexed cmp key_of new es ≡ indexed cmp key_of old es
indexed_same cmp key_of old new [] same = refl
indexed_same cmp key_of old new (e ∷ es) same = ap₂ (λ k rest. with_keyed cmp k e.value rest) same.0 (indexed_same cmp key_of old new es same.1)

-- so have slots to which entries lead as before
pub indexed_still : {K : Type 0} (cmp : K → K → Ordering) (key_of : Row → Option K) (old new : Slab Row) (es : List (Entry unit.Unit ℕ)) → AllByRecursion (IsStill old new) es
    → indexed cmp key_of new es ≡ indexed cmp key_of old es
indexed_still cmp key_of old new es still =
    indexed_same cmp key_of old new es
    (all-weaker (IsStill old new) (λ (e : Entry unit.Unit ℕ). key_in key_of (get new e.value) ≡ key_in key_of (get old e.value)) (λ e. ap (key_in key_of)) es still)

-- the rows whose keys equal this one stand at the place
abbrev StandsAt : {K : Type 0} → (K → K → Ordering) → (Row → Option K) → K → unit.Unit → Type 0
StandsAt {K} cmp key_of k place = (s : Row) (l : K) → key_of s ≡ Some l → is_eq (cmp k l) ≡ true → is_eq (unit_cmp place (place_of s)) ≡ true

-- a row of another place has another key
other_key : {K : Type 0} (cmp : K → K → Ordering) (key_of : Row → Option K) (k : K) (place there : unit.Unit) → StandsAt cmp key_of k place → is_eq (unit_cmp place there) ≡ false
    → (slot : Option Row) → HasRowOf there slot → (l : K) → key_in key_of slot ≡ Some l → is_eq (cmp k l) ≡ false
other_key cmp key_of k place there stands other None own l key = absurd own
other_key cmp key_of k place there stands other (Some s) own l key = by (is_eq (cmp k l)) refl
  where
    by : (b : Bool) → is_eq (cmp k l) ≡ b → b ≡ false
    by false e = refl
    by true e = absurd (apart (stands s l key e) (ap (λ p. is_eq (unit_cmp place p)) own ∙ other))

-- a key of rows in a total order: equal keys are of rows at one place
pub record IsRowKey {K : Type 0} (cmp : K → K → Ordering) (key_of : Row → Option K) : Type 0 where
  pub total : IsTotalOrder cmp
  pub apart : (r s : Row) (k l : K) → key_of r ≡ Some k → key_of s ≡ Some l → is_eq (cmp k l) ≡ true → is_eq (unit_cmp (place_of r) (place_of s)) ≡ true

module _ {K : Type 0} {cmp : K → K → Ordering} {key_of : Row → Option K} (keys : IsRowKey cmp key_of) where
  -- the rows whose keys equal that of a row stand at its place
  its_place : (row : Row) (k : K) → key_of row ≡ Some k → StandsAt cmp key_of k (place_of row)
  its_place row k key s l other same = keys.apart row s k l key other same

  -- rows of other places have other keys
  other_keys : (slots : Slab Row) (k : K) (place : unit.Unit) → StandsAt cmp key_of k place → (es : List (Entry unit.Unit ℕ)) → AllByRecursion (LeadsToItsOwn slots) es
      → AllByRecursion (λ e. is_eq (unit_cmp place e.key) ≡ false) es → AllByRecursion (λ e. is_eq (cmp k e.key) ≡ false) (indexed cmp key_of slots es)
  other_keys slots k place stands [] own other = tt
  other_keys slots k place stands (e ∷ es) own other =
      all_keyed keys.total (λ x. is_eq (cmp k x.key) ≡ false) (key_in key_of (get slots e.value)) e.value (indexed cmp key_of slots es)
      (other_key cmp key_of k place e.key stands other.0 (get slots e.value) own.0) (other_keys slots k place stands es own.1 other.1)

  -- no row has the key, since none stands at its place
  indexed_new : (slots : Slab Row) (all : List (Entry unit.Unit ℕ)) (k : K) (place : unit.Unit) → AllByRecursion (LeadsToItsOwn slots) all → StandsAt cmp key_of k place
      → find (λ e. is_eq (unit_cmp place e.key)) all ≡ None → find (λ e. is_eq (cmp k e.key)) (indexed cmp key_of slots all) ≡ None
  indexed_new slots all k place own stands none =
      finds_none (λ (e : Entry K ℕ). is_eq (cmp k e.key)) (indexed cmp key_of slots all)
      (other_keys slots k place stands all own (none_found (λ (e : Entry unit.Unit ℕ). is_eq (unit_cmp place e.key)) all none))

  -- the keys of an index rise
  pub indexed_rises : (slots : Slab Row) (all : List (Entry unit.Unit ℕ)) → Rises unit_cmp all → AllByRecursion (LeadsToItsOwn slots) all → Rises cmp (indexed cmp key_of slots all)
  indexed_rises slots [] rise own = tt
  indexed_rises slots (e ∷ es) rise own =
      rises_keyed keys.total (key_in key_of (get slots e.value)) e.value (indexed cmp key_of slots es) (absent (get slots e.value) own.0) (indexed_rises slots es rise.1 own.1)
    where
      absent : (o : Option Row) → HasRowOf e.key o → (k : K) → key_in key_of o ≡ Some k → AllByRecursion (λ x. is_eq (cmp k x.key) ≡ false) (indexed cmp key_of slots es)
      absent None here k key = absurd here
      absent (Some row) here k key =
          other_keys slots k e.key (subst (StandsAt cmp key_of k) here (its_place row k key)) es own.1
          (all-weaker (λ (x : Entry unit.Unit ℕ). unit_cmp e.key x.key ≡ Less) (λ (x : Entry unit.Unit ℕ). is_eq (unit_cmp e.key x.key) ≡ false) (λ x less. ap is_eq less) es rise.0)

  -- one row more
  indexed_with : (slots : Slab Row) (slot : ℕ) (row : Row) → get slots slot ≡ Some row → (es : List (Entry unit.Unit ℕ)) → AllByRecursion (LeadsToItsOwn slots) es
      → AllByRecursion (λ e. is_eq (unit_cmp (place_of row) e.key) ≡ false) es
      → indexed cmp key_of slots (with_entry unit_cmp (entry_of (place_of row) slot) es) ≡ with_keyed cmp (key_of row) slot (indexed cmp key_of slots es)
  indexed_with slots slot row there [] own other = ap (λ o. with_keyed cmp (key_in key_of o) slot []) there
  indexed_with slots slot row there (e ∷ es) own other = by (is_gt (unit_cmp (place_of row) e.key)) (indexed_with slots slot row there es own.1 other.1)
    where
      new : Entry unit.Unit ℕ
      new = entry_of (place_of row) slot

      by : (b : Bool) → indexed cmp key_of slots (with_entry unit_cmp new es) ≡ with_keyed cmp (key_of row) slot (indexed cmp key_of slots es)
          → indexed cmp key_of slots (if b then e ∷ with_entry unit_cmp new es else new ∷ e ∷ es) ≡ with_keyed cmp (key_of row) slot (indexed cmp key_of slots (e ∷ es))
      by true rest =
          ap (with_keyed cmp (key_in key_of (get slots e.value)) e.value) rest
          ∙ sym (keyed_keyed keys.total (key_of row) (key_in key_of (get slots e.value)) slot e.value (indexed cmp key_of slots es)
          (λ k l key. other_key cmp key_of k (place_of row) e.key (its_place row k key) other.0 (get slots e.value) own.0 l))
      by false rest = ap (λ o. with_keyed cmp (key_in key_of o) slot (indexed cmp key_of slots (e ∷ es))) there

  module _ (slots : Slab Row) (all : List (Entry unit.Unit ℕ)) (slot : ℕ) (row : Row) (rise : Rises unit_cmp all) (own : AllByRecursion (LeadsToItsOwn slots) all) (at : IsAt slots all slot row) where
    -- an index is that of the other rows with this one
    indexed_one : indexed cmp key_of slots all ≡ with_keyed cmp (key_of row) slot (indexed cmp key_of slots (others_of row all))
    indexed_one =
        ap (indexed cmp key_of slots) (sym (put_back place_total (place_of row) slot all rise at.found))
        ∙ indexed_with slots slot row at.there (others_of row all) (own_others slots row all own) (without_others unit_cmp (place_of row) all)

    -- and without it, that of the other rows
    indexed_others : without_keyed cmp (key_of row) (indexed cmp key_of slots all) ≡ indexed cmp key_of slots (others_of row all)
    indexed_others =
        ap (without_keyed cmp (key_of row)) indexed_one
        ∙ unkeyed_keyed keys.total (key_of row) slot (indexed cmp key_of slots (others_of row all))
        (λ k key. other_keys slots k (place_of row) (its_place row k key) (others_of row all) (own_others slots row all own)
        (without_others unit_cmp (place_of row) all))

    -- no row has the key, since the one at its place has none
    indexed_absent : (k : K) → key_of row ≡ None → StandsAt cmp key_of k (place_of row) → find (λ e. is_eq (cmp k e.key)) (indexed cmp key_of slots all) ≡ None
    indexed_absent k none stands =
        ap (find (λ (e : Entry K ℕ). is_eq (cmp k e.key))) (indexed_one ∙ ap (λ o. with_keyed cmp o slot (indexed cmp key_of slots (others_of row all))) none)
        ∙ finds_none (λ (e : Entry K ℕ). is_eq (cmp k e.key)) (indexed cmp key_of slots (others_of row all))
        (other_keys slots k (place_of row) stands (others_of row all) (own_others slots row all own) (without_others unit_cmp (place_of row) all))

  -- a row is put into an empty slot
  indexed_put : (old new : Slab Row) (all : List (Entry unit.Unit ℕ)) (slot : ℕ) (row : Row) → AllByRecursion (LeadsToItsOwn old) all
      → find (λ e. is_eq (unit_cmp (place_of row) e.key)) all ≡ None → get old slot ≡ None → Updates old new slot (Some row)
      → indexed cmp key_of new (with_entry unit_cmp (entry_of (place_of row) slot) all) ≡ with_keyed cmp (key_of row) slot (indexed cmp key_of old all)
  indexed_put old new all slot row own none empty updates =
      let still = all_still old new slot (Some row) updates empty all own in
      indexed_with new slot row updates.changed all (own_still old new all still own) (none_found (λ (e : Entry unit.Unit ℕ). is_eq (unit_cmp (place_of row) e.key)) all none)
      ∙ ap (with_keyed cmp (key_of row) slot) (indexed_still cmp key_of old new all still)

  module _ (old new : Slab Row) (all : List (Entry unit.Unit ℕ)) (slot : ℕ) (row : Row) (rise : Rises unit_cmp all) (own : AllByRecursion (LeadsToItsOwn old) all) (at : IsAt old all slot row) where
    -- a row is taken out
    indexed_removal : Updates old new slot None → indexed cmp key_of new (others_of row all) ≡ without_keyed cmp (key_of row) (indexed cmp key_of old all)
    indexed_removal updates =
        indexed_still cmp key_of old new (others_of row all) (others_still old new slot None updates row at.there all own)
        ∙ sym (indexed_others old all slot row rise own at)

    -- a row is changed at its place
    indexed_change : (changed : Row) → place_of changed ≡ place_of row → Updates old new slot (Some changed)
        → indexed cmp key_of new all ≡ with_keyed cmp (key_of changed) slot (without_keyed cmp (key_of row) (indexed cmp key_of old all))
    indexed_change changed place updates =
        indexed_one new all slot changed rise (own_changed old new slot row changed place updates at.there all own) (at_changed old new slot row changed place updates all at)
        ∙ ap (λ p. with_keyed cmp (key_of changed) slot (indexed cmp key_of new (without_key unit_cmp p all))) place
        ∙ ap (with_keyed cmp (key_of changed) slot)
        (indexed_still cmp key_of old new (others_of row all) (others_still old new slot (Some changed) updates row at.there all own) ∙ sym (indexed_others old all slot row rise own at))

-- ---- the places of versions whose kind passes
inside : {X : Type 0} (x y : X) → Some x ≡ Some y → x ≡ y
inside x y same = cc

-- what stands there for a row is its place
place_is : (test : Kind → Bool) (row : Row) (k : unit.Unit) → place_if test row ≡ Some k → place_of row ≡ k
place_is test row k is = by (test row.kind) is
  where
    by : (b : Bool) → (if b then Some (place_of row) else None) ≡ Some k → place_of row ≡ k
    by true same = inside (place_of row) k same
    by false none = absurd (cc)

-- a row whose kind passes has its place there, and another has none
place_by : (test : Kind → Bool) (row : Row) (b : Bool) → test row.kind ≡ b → place_if test row ≡ (if b then Some (place_of row) else None)
place_by test row b is = ap (λ t. if t then Some (place_of row) else None) is

-- a row that stands there at a place has that place
place_stands : (test : Kind → Bool) (place : unit.Unit) → StandsAt unit_cmp (place_if test) place place
place_stands test place s l is same = ap (λ p. is_eq (unit_cmp place p)) (place_is test s l is) ∙ same

-- a place is a key of rows
pub place_keys : (test : Kind → Bool) → IsRowKey unit_cmp (place_if test)
place_keys test = record {
  total = place_total;
  apart = λ r s k l f g same. ap (λ p. is_eq (unit_cmp p (place_of s))) (place_is test r k f) ∙ place_stands test k s l g same;
}

-- the places without the row's, whether it passes or not
without_place : (test : Kind → Bool) (slots : Slab Row) (all : List (Entry unit.Unit ℕ)) (slot : ℕ) (row : Row) → Rises unit_cmp all → AllByRecursion (LeadsToItsOwn slots) all → IsAt slots all slot row
    → without_keyed unit_cmp (place_if test row) (placed test slots all) ≡ without_key unit_cmp (place_of row) (placed test slots all)
without_place test slots all slot row rise own at = by (test row.kind) refl
  where
    by : (b : Bool) → test row.kind ≡ b → without_keyed unit_cmp (if b then Some (place_of row) else None) (placed test slots all) ≡ without_key unit_cmp (place_of row) (placed test slots all)
    by true is = refl
    by false is = sym (without_absent place_total (place_of row) (placed test slots all)
        (indexed_absent (place_keys test) slots all slot row rise own at (place_of row) (place_by test row false is) (place_stands test (place_of row))))

-- ---- the hard times of soft-deleted versions
-- the key of a row has its place
pub due_is : (row : Row) (k : DueKey) → due_of row ≡ Some k → k.version ≡ place_of row
due_is row k is = by row.kind is
  where
    by : (kind : Kind) → due_at kind (place_of row) ≡ Some k → k.version ≡ place_of row
    by Live none = absurd (cc)
    by (Noncurrent at) none = absurd (cc)
    by (Soft at hard) same = ap (λ (d : DueKey). d.version) (sym (inside (record { hard = hard; version = place_of row }) k same))

-- a row with the key stands at the key's place
due_stands : (k : DueKey) → StandsAt due_cmp due_of k k.version
due_stands k s l is same = ap (λ p. is_eq (unit_cmp k.version p)) (sym (due_is s l is)) ∙ second (nat_cmp k.hard l.hard) same
  where
    second : (o : Ordering) → is_eq (ordering_then o (unit_cmp k.version l.version)) ≡ true → is_eq (unit_cmp k.version l.version) ≡ true
    second Less wrong = absurd (true≢false (sym wrong))
    second Equal same = same
    second Greater wrong = absurd (true≢false (sym wrong))

-- a hard time with a place is a key of rows
pub due_keys : IsRowKey due_cmp due_of
due_keys = record {
  total = due_total;
  apart = λ r s k l f g same. ap (λ p. is_eq (unit_cmp p (place_of s))) (sym (due_is r k f)) ∙ due_stands k s l g same;
}

-- ---- kinds
-- what is live can be read
live_readable : (kind : Kind) → is_live kind ≡ true → is_readable kind ≡ true
live_readable Live live = refl
live_readable (Noncurrent at) live = refl
live_readable (Soft at hard) live = live

-- and what can't be read isn't live
unreadable : (kind : Kind) → is_readable kind ≡ false → is_live kind ≡ false
unreadable Live soft = soft
unreadable (Noncurrent at) soft = refl
unreadable (Soft at hard) soft = refl

-- a row that can be read has no hard time
not_due : (row : Row) → is_readable row.kind ≡ true → due_of row ≡ None
not_due row readable = by row.kind readable
  where
    by : (kind : Kind) → is_readable kind ≡ true → due_at kind (place_of row) ≡ None
    by Live readable = refl
    by (Noncurrent at) readable = refl
    by (Soft at hard) soft = absurd (true≢false (sym soft))

-- so one with a hard time can't be read
due_soft : (row : Row) (k : DueKey) → due_of row ≡ Some k → is_readable row.kind ≡ false
due_soft row k is = by (is_readable row.kind) refl
  where
    by : (b : Bool) → is_readable row.kind ≡ b → b ≡ false
    by false e = refl
    by true e = let none : None ≡ Some k = sym (not_due row e) ∙ is in absurd (cc)

-- ---- what the five indexes have free
module _ (slots : Slab Row) (all readable live soft : List (Entry unit.Unit ℕ)) (due : List (Entry DueKey ℕ)) where
  -- a place where no version stands
  module _ (place : unit.Unit) (are : AreIndexes slots all readable live soft due) (none : find (λ e. is_eq (unit_cmp place e.key)) all ≡ None) where
    free_placed : (test : Kind → Bool) → find (λ e. is_eq (unit_cmp place e.key)) (placed test slots all) ≡ None
    free_placed test = indexed_new (place_keys test) slots all place place are.own (place_stands test place) none

    pub free_readable : find (λ e. is_eq (unit_cmp place e.key)) readable ≡ None
    free_readable = ap (find (λ (e : Entry unit.Unit ℕ). is_eq (unit_cmp place e.key))) are.readable_are ∙ free_placed is_readable

    pub free_live : find (λ e. is_eq (unit_cmp place e.key)) live ≡ None
    free_live = ap (find (λ (e : Entry unit.Unit ℕ). is_eq (unit_cmp place e.key))) are.live_are ∙ free_placed is_live

  -- the place of a version that is live or noncurrent
  module _ (slot : ℕ) (row : Row) (are : AreIndexes slots all readable live soft due) (at : IsAt slots all slot row) (is : is_readable row.kind ≡ true) where
    pub free_soft : find (λ e. is_eq (unit_cmp (place_of row) e.key)) soft ≡ None
    free_soft =
        ap (find (λ (e : Entry unit.Unit ℕ). is_eq (unit_cmp (place_of row) e.key))) are.soft_are
        ∙ indexed_absent (place_keys is_soft) slots all slot row are.rise are.own at (place_of row) (place_by is_soft row false (ap not is)) (place_stands is_soft (place_of row))

    pub free_due : (hard : ℕ) → find (λ e. is_eq (due_cmp (record { hard = hard; version = place_of row }) e.key)) due ≡ None
    free_due hard =
        let k : DueKey = record { hard = hard; version = place_of row } in
        ap (find (λ (e : Entry DueKey ℕ). is_eq (due_cmp k e.key))) are.due_are
        ∙ indexed_absent due_keys slots all slot row are.rise are.own at k (not_due row is) (due_stands k)

-- ---- the five indexes after a change of one slot
module _ (old new : Slab Row) (all readable live soft : List (Entry unit.Unit ℕ)) (due : List (Entry DueKey ℕ)) (slot : ℕ) (row : Row) (are : AreIndexes old all readable live soft due) where
  -- a live version is put
  pub put_indexes : find (λ e. is_eq (unit_cmp (place_of row) e.key)) all ≡ None → get old slot ≡ None → Updates old new slot (Some row) → is_live row.kind ≡ true
      → AreIndexes new (with_entry unit_cmp (entry_of (place_of row) slot) all) (with_entry unit_cmp (entry_of (place_of row) slot) readable) (with_entry unit_cmp (entry_of (place_of row) slot) live) soft due
  put_indexes none empty updates is = record {
    rise = rises_with place_total (entry_of (place_of row) slot) all are.rise (none_found (λ (e : Entry unit.Unit ℕ). is_eq (unit_cmp (place_of row) e.key)) all none);
    own = all_with place_total (LeadsToItsOwn new) (entry_of (place_of row) slot) all (subst (HasRowOf (place_of row)) (sym updates.changed) refl)
        (own_still old new all (all_still old new slot (Some row) updates empty all are.own) are.own);
    readable_are = after (place_keys is_readable) readable (Some (place_of row)) are.readable_are (place_by is_readable row true readable_is);
    live_are = after (place_keys is_live) live (Some (place_of row)) are.live_are (place_by is_live row true is);
    soft_are = after (place_keys is_soft) soft None are.soft_are (place_by is_soft row false (ap not readable_is));
    due_are = after due_keys due None are.due_are (not_due row readable_is);
  }
    where
      readable_is : is_readable row.kind ≡ true
      readable_is = live_readable row.kind is

      after : {K : Type 0} {cmp : K → K → Ordering} {key_of : Row → Option K} → IsRowKey cmp key_of → (es : List (Entry K ℕ)) (k : Option K) → es ≡ indexed cmp key_of old all → key_of row ≡ k
          → with_keyed cmp k slot es ≡ indexed cmp key_of new (with_entry unit_cmp (entry_of (place_of row) slot) all)
      after {cmp = cmp} keys es k are_those key =
          ap₂ (λ l xs. with_keyed cmp l slot xs) (sym key) are_those ∙ sym (indexed_put keys old new all slot row are.own none empty updates)

  module _ (at : IsAt old all slot row) where
    -- ---- a row is changed at its place
    module _ (changed : Row) (place : place_of changed ≡ place_of row) (updates : Updates old new slot (Some changed)) where
      own_after : AllByRecursion (LeadsToItsOwn new) all
      own_after = own_changed old new slot row changed place updates at.there all are.own

      -- an index where it keeps its key
      keeps : {K : Type 0} (cmp : K → K → Ordering) (key_of : Row → Option K) (es : List (Entry K ℕ)) → es ≡ indexed cmp key_of old all → key_of changed ≡ key_of row → es ≡ indexed cmp key_of new all
      keeps cmp key_of es are_those same =
          are_those ∙ sym (indexed_same cmp key_of old new all
          (all-members (λ (e : Entry unit.Unit ℕ). key_in key_of (get new e.value) ≡ key_in key_of (get old e.value)) all
          (λ e member. at_each old new slot (Some changed) updates (λ p q. key_in key_of q ≡ key_in key_of p) (same ∙ sym (ap (key_in key_of) at.there)) (λ p. refl) e.value)))

      -- one that it leaves
      leaves : (test : Kind → Bool) (es : List (Entry unit.Unit ℕ)) → es ≡ placed test old all → test changed.kind ≡ false → without_key unit_cmp (place_of row) es ≡ placed test new all
      leaves test es are_those fails =
          ap (without_key unit_cmp (place_of row)) are_those
          ∙ sym (indexed_change (place_keys test) old new all slot row are.rise are.own at changed place updates
          ∙ ap (λ k. with_keyed unit_cmp k slot (without_keyed unit_cmp (place_if test row) (placed test old all))) (place_by test changed false fails)
          ∙ without_place test old all slot row are.rise are.own at)

      -- one that it enters
      enters : {K : Type 0} {cmp : K → K → Ordering} {key_of : Row → Option K} → IsRowKey cmp key_of → (es : List (Entry K ℕ)) (k : K) → es ≡ indexed cmp key_of old all → key_of row ≡ None → key_of changed ≡ Some k → with_entry cmp (entry_of k slot) es ≡ indexed cmp key_of new all
      enters {cmp = cmp} {key_of = key_of} keys es k are_those none key =
          ap (with_entry cmp (entry_of k slot)) are_those
          ∙ sym (indexed_change keys old new all slot row are.rise are.own at changed place updates
          ∙ ap₂ (λ l m. with_keyed cmp l slot (without_keyed cmp m (indexed cmp key_of old all))) key none)

    -- a version whose metadata change
    pub meta_indexes : (changed : Row) → changed.kind ≡ row.kind → place_of changed ≡ place_of row → Updates old new slot (Some changed) → AreIndexes new all readable live soft due
    meta_indexes changed kind place updates = record {
      rise = are.rise;
      own = own_after changed place updates;
      readable_are = keeps changed place updates unit_cmp (place_if is_readable) readable are.readable_are (same is_readable);
      live_are = keeps changed place updates unit_cmp (place_if is_live) live are.live_are (same is_live);
      soft_are = keeps changed place updates unit_cmp (place_if is_soft) soft are.soft_are (same is_soft);
      due_are = keeps changed place updates due_cmp due_of due are.due_are (ap₂ due_at kind place);
    }
      where
        same : (test : Kind → Bool) → place_if test changed ≡ place_if test row
        same test = ap₂ (λ k p. if test k then Some p else None) kind place

    -- a live or noncurrent version that becomes noncurrent
    pub noncurrent_indexes : (t : ℕ) → is_readable row.kind ≡ true → Updates old new slot (Some (with_kind (Noncurrent t) row))
        → AreIndexes new all readable (without_key unit_cmp (place_of row) live) soft due
    noncurrent_indexes t is updates =
        let changed : Row = with_kind (Noncurrent t) row in
        record {
          rise = are.rise;
          own = own_after changed refl updates;
          readable_are = keeps changed refl updates unit_cmp (place_if is_readable) readable are.readable_are (sym (place_by is_readable row true is));
          live_are = leaves changed refl updates is_live live are.live_are refl;
          soft_are = keeps changed refl updates unit_cmp (place_if is_soft) soft are.soft_are (sym (place_by is_soft row false (ap not is)));
          due_are = keeps changed refl updates due_cmp due_of due are.due_are (sym (not_due row is));
        }

    -- one that is soft-deleted
    pub soft_indexes : (t hard : ℕ) → is_readable row.kind ≡ true → Updates old new slot (Some (with_kind (Soft t hard) row))
        → AreIndexes new all (without_key unit_cmp (place_of row) readable) (without_key unit_cmp (place_of row) live) (with_entry unit_cmp (entry_of (place_of row) slot) soft)
        (with_entry due_cmp (entry_of (record { hard = hard; version = place_of row }) slot) due)
    soft_indexes t hard is updates =
        let changed : Row = with_kind (Soft t hard) row in
        record {
          rise = are.rise;
          own = own_after changed refl updates;
          readable_are = leaves changed refl updates is_readable readable are.readable_are refl;
          live_are = leaves changed refl updates is_live live are.live_are refl;
          soft_are = enters changed refl updates (place_keys is_soft) soft (place_of row) are.soft_are (place_by is_soft row false (ap not is)) refl;
          due_are = enters changed refl updates due_keys due (record { hard = hard; version = place_of row }) are.due_are (not_due row is) refl;
        }

    -- ---- a row is taken out
    module _ (updates : Updates old new slot None) where
      rise_others : Rises unit_cmp (others_of row all)
      rise_others = rises_without place_total (place_of row) all are.rise

      own_taken : AllByRecursion (LeadsToItsOwn new) (others_of row all)
      own_taken = own_still old new (others_of row all) (others_still old new slot None updates row at.there all are.own) (own_others old row all are.own)

      -- an index where it has no key
      keeps_others : {K : Type 0} {cmp : K → K → Ordering} {key_of : Row → Option K} → IsRowKey cmp key_of → (es : List (Entry K ℕ)) → es ≡ indexed cmp key_of old all → key_of row ≡ None → es ≡ indexed cmp key_of new (others_of row all)
      keeps_others {cmp = cmp} {key_of = key_of} keys es are_those none =
          are_those ∙ sym (indexed_removal keys old new all slot row are.rise are.own at updates ∙ ap (λ k. without_keyed cmp k (indexed cmp key_of old all)) none)

      -- one by place
      loses : (test : Kind → Bool) (es : List (Entry unit.Unit ℕ)) → es ≡ placed test old all → without_key unit_cmp (place_of row) es ≡ placed test new (others_of row all)
      loses test es are_those =
          ap (without_key unit_cmp (place_of row)) are_those
          ∙ sym (indexed_removal (place_keys test) old new all slot row are.rise are.own at updates ∙ without_place test old all slot row are.rise are.own at)

    -- a live or noncurrent version
    pub out_indexes : is_readable row.kind ≡ true → Updates old new slot None
        → AreIndexes new (without_key unit_cmp (place_of row) all) (without_key unit_cmp (place_of row) readable) (without_key unit_cmp (place_of row) live) soft due
    out_indexes is updates = record {
      rise = rise_others updates;
      own = own_taken updates;
      readable_are = loses updates is_readable readable are.readable_are;
      live_are = loses updates is_live live are.live_are;
      soft_are = keeps_others updates (place_keys is_soft) soft are.soft_are (place_by is_soft row false (ap not is));
      due_are = keeps_others updates due_keys due are.due_are (not_due row is);
    }

    -- the soft-deleted version whose hard time comes first
    pub due_indexes : (d : Entry DueKey ℕ) (ds : List (Entry DueKey ℕ)) → due ≡ d ∷ ds → due_of row ≡ Some d.key → Updates old new slot None
        → AreIndexes new (without_key unit_cmp (place_of row) all) readable live (without_key unit_cmp (place_of row) soft) ds
    due_indexes d ds first key updates = record {
      rise = rise_others updates;
      own = own_taken updates;
      readable_are = keeps_others updates (place_keys is_readable) readable are.readable_are (place_by is_readable row false soft_is);
      live_are = keeps_others updates (place_keys is_live) live are.live_are (place_by is_live row false (unreadable row.kind soft_is));
      soft_are = loses updates is_soft soft are.soft_are;
      due_are = sym (indexed_removal due_keys old new all slot row are.rise are.own at updates
          ∙ ap₂ (λ k es. without_keyed due_cmp k es) key (sym are.due_are ∙ first) ∙ without_first due_total d ds rise);
    }
      where
        soft_is : is_readable row.kind ≡ false
        soft_is = due_soft row d.key key

        rise : Rises due_cmp (d ∷ ds)
        rise = subst (Rises due_cmp) (sym are.due_are ∙ first) (indexed_rises due_keys old all are.rise are.own)
