-- A version in its slot, where it is changed or retired.
use Rattle.std.proofs.Common.{◌≡◌, ◌≢◌, ◌≤◌, ◌∙◌, sym, ap, refl, subst, subst₂, ℕ, Bool, true, false, List, [], ◌∷◌, Option, Some, None, arith}
use Rattle.std.specs.Prelude.{if◌then◌else◌}
use mathlib.Core.Path.{subst₃}
use Rattle.std.specs.Arc.{arc_value}
use Rattle.std.specs.List.{AllByRecursion, find}
use Rattle.std.specs.Option.{IfSome}
use Rattle.std.specs.Ordering.{is_eq}
use Rattle.std.proofs.lemmas.Option.{IfSome_then}
use Rattle.slab.specs.Slab.{Slab, get, HasRoomFor, Updates}
use Rattle.gcs_index.specs.declared.blocks.Entry.{Entry}
use Rattle.gcs_index.specs.Entries.{entry_of, value_in, with_entry, without_key, Rises, Shelf}
use Rattle.gcs_meaning.specs.declared.listing.Unit as unit
use Rattle.gcs_meaning.specs.declared.settings.Meta.{Meta}
use Rattle.gcs_meaning.specs.declared.policy.Retired.{Retired}
use Rattle.gcs_meaning.specs.declared.policy.Retired.TheVariants.{Noncurrent as ToNoncurrent, Soft as ToSoft, Out}
use Rattle.gcs_meaning.specs.declared.version.Kind.TheVariants.{Noncurrent, Soft}
use Rattle.gcs_meaning.specs.declared.version.Row.{Row}
use Rattle.gcs_meaning.specs.Choosing.{chosen_row, is_readable}
use Rattle.gcs_meaning.specs.Order.{place_of, unit_at, unit_cmp, AreVersions, Rise}
use Rattle.gcs_meaning.specs.Retiring.{change_first, retired_row}
use Rattle.gcs_meaning.proofs.Chosen.{all-find}
use Rattle.gcs_versions.specs.declared.keys.DueKey.{DueKey}
use Rattle.gcs_versions.specs.declared.preparing.ForPut.{ForPut}
use Rattle.gcs_versions.specs.declared.preparing.ForRetirement.{ForRetirement}
use Rattle.gcs_versions.specs.Indexes.{rows_at, slot_row, AreIndexes, IsAt, LeadsToItsOwn}
use Rattle.gcs_versions.specs.Keys.{due_cmp}
use Rattle.gcs_versions.specs.Kept.{IsKept}
use Rattle.gcs_versions.specs.Ready.{retirement_name, HavePutRoom, HaveRetirementRoom, IsForPut, IsForRetirement}
use Rattle.gcs_versions.specs.Rows.{changed_version, is_version, with_kind}
use Rattle.gcs_versions.proofs.Choices.{chosen_version}
use Rattle.gcs_versions.proofs.Finding.{first_if}
use Rattle.gcs_versions.proofs.Indexing.{free_due, free_soft, meta_indexes, noncurrent_indexes, out_indexes, soft_indexes}
use Rattle.gcs_versions.proofs.Keeping.{meta_kept, retired_kept}
use Rattle.gcs_versions.proofs.RowsAt.{led, rows_change, rows_removal, version_found, version_there, IsThere}

-- the slot has the version of this name and generation
pub record HasVersion (slots : Slab Row) (all : List (Entry unit.Unit ℕ)) (name : List ℕ) (generation slot : ℕ) : Type 0 where
  pub row : Row
  pub found : find (is_version name generation) (rows_at slots all) ≡ Some row
  pub place : place_of row ≡ unit_at name generation
  pub at : IsAt slots all slot row

-- ---- the slot of a version
module _ (slots : Slab Row) (all : List (Entry unit.Unit ℕ)) (name : List ℕ) (generation : ℕ) (own : AllByRecursion (LeadsToItsOwn slots) all) where
  -- where none is found the version isn't there
  pub no_version : None ≡ value_in (find (λ e. is_eq (unit_cmp (unit_at name generation) e.key)) all) → find (is_version name generation) (rows_at slots all) ≡ None
  no_version none = version_found slots all name generation own ∙ ap (slot_row slots) (sym none)

  -- the slot that is found has it
  pub has_version : (slot : ℕ) → Some slot ≡ value_in (find (λ e. is_eq (unit_cmp (unit_at name generation) e.key)) all) → HasVersion slots all name generation slot
  has_version slot is = by (find (λ e. is_eq (unit_cmp (unit_at name generation) e.key)) all) refl is
    where
      inside : (a b : ℕ) → Some a ≡ Some b → a ≡ b
      inside a b same = cc

      there : (row : Row) → find (is_version name generation) (rows_at slots all) ≡ Some row → IsThere slots all name generation row → HasVersion slots all name generation slot
      there row found is_there = record {
        row = row;
        found = found;
        place = is_there.place;
        at = subst (λ s. IsAt slots all s row) (inside is_there.slot slot (sym (ap value_in is_there.entry) ∙ sym is)) is_there.at;
      }

      by : (o : Option (Entry unit.Unit ℕ)) → find (λ e. is_eq (unit_cmp (unit_at name generation) e.key)) all ≡ o → Some slot ≡ value_in o → HasVersion slots all name generation slot
      by None f same = absurd (cc)
      by (Some e) f same =
          let first = led slots e (all-find (LeadsToItsOwn slots) (λ (x : Entry unit.Unit ℕ). is_eq (unit_cmp (unit_at name generation) x.key)) e all f own) in
          let found = version_found slots all name generation own ∙ ap (λ o. slot_row slots (value_in o)) f ∙ first.here in
          there first.row found (version_there slots all name generation first.row own found)

-- ---- a version that is chosen
-- there is none where the version isn't there
pub none_chosen : (name : List ℕ) (generation : ℕ) (rows : List Row) → Rise rows → find (is_version name generation) rows ≡ None → chosen_row name (Some generation) rows ≡ None
none_chosen name generation rows rise none = chosen_version name generation rows rise ∙ ap (first_if (λ (row : Row). is_readable row.kind)) none

-- it is live or noncurrent
pub chosen_readable : (name : List ℕ) (generation : ℕ) (row : Row) (rows : List Row) → Rise rows → find (is_version name generation) rows ≡ Some row
    → chosen_row name (Some generation) rows ≢ None → is_readable row.kind ≡ true
chosen_readable name generation row rows rise found there = by (is_readable row.kind) refl
  where
    by : (b : Bool) → is_readable row.kind ≡ b → b ≡ true
    by true e = refl
    by false e =
        absurd (there (chosen_version name generation rows rise ∙ ap (first_if (λ (r : Row). is_readable r.kind)) found ∙ ap (λ t. if t then Some row else None) e))

-- ---- the version in a slot
module _ {old : Slab Row} {all : List (Entry unit.Unit ℕ)} {name : List ℕ} {generation slot : ℕ} (has : HasVersion old all name generation slot) where
  -- what a change says of the row in the slot it says of the version
  pub updated : (new : Slab Row) (becomes : Row → Row) → IfSome (get old slot) (λ row. Updates old new slot (Some (becomes row))) → Updates old new slot (Some (becomes has.row))
  updated new becomes updates = subst (λ o. IfSome o (λ row. Updates old new slot (Some (becomes row)))) has.at.there updates

  -- an index without a key of this name and generation is without the version's place
  without_it : (key : unit.Unit) (es later : List (Entry unit.Unit ℕ)) → key ≡ unit_at name generation → later ≡ without_key unit_cmp key es → without_key unit_cmp (place_of has.row) es ≡ later
  without_it key es later key_is is = ap (λ k. without_key unit_cmp k es) (has.place ∙ sym key_is) ∙ sym is

  module _ (new : Slab Row) (rise : Rises unit_cmp all) (own : AllByRecursion (LeadsToItsOwn old) all) (f : Row → List Row) where
    -- the test of its own name and generation is that of these
    by_place : change_first (is_version has.row.name has.row.generation) f (rows_at old all) ≡ change_first (is_version name generation) f (rows_at old all)
    by_place = ap (λ (u : unit.Unit). change_first (is_version u.text u.number) f (rows_at old all)) has.place

    -- the version changes among the rows
    pub changed_rows : (changed : Row) → f has.row ≡ changed ∷ [] → Updates old new slot (Some changed) → rows_at new all ≡ change_first (is_version name generation) f (rows_at old all)
    changed_rows changed becomes updates = rows_change old new all slot has.row changed f rise own has.at.found has.at.there becomes updates ∙ by_place

    -- the version goes from the rows
    pub removed_rows : (key : unit.Unit) (later : List (Entry unit.Unit ℕ)) → key ≡ unit_at name generation → later ≡ without_key unit_cmp key all → f has.row ≡ [] → Updates old new slot None
        → rows_at new later ≡ change_first (is_version name generation) f (rows_at old all)
    removed_rows key later key_is is becomes updates =
        ap (rows_at new) (sym (without_it key all later key_is is))
        ∙ rows_removal old new all slot has.row f rise own has.at.found has.at.there becomes updates ∙ by_place

  -- the indexes that it enters where it is soft-deleted don't have its key yet
  module _ {readable live soft : List (Entry unit.Unit ℕ)} {due : List (Entry DueKey ℕ)} (are : AreIndexes old all readable live soft due) (is : is_readable has.row.kind ≡ true)
      (key : unit.Unit) (key_is : key ≡ unit_at name generation) where
    pub soft_free : find (λ e. is_eq (unit_cmp key e.key)) soft ≡ None
    soft_free =
        ap (λ k. find (λ (e : Entry unit.Unit ℕ). is_eq (unit_cmp k e.key)) soft) (key_is ∙ sym has.place)
        ∙ free_soft old all readable live soft due slot has.row are has.at is

    pub due_free : (hard : ℕ) → find (λ e. is_eq (due_cmp (record { hard = hard; version = key }) e.key)) due ≡ None
    due_free hard =
        ap (λ k. find (λ (e : Entry DueKey ℕ). is_eq (due_cmp (record { hard = hard; version = k }) e.key)) due) (key_is ∙ sym has.place)
        ∙ free_due old all readable live soft due slot has.row are has.at is hard

-- ---- what is prepared
-- a put stays prepared where no room is lost
pub still_room : (slots new : Slab Row) (all all_new readable readable_new live live_new : Shelf unit.Unit ℕ) (to_put : Option ForPut) → (HasRoomFor slots 1 → HasRoomFor new 1)
    → all.spare ≤ all_new.spare → readable.spare ≤ readable_new.spare → live.spare ≤ live_new.spare
    → IfSome to_put (λ names. HavePutRoom slots all readable live × IsForPut (arc_value names.all) names) → IfSome to_put (λ names. HavePutRoom new all_new readable_new live_new × IsForPut (arc_value names.all) names)
still_room slots new all all_new readable readable_new live live_new to_put room in_all in_readable in_live put = IfSome_then to_put put (λ names ready. (kept ready.0, ready.1))
  where
    kept : HavePutRoom slots all readable live → HavePutRoom new all_new readable_new live_new
    kept ready = record {
      free_slot = room ready.free_slot;
      in_all = omega (arith, ready.in_all, in_all);
      in_readable = omega (arith, ready.in_readable, in_readable);
      in_live = omega (arith, ready.in_live, in_live);
    }

-- what is prepared for a retirement of a name has that name
pub prepared_for : (soft : Shelf unit.Unit ℕ) (due : Shelf DueKey ℕ) (o : Option ForRetirement) (names : ForRetirement) (name : List ℕ) → o ≡ Some names → retirement_name o ≡ Some name
    → IfSome o (λ n. HaveRetirementRoom soft due × IsForRetirement (arc_value n.due) n) → IsForRetirement name names
prepared_for soft due o names name is ready prepared =
    subst (λ n. IsForRetirement n names) (inside (arc_value names.due) name (sym (ap retirement_name is) ∙ ready))
    (subst (λ p. IfSome p (λ n. HaveRetirementRoom soft due × IsForRetirement (arc_value n.due) n)) is prepared).1
  where
    inside : (a b : List ℕ) → Some a ≡ Some b → a ≡ b
    inside a b same = cc

-- ---- what always holds, after a change in the slot of a version
module _ {slots : Slab Row} {all readable live soft : Shelf unit.Unit ℕ} {due : Shelf DueKey ℕ} {to_put : Option ForPut} {to_retire : Option ForRetirement} {name : List ℕ} {generation slot : ℕ}
    (kept : IsKept slots all readable live soft due to_put to_retire) (has : HasVersion slots all.entries name generation slot) (new : Slab Row) where
  -- the version has other metadata
  pub meta_stands : (meta : Meta) (start t : ℕ) → Updates slots new slot (Some (changed_version meta start t has.row)) → (HasRoomFor slots 1 → HasRoomFor new 1)
      → IsKept new all readable live soft due to_put to_retire
  meta_stands meta start t updates room =
      let changed = changed_version meta start t has.row in
      record {
        indexes = meta_indexes slots new all.entries readable.entries live.entries soft.entries due.entries slot has.row kept.indexes has.at changed refl refl updates;
        versions = subst AreVersions (sym (changed_rows has new kept.indexes.rise kept.indexes.own (λ row. changed_version meta start t row ∷ []) changed refl updates))
            (meta_kept meta start t (is_version name generation) (rows_at slots all.entries) kept.versions);
        put = still_room slots new all all readable readable live live to_put room (omega arith) (omega arith) (omega arith) kept.put;
        retire = kept.retire;
      }

  -- ---- the version is retired, by what was prepared for it
  module _ (none : Option ForRetirement) (taken : none ≡ None) (key : unit.Unit) (key_is : key ≡ unit_at name generation) (is : is_readable has.row.kind ≡ true) (t : ℕ)
      (live_new : Shelf unit.Unit ℕ) (left : live_new.entries ≡ without_key unit_cmp key live.entries) (live_spare : live.spare ≤ live_new.spare) where
    -- the rows stay a bucket's versions
    still_versions : (to : Retired) (rows : List Row) → rows ≡ change_first (is_version name generation) (retired_row to t) (rows_at slots all.entries) → AreVersions rows
    still_versions to rows are = subst AreVersions (sym are) (retired_kept to t (is_version name generation) (rows_at slots all.entries) kept.versions)

    -- nothing is prepared any more
    none_prepared : (soft_new : Shelf unit.Unit ℕ) (due_new : Shelf DueKey ℕ) → IfSome none (λ names. HaveRetirementRoom soft_new due_new × IsForRetirement (arc_value names.due) names)
    none_prepared soft_new due_new = subst (λ o. IfSome o (λ names. HaveRetirementRoom soft_new due_new × IsForRetirement (arc_value names.due) names)) (sym taken) tt

    -- to noncurrent
    pub noncurrent_stands : Updates slots new slot (Some (with_kind (Noncurrent t) has.row)) → (HasRoomFor slots 1 → HasRoomFor new 1) → IsKept new all readable live_new soft due to_put none
    noncurrent_stands updates room = record {
      indexes = subst (λ es. AreIndexes new all.entries readable.entries es soft.entries due.entries) (without_it has key live.entries live_new.entries key_is left)
          (noncurrent_indexes slots new all.entries readable.entries live.entries soft.entries due.entries slot has.row kept.indexes has.at t is updates);
      versions = still_versions ToNoncurrent (rows_at new all.entries)
          (changed_rows has new kept.indexes.rise kept.indexes.own (retired_row ToNoncurrent t) (with_kind (Noncurrent t) has.row) refl updates);
      put = still_room slots new all all readable readable live live_new to_put room (omega arith) (omega arith) live_spare kept.put;
      retire = none_prepared soft due;
    }

    module _ (readable_new : Shelf unit.Unit ℕ) (gone : readable_new.entries ≡ without_key unit_cmp key readable.entries) (readable_spare : readable.spare ≤ readable_new.spare) where
      -- to soft-deleted until a hard time
      pub soft_stands : (hard : ℕ) (soft_new : Shelf unit.Unit ℕ) (due_new : Shelf DueKey ℕ) (version : unit.Unit) → version ≡ unit_at name generation
          → soft_new.entries ≡ with_entry unit_cmp (entry_of key slot) soft.entries
          → due_new.entries ≡ with_entry due_cmp (entry_of (record { hard = hard; version = version }) slot) due.entries
          → Updates slots new slot (Some (with_kind (Soft t hard) has.row)) → (HasRoomFor slots 1 → HasRoomFor new 1) → IsKept new all readable_new live_new soft_new due_new to_put none
      soft_stands hard soft_new due_new version version_is entered timed updates room = record {
        indexes = subst₂ (λ es ds. AreIndexes new all.entries readable_new.entries live_new.entries es ds)
            (sym (entered ∙ ap (λ k. with_entry unit_cmp (entry_of k slot) soft.entries) (key_is ∙ sym has.place)))
            (sym (timed ∙ ap (λ k. with_entry due_cmp (entry_of (record { hard = hard; version = k }) slot) due.entries) (version_is ∙ sym has.place)))
            (subst₂ (λ es fs. AreIndexes new all.entries es fs (with_entry unit_cmp (entry_of (place_of has.row) slot) soft.entries)
            (with_entry due_cmp (entry_of (record { hard = hard; version = place_of has.row }) slot) due.entries))
            (without_it has key readable.entries readable_new.entries key_is gone) (without_it has key live.entries live_new.entries key_is left)
            (soft_indexes slots new all.entries readable.entries live.entries soft.entries due.entries slot has.row kept.indexes has.at t hard is updates));
        versions = still_versions (ToSoft hard) (rows_at new all.entries)
            (changed_rows has new kept.indexes.rise kept.indexes.own (retired_row (ToSoft hard) t) (with_kind (Soft t hard) has.row) refl updates);
        put = still_room slots new all all readable readable_new live live_new to_put room (omega arith) readable_spare live_spare kept.put;
        retire = none_prepared soft_new due_new;
      }

      -- out of the versions
      pub out_stands : (all_new : Shelf unit.Unit ℕ) → all_new.entries ≡ without_key unit_cmp key all.entries → all.spare ≤ all_new.spare → Updates slots new slot None → HasRoomFor new 1
          → IsKept new all_new readable_new live_new soft due to_put none
      out_stands all_new out all_spare updates room = record {
        indexes = subst₃ (λ es fs gs. AreIndexes new es fs gs soft.entries due.entries) (without_it has key all.entries all_new.entries key_is out)
            (without_it has key readable.entries readable_new.entries key_is gone) (without_it has key live.entries live_new.entries key_is left)
            (out_indexes slots new all.entries readable.entries live.entries soft.entries due.entries slot has.row kept.indexes has.at is updates);
        versions = still_versions Out (rows_at new all_new.entries)
            (removed_rows has new kept.indexes.rise kept.indexes.own (retired_row Out t) key all_new.entries key_is out refl updates);
        put = still_room slots new all all_new readable readable_new live live_new to_put (λ had. room) all_spare readable_spare live_spare kept.put;
        retire = none_prepared soft due;
      }
