-- Copies of slots and of indexes have the same rows.
use Rattle.std.proofs.Common.{◌≡◌, ◌∙◌, sym, ap, subst, ℕ, List, Option, Some, None}
use Rattle.std.specs.Prelude.{slice_index_or}
use Rattle.std.specs.List.{AllByRecursion}
use Rattle.std.specs.declared.cmp.Ordering.{Ordering}
use Rattle.std.proofs.lemmas.List.Elements.{same_from_all_zip}
use Rattle.slab.specs.Slab.{Slab, IsSlabClone, IsSlotClone}
use Rattle.gcs_index.specs.declared.blocks.Entry.{Entry}
use Rattle.gcs_index.specs.Entries.{Rises}
use Rattle.gcs_meaning.specs.declared.listing.Unit as unit
use Rattle.gcs_meaning.specs.declared.version.Row.{Row}
use Rattle.gcs_meaning.specs.Choosing.{is_live, is_readable}
use Rattle.gcs_meaning.specs.Order.{unit_cmp}
use Rattle.gcs_meaning.proofs.Listed.{all-members}
use Rattle.gcs_versions.specs.declared.keys.DueKey.{DueKey}
use Rattle.gcs_versions.specs.Indexes.{indexed, is_soft, rows_at, AreIndexes, LeadsToItsOwn}
use Rattle.gcs_versions.specs.Keys.{due_cmp, due_of, place_if}
use Rattle.gcs_versions.proofs.Indexing.{indexed_still, own_still, IsStill}
use Rattle.gcs_versions.proofs.RowsAt.{rows_stay}

-- a row is copied to one that equals it
abbrev IsCopy : Row → Row → Type 0
IsCopy row made = made ≡ row

-- the copy of a slot equals it
slot_copied : (slot made : Option Row) → IsSlotClone IsCopy slot made → made ≡ slot
slot_copied None made is = is
slot_copied (Some row) None is = absurd is
slot_copied (Some row) (Some made) is = ap Some is

module _ {old new : Slab Row} (copied : IsSlabClone IsCopy old new) where
  -- entries lead to the same rows
  leads_still : (es : List (Entry unit.Unit ℕ)) → AllByRecursion (IsStill old new) es
  leads_still es =
      all-members (IsStill old new) es
      (λ e member. ap (λ slots. slice_index_or slots e.value None) (same_from_all_zip (IsSlotClone IsCopy) old.slots new.slots copied.slots slot_copied))

  -- the same entries lead to the same rows
  pub rows_copied : {es made : List (Entry unit.Unit ℕ)} → made ≡ es → rows_at new made ≡ rows_at old es
  rows_copied {es = es} same = ap (rows_at new) same ∙ rows_stay old new es (leads_still es)

  module _ {all all_made : List (Entry unit.Unit ℕ)} (all_same : all_made ≡ all) where
    -- an index holds what it did
    index_copied : {K : Type 0} (cmp : K → K → Ordering) (key_of : Row → Option K) {es made : List (Entry K ℕ)} → made ≡ es → es ≡ indexed cmp key_of old all → made ≡ indexed cmp key_of new all_made
    index_copied cmp key_of same are = same ∙ are ∙ sym (ap (indexed cmp key_of new) all_same ∙ indexed_still cmp key_of old new all (leads_still all))

    -- and so do all five
    pub indexes_copied : {readable readable_made live live_made soft soft_made : List (Entry unit.Unit ℕ)} {due due_made : List (Entry DueKey ℕ)} → readable_made ≡ readable → live_made ≡ live → soft_made ≡ soft → due_made ≡ due
        → AreIndexes old all readable live soft due → AreIndexes new all_made readable_made live_made soft_made due_made
    indexes_copied readable_same live_same soft_same due_same are = record {
      rise = subst (Rises unit_cmp) (sym all_same) are.rise;
      own = subst (AllByRecursion (LeadsToItsOwn new)) (sym all_same) (own_still old new all (leads_still all) are.own);
      readable_are = index_copied unit_cmp (place_if is_readable) readable_same are.readable_are;
      live_are = index_copied unit_cmp (place_if is_live) live_same are.live_are;
      soft_are = index_copied unit_cmp (place_if is_soft) soft_same are.soft_are;
      due_are = index_copied due_cmp due_of due_same are.due_are;
    }
