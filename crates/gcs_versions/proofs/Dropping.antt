-- What is kept once the soft-deleted version whose hard time comes first is taken away.
use Rattle.std.proofs.Common.{◌≡◌, ◌∙◌, ◌<◌, ◌≤◌, sym, ap, refl, subst, ℕ, Bool, true, false, List, [], ◌∷◌, Option, Some, None, length, arith}
use Rattle.std.specs.Prelude.{not, if◌then◌else◌}
use Rattle.std.specs.List.{find, list_any}
use Rattle.std.specs.Option.{OnSome}
use Rattle.slab.specs.Slab.{Slab, get, HasRoomFor, Updates}
use Rattle.gcs_index.specs.declared.blocks.Entry.{Entry}
use Rattle.gcs_index.specs.Entries.{value_in, without_key, Rises, Shelf}
use Rattle.gcs_meaning.specs.declared.listing.Unit as unit
use Rattle.gcs_meaning.specs.declared.policy.Retired.TheVariants.{Out}
use Rattle.gcs_meaning.specs.declared.version.Row.{Row}
use Rattle.gcs_meaning.specs.Aging.{aged_rows, kind_stays}
use Rattle.gcs_meaning.specs.Order.{place_of, unit_cmp, AreVersions}
use Rattle.gcs_meaning.specs.Retiring.{change_first}
use Rattle.gcs_versions.specs.declared.keys.DueKey.{DueKey}
use Rattle.gcs_versions.specs.declared.preparing.ForPut.{ForPut}
use Rattle.gcs_versions.specs.declared.preparing.ForRetirement.{ForRetirement}
use Rattle.gcs_versions.specs.Indexes.{rows_at, slot_row, AreIndexes}
use Rattle.gcs_versions.specs.Keys.{due_cmp}
use Rattle.gcs_versions.specs.Kept.{IsKept}
use Rattle.gcs_versions.specs.Rows.{is_version}
use Rattle.gcs_versions.proofs.Due.{aged_drop, due_leads, first_due, gone_at, IsDueAt}
use Rattle.gcs_versions.proofs.Growing.{if_some}
use Rattle.gcs_versions.proofs.Indexing.{due_indexes, due_is, due_keys, indexed_rises}
use Rattle.gcs_versions.proofs.Keeping.{retired_kept}
use Rattle.gcs_versions.proofs.RowsAt.{rows_removal, version_found}

-- a list without its first item that passes is shorter
fewer : {X : Type 0} (p : X → Bool) (x : X) (xs : List X) → find p xs ≡ Some x → length (change_first p (λ y. []) xs) < length xs
fewer p x [] is = absurd (cc)
fewer {X = X} p x (y ∷ ys) is = by (p y) refl is (fewer p x ys)
  where
    by : (b : Bool) → p y ≡ b → (if b then Some y else find p ys) ≡ Some x → (find p ys ≡ Some x → length (change_first p (λ z. []) ys) < length ys)
        → length (if b then ys else y ∷ change_first p (λ (z : X). []) ys) < length (y ∷ ys)
    by true e is later = omega arith
    by false e is later = omega (arith, later is)

module _ {old : Slab Row} {all readable live soft : Shelf unit.Unit ℕ} {due : Shelf DueKey ℕ} {to_put : Option ForPut} {to_retire : Option ForRetirement} (d : Entry DueKey ℕ) (ds : List (Entry DueKey ℕ))
    (kept : IsKept old all readable live soft due to_put to_retire) (first : due.entries ≡ d ∷ ds) where
  leads : IsDueAt old all.entries d
  leads = due_leads old all.entries d ds kept.indexes.rise kept.indexes.own (sym kept.indexes.due_are ∙ first)

  key_is : d.key.version ≡ place_of leads.row
  key_is = due_is leads.row d.key leads.key

  found : find (is_version leads.row.name leads.row.generation) (rows_at old all.entries) ≡ Some leads.row
  found = version_found old all.entries leads.row.name leads.row.generation kept.indexes.own
      ∙ ap (λ (o : Option (Entry unit.Unit ℕ)). slot_row old (value_in o)) leads.at.found ∙ leads.at.there

  -- the slot that is emptied had a version
  pub was_there : {P : Type 0} (result : Option Row) → result ≡ get old d.value → OnSome result P → P
  was_there {P = P} result taken holds = subst (λ (o : Option Row). OnSome o P) (taken ∙ leads.at.there) holds

  module _ (new : Slab Row) (updates : Updates old new d.value None) (all_new : Shelf unit.Unit ℕ) (in_all : all_new.entries ≡ without_key unit_cmp d.key.version all.entries) where
    rows_now : rows_at new all_new.entries ≡ change_first (is_version leads.row.name leads.row.generation) (λ r. []) (rows_at old all.entries)
    rows_now =
        ap (rows_at new) (in_all ∙ ap (λ k. without_key unit_cmp k all.entries) key_is)
        ∙ rows_removal old new all.entries d.value leads.row (λ r. []) kept.indexes.rise kept.indexes.own leads.at.found leads.at.there refl updates

    pub fewer_now : length (rows_at new all_new.entries) < length (rows_at old all.entries)
    fewer_now = subst (λ rows. length rows < length (rows_at old all.entries)) (sym rows_now) (fewer (is_version leads.row.name leads.row.generation) leads.row (rows_at old all.entries) found)

    pub aged_now : (t : ℕ) → list_any (λ row. not (kind_stays t row.kind)) (rows_at old all.entries) ≡ true → aged_rows t (rows_at new all_new.entries) ≡ aged_rows t (rows_at old all.entries)
    aged_now t some_due =
        let rises = subst (Rises due_cmp) (sym kept.indexes.due_are ∙ first) (indexed_rises due_keys old all.entries kept.indexes.rise kept.indexes.own) in
        let come = sym (first_due old all.entries t d ds kept.indexes.own (sym kept.indexes.due_are ∙ first) rises) ∙ some_due in
        ap (aged_rows t) rows_now ∙ aged_drop t leads.row (rows_at old all.entries) found (gone_at t leads.row.kind (place_of leads.row) d.key leads.key come)

    pub dropped_kept : (soft_new : Shelf unit.Unit ℕ) (due_new : Shelf DueKey ℕ) → soft_new.entries ≡ without_key unit_cmp d.key.version soft.entries → due_new.entries ≡ ds
        → HasRoomFor new 1 → all.spare ≤ all_new.spare → soft.spare ≤ soft_new.spare → due.spare ≤ due_new.spare → IsKept new all_new readable live soft_new due_new to_put to_retire
    dropped_kept soft_new due_new in_soft in_due room a s e =
        let made = due_indexes old new all.entries readable.entries live.entries soft.entries due.entries d.value leads.row kept.indexes leads.at d ds first leads.key updates in
        record {
          indexes = subst (λ l. AreIndexes new l readable.entries live.entries soft_new.entries due_new.entries) (sym (in_all ∙ ap (λ k. without_key unit_cmp k all.entries) key_is))
              (subst (λ l. AreIndexes new (without_key unit_cmp (place_of leads.row) all.entries) readable.entries live.entries l due_new.entries) (sym (in_soft ∙ ap (λ k. without_key unit_cmp k soft.entries) key_is))
              (subst (λ l. AreIndexes new (without_key unit_cmp (place_of leads.row) all.entries) readable.entries live.entries (without_key unit_cmp (place_of leads.row) soft.entries) l) (sym in_due) made));
          versions = subst AreVersions (sym rows_now) (retired_kept Out 0 (is_version leads.row.name leads.row.generation) (rows_at old all.entries) kept.versions);
          put = if_some to_put (λ names stands. (record { free_slot = room; in_all = omega (arith, stands.0.in_all, a); in_readable = stands.0.in_readable; in_live = stands.0.in_live }, stands.1)) kept.put;
          retire = if_some to_retire (λ names stands. (record { in_soft = omega (arith, stands.0.in_soft, s); in_due = omega (arith, stands.0.in_due, e) }, stands.1)) kept.retire;
        }
