-- What is kept after a put, from what is kept before it and what each index says of its insertion.
use Rattle.std.proofs.Common.{◌≡◌, ◌∙◌, sym, ap, subst, ℕ, true, List, Option, Some, None}
use Rattle.std.specs.Arc.{arc_value}
use Rattle.std.specs.List.{find}
use Rattle.std.specs.Ordering.{is_eq}
use Rattle.std.specs.Option.{IfSome}
use Rattle.slab.specs.Slab.{Slab, get, Updates}
use Rattle.gcs_index.specs.declared.blocks.Entry.{Entry}
use Rattle.gcs_index.specs.Entries.{entry_of, with_entry, Shelf}
use Rattle.gcs_meaning.specs.declared.listing.Unit as unit
use Rattle.gcs_meaning.specs.declared.version.Row.{Row}
use Rattle.gcs_meaning.specs.Choosing.{is_live, live_row}
use Rattle.gcs_meaning.specs.Order.{place_of, unit_at, unit_cmp, AreVersions, IsNumbered}
use Rattle.gcs_meaning.specs.Put.{with_row}
use Rattle.gcs_versions.specs.declared.keys.DueKey.{DueKey}
use Rattle.gcs_versions.specs.declared.preparing.ForPut.{ForPut}
use Rattle.gcs_versions.specs.declared.preparing.ForRetirement.{ForRetirement}
use Rattle.gcs_versions.specs.Indexes.{rows_at, AreIndexes}
use Rattle.gcs_versions.specs.Kept.{IsKept, IsReadyToPut, Kept}
use Rattle.gcs_versions.specs.Ready.{put_name, retirement_name, HavePutRoom, IsForPut}
use Rattle.gcs_versions.specs.Rows.{is_version}
use Rattle.gcs_versions.proofs.Indexing.{free_live, free_readable, put_indexes}
use Rattle.gcs_versions.proofs.Keeping.{placed_kept}
use Rattle.gcs_versions.proofs.RowsAt.{rows_put, version_absent}

-- what is prepared for a put of the name: the slot and the entries that it takes are there, and each key's name is this one
put_stands : (name : List ℕ) (seen : Kept) (to_put : Option ForPut) (names : ForPut) (slots : Slab Row) (all readable live : Shelf unit.Unit ℕ)
    → IfSome to_put (λ n. HavePutRoom slots all readable live × IsForPut (arc_value n.all) n) → put_name to_put ≡ seen.to_put → IsReadyToPut name seen → to_put ≡ Some names
    → HavePutRoom slots all readable live × IsForPut name names
unfolding IsReadyToPut
put_stands name seen to_put names slots all readable live stands name_is ready is =
    let there = subst (λ (o : Option ForPut). IfSome o (λ n. HavePutRoom slots all readable live × IsForPut (arc_value n.all) n)) is stands in
    (there.0, subst (λ n. IsForPut n names) (inside (sym (ap put_name is) ∙ name_is ∙ ready)) there.1)
  where
    inside : Some (arc_value names.all) ≡ Some name → arc_value names.all ≡ name
    inside same = cc

-- what a put finds: the versions as they are kept and as they are seen, the names that were prepared, and no version of this name
-- and generation
pub record IsPutOn (seen : Kept) (old : Slab Row) (all readable live soft : Shelf unit.Unit ℕ) (due : Shelf DueKey ℕ) (to_put : Option ForPut) (to_retire : Option ForRetirement) (names : ForPut) (row : Row) : Type 0 where
  pub kept : IsKept old all readable live soft due to_put to_retire
  pub view : record { rows = rows_at old all.entries; to_put = put_name to_put; to_retire = retirement_name to_retire } ≡ seen
  pub ready : IsReadyToPut row.name seen
  pub is : to_put ≡ Some names
  pub absent : find (is_version row.name row.generation) seen.rows ≡ None

module _ {seen : Kept} {old : Slab Row} {all readable live soft : Shelf unit.Unit ℕ} {due : Shelf DueKey ℕ} {to_put : Option ForPut} {to_retire : Option ForRetirement} {names : ForPut} {row : Row}
    (on : IsPutOn seen old all readable live soft due to_put to_retire names row) where
  names_are : IsForPut row.name names
  names_are = (put_stands row.name seen to_put names old all readable live on.kept.put (ap (λ (k : Kept). k.to_put) on.view) on.ready on.is).1

  rows_are : rows_at old all.entries ≡ seen.rows
  rows_are = ap (λ (k : Kept). k.rows) on.view

  no_version : find (is_version row.name row.generation) (rows_at old all.entries) ≡ None
  no_version = ap (find (is_version row.name row.generation)) rows_are ∙ on.absent

  free : find (λ e. is_eq (unit_cmp (place_of row) e.key)) all.entries ≡ None
  free = version_absent old all.entries row.name row.generation on.kept.indexes.own no_version

  -- a key with a name that was prepared is the version's place
  key_is : (named : List ℕ) (k : unit.Unit) → named ≡ row.name → k ≡ unit_at named row.generation → k ≡ place_of row
  key_is named k same key = key ∙ ap (λ n. unit_at n row.generation) same

  no_key : (entries : List (Entry unit.Unit ℕ)) (named : List ℕ) (k : unit.Unit) → named ≡ row.name → k ≡ unit_at named row.generation
      → find (λ e. is_eq (unit_cmp (place_of row) e.key)) entries ≡ None → find (λ e. is_eq (unit_cmp k e.key)) entries ≡ None
  no_key entries named k same key none = subst (λ p. find (λ (e : Entry unit.Unit ℕ). is_eq (unit_cmp p e.key)) entries ≡ None) (sym (key_is named k same key)) none

  pub free_in_all : (k : unit.Unit) → k ≡ unit_at (arc_value names.all) row.generation → find (λ e. is_eq (unit_cmp k e.key)) all.entries ≡ None
  free_in_all k key = no_key all.entries (arc_value names.all) k names_are.all key free

  pub free_in_readable : (k : unit.Unit) → k ≡ unit_at (arc_value names.readable) row.generation → find (λ e. is_eq (unit_cmp k e.key)) readable.entries ≡ None
  free_in_readable k key = no_key readable.entries (arc_value names.readable) k names_are.readable key
      (free_readable old all.entries readable.entries live.entries soft.entries due.entries (place_of row) on.kept.indexes free)

  pub free_in_live : (k : unit.Unit) → k ≡ unit_at (arc_value names.live) row.generation → find (λ e. is_eq (unit_cmp k e.key)) live.entries ≡ None
  free_in_live k key = no_key live.entries (arc_value names.live) k names_are.live key
      (free_live old all.entries readable.entries live.entries soft.entries due.entries (place_of row) on.kept.indexes free)

  module _ (new : Slab Row) (slot : ℕ) (empty : get old slot ≡ None) (updates : Updates old new slot (Some row)) where
    -- an index has the version as well, under this key
    abbrev pub IsWith : unit.Unit → List (Entry unit.Unit ℕ) → List (Entry unit.Unit ℕ) → Type 0
    IsWith k before after = after ≡ with_entry unit_cmp (entry_of k slot) before

    placed : (before after : List (Entry unit.Unit ℕ)) (named : List ℕ) (k : unit.Unit) → named ≡ row.name → k ≡ unit_at named row.generation → IsWith k before after → IsWith (place_of row) before after
    placed before after named k same key put = put ∙ ap (λ (p : unit.Unit). with_entry unit_cmp (entry_of p slot) before) (key_is named k same key)

    rows_now : (after : List (Entry unit.Unit ℕ)) → IsWith (place_of row) all.entries after → rows_at new after ≡ with_row row (rows_at old all.entries)
    rows_now after in_all = ap (rows_at new) in_all ∙ rows_put old new all.entries slot row on.kept.indexes.rise on.kept.indexes.own free empty updates

    pub put_rows : (after : List (Entry unit.Unit ℕ)) (k : unit.Unit) → k ≡ unit_at (arc_value names.all) row.generation → IsWith k all.entries after → rows_at new after ≡ with_row row seen.rows
    put_rows after k key in_all = rows_now after (placed all.entries after (arc_value names.all) k names_are.all key in_all) ∙ ap (with_row row) rows_are

    pub put_kept : (all_new readable_new live_new : Shelf unit.Unit ℕ) (a r l : unit.Unit) → is_live row.kind ≡ true → live_row row.name seen.rows ≡ None → IsNumbered row
        → a ≡ unit_at (arc_value names.all) row.generation → r ≡ unit_at (arc_value names.readable) row.generation → l ≡ unit_at (arc_value names.live) row.generation
        → IsWith a all.entries all_new.entries → IsWith r readable.entries readable_new.entries → IsWith l live.entries live_new.entries
        → IsKept new all_new readable_new live_new soft due None to_retire
    put_kept all_new readable_new live_new a r l is none numbered all_key readable_key live_key put_all put_readable put_live =
        let in_all = placed all.entries all_new.entries (arc_value names.all) a names_are.all all_key put_all in
        let in_readable = placed readable.entries readable_new.entries (arc_value names.readable) r names_are.readable readable_key put_readable in
        let in_live = placed live.entries live_new.entries (arc_value names.live) l names_are.live live_key put_live in
        let made = put_indexes old new all.entries readable.entries live.entries soft.entries due.entries slot row on.kept.indexes free empty updates is in
        let with_it = λ (l : List (Entry unit.Unit ℕ)). with_entry unit_cmp (entry_of (place_of row) slot) l in
        record {
          indexes = subst (λ l. AreIndexes new l readable_new.entries live_new.entries soft.entries due.entries) (sym in_all)
              (subst (λ l. AreIndexes new (with_it all.entries) l live_new.entries soft.entries due.entries) (sym in_readable)
              (subst (λ l. AreIndexes new (with_it all.entries) (with_it readable.entries) l soft.entries due.entries) (sym in_live) made));
          versions = subst AreVersions (sym (rows_now all_new.entries in_all))
              (placed_kept row (rows_at old all.entries) no_version (ap (live_row row.name) rows_are ∙ none) numbered on.kept.versions);
          put = tt;
          retire = on.kept.retire;
        }
