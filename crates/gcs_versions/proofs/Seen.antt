-- What searches of the indexes say of the rows that are seen.
use Rattle.std.proofs.Common.{◌≡◌, ◌∙◌, refl, sym, ap, subst, ℕ, ◌+◌, drop, Bool, false, List, [], ◌∷◌, Option, Some, None, length, arith}
use Rattle.std.specs.Prelude.{not, ◌==◌, nat_le, slice_get}
use Rattle.std.specs.Cmp.Lexicographic.{slice_cmp}
use Rattle.std.specs.List.{find, list_any}
use Rattle.std.specs.Ordering.{is_eq, is_gt, nat_cmp}
use Rattle.slab.specs.Slab.{Slab}
use Rattle.gcs_index.specs.declared.blocks.Entry.{Entry}
use Rattle.gcs_index.specs.Entries.{value_in, Rises}
use Rattle.gcs_index.specs.Looks.{fewer_entries, AreLooks}
use Rattle.gcs_meaning.specs.declared.listing.Unit as unit
use Rattle.gcs_meaning.specs.declared.listing.View.{View}
use Rattle.gcs_meaning.specs.declared.version.Kind.{Kind}
use Rattle.gcs_meaning.specs.declared.version.Row.{Row}
use Rattle.gcs_meaning.specs.Aging.{kind_stays}
use Rattle.gcs_meaning.specs.BucketDeletion.{latest_hard}
use Rattle.gcs_meaning.specs.Choosing.{is_readable, live_row}
use Rattle.gcs_meaning.specs.Order.{is_at_least, is_shown, shown_rows, unit_at, unit_cmp}
use Rattle.gcs_versions.specs.declared.keys.DueKey.{DueKey}
use Rattle.gcs_versions.specs.Indexes.{placed, rows_at, slot_row, AreIndexes}
use Rattle.gcs_versions.specs.Keys.{due_cmp}
use Rattle.gcs_versions.specs.Rows.{is_version}
use Rattle.gcs_versions.proofs.Due.{first_due, latest_due, none_due, none_latest, starts}
use Rattle.gcs_versions.proofs.Indexing.{due_keys, indexed_rises}
use Rattle.gcs_versions.proofs.RowsAt.{any_readable, length_rows, live_found, placed_fewer, shown_found, version_found}

-- behind all elements there is none
pub none_behind : {X : Type 0} (xs : List X) → slice_get xs (length xs) ≡ None
none_behind [] = refl
none_behind (x ∷ xs) = none_behind xs

module _ {slots : Slab Row} {all readable live soft : List (Entry unit.Unit ℕ)} {due : List (Entry DueKey ℕ)} {rows : List Row} (are : AreIndexes slots all readable live soft due) (seen : rows_at slots all ≡ rows) where
  -- ---- searches
  -- of all versions
  pub version_seen : (name bytes : List ℕ) (generation : ℕ) (slot : Option ℕ) → bytes ≡ name → slot ≡ value_in (find (λ e. is_eq (unit_cmp (unit_at bytes generation) e.key)) all)
      → slot_row slots slot ≡ find (is_version name generation) rows
  version_seen name bytes generation slot same found =
      ap (slot_row slots) (found ∙ ap (λ n. value_in (find (λ (e : Entry unit.Unit ℕ). is_eq (unit_cmp (unit_at n generation) e.key)) all)) same)
      ∙ sym (version_found slots all name generation are.own) ∙ ap (find (is_version name generation)) seen

  -- of the live ones
  pub live_seen : (name bytes : List ℕ) (slot : Option ℕ) → bytes ≡ name → slot ≡ value_in (find (λ e. is_eq (slice_cmp nat_cmp bytes e.key.text)) live)
      → slot_row slots slot ≡ live_row name rows
  live_seen name bytes slot same found =
      ap (slot_row slots)
      (found ∙ ap (λ n. value_in (find (λ (e : Entry unit.Unit ℕ). is_eq (slice_cmp nat_cmp n e.key.text)) live)) same
      ∙ ap (λ es. value_in (find (λ (e : Entry unit.Unit ℕ). is_eq (slice_cmp nat_cmp name e.key.text)) es)) are.live_are)
      ∙ sym (live_found slots all name are.rise are.own) ∙ ap (live_row name) seen

  -- of those that a view shows
  pub shown_seen : (view : View) (bound : unit.Unit) (es : List (Entry unit.Unit ℕ)) (n : ℕ) (entry : Option (Entry unit.Unit ℕ)) → es ≡ placed (is_shown view) slots all
      → slice_get es n ≡ find (λ e. not (is_gt (unit_cmp bound e.key))) es → slice_get es n ≡ entry
      → slot_row slots (value_in entry) ≡ find (is_at_least bound) (shown_rows view rows)
  shown_seen view bound es n entry those found is =
      ap (λ o. slot_row slots (value_in o)) (sym is ∙ found ∙ ap (find (λ (e : Entry unit.Unit ℕ). not (is_gt (unit_cmp bound e.key)))) those)
      ∙ sym (shown_found view slots all bound are.rise are.own) ∙ ap (λ rs. find (is_at_least bound) (shown_rows view rs)) seen

  -- ---- looks
  -- at the keys of all versions
  pub looks_all : (old new : ℕ) → AreLooks 1 (length all) old new → AreLooks 1 (length rows) old new
  looks_all old new looks = fewer_entries 1 (length all) (length rows) old new (omega (arith, length_rows slots all are.own, ap length seen)) looks

  -- at those of the versions whose kind passes
  pub looks_placed : (test : Kind → Bool) (es : List (Entry unit.Unit ℕ)) (old new : ℕ) → es ≡ placed test slots all → AreLooks 1 (length es) old new → AreLooks 1 (length rows) old new
  looks_placed test es old new those looks =
      fewer_entries 1 (length es) (length rows) old new (omega (arith, ap length those, placed_fewer test slots all are.rise are.own, ap length seen)) looks

  -- ---- whether there is such a version
  pub readable_seen : (none : Bool) → none ≡ (length readable == 0) → not none ≡ list_any (λ row. is_readable row.kind) rows
  readable_seen none is =
      ap not (is ∙ ap (λ (es : List (Entry unit.Unit ℕ)). length es == 0) are.readable_are)
      ∙ sym (any_readable slots all are.rise are.own) ∙ ap (list_any (λ row. is_readable row.kind)) seen

  -- ---- hard times
  due_rises : Rises due_cmp due
  due_rises = subst (Rises due_cmp) (sym are.due_are) (indexed_rises due_keys slots all are.rise are.own)

  -- one has come where the first has
  pub due_seen : (t n : ℕ) (d : Entry DueKey ℕ) → n ≡ 0 → slice_get due n ≡ Some d → nat_le d.key.hard t ≡ list_any (λ row. not (kind_stays t row.kind)) rows
  due_seen t n d start is =
      let first = starts due d (subst (λ k. slice_get due k ≡ Some d) start is) in
      sym (first_due slots all t d (drop 1 due) are.own (sym are.due_are ∙ first) (subst (Rises due_cmp) first due_rises))
      ∙ ap (list_any (λ row. not (kind_stays t row.kind))) seen

  -- and none where there is none
  pub none_due_seen : (t : ℕ) → due ≡ [] → false ≡ list_any (λ row. not (kind_stays t row.kind)) rows
  none_due_seen t none = sym (none_due slots all t are.own (sym are.due_are ∙ none)) ∙ ap (list_any (λ row. not (kind_stays t row.kind))) seen

  -- the latest is the last
  pub latest_seen : (n : ℕ) (d : Entry DueKey ℕ) → n + 1 ≡ length due → slice_get due n ≡ Some d → d.key.hard ≡ latest_hard rows
  latest_seen n d last is = sym (latest_due slots all due n d are.own (sym are.due_are) due_rises is last) ∙ ap latest_hard seen

  -- and 0 where there is none
  pub none_latest_seen : due ≡ [] → 0 ≡ latest_hard rows
  none_latest_seen none = sym (none_latest slots all are.own (sym are.due_are ∙ none)) ∙ ap latest_hard seen
