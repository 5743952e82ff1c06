-- The rows of a bucket's versions in numbered slots, and the indexes that lead to them.
use Rattle.std.specs.Prelude.{◌≡◌, ℕ, List, [], ◌∷◌, Bool, false, not, Option, Some, None, IsSomeAnd}
use Rattle.std.specs.List.{AllByRecursion, find}
use Rattle.std.specs.declared.cmp.Ordering.{Ordering}
use Rattle.std.specs.Ordering.{is_eq}
use Rattle.slab.specs.Slab.{Slab, get}
use Rattle.gcs_index.specs.declared.blocks.Entry.{Entry}
use Rattle.gcs_index.specs.Entries.{entry_of, with_entry, without_key, Rises}
use Rattle.gcs_meaning.specs.declared.listing.Unit as unit
use Rattle.gcs_meaning.specs.declared.version.Kind.{Kind}
use Rattle.gcs_meaning.specs.declared.version.Row.{Row}
use Rattle.gcs_meaning.specs.Choosing.{is_live, is_readable}
use Rattle.gcs_meaning.specs.Order.{place_of, unit_cmp}
use Rattle.gcs_versions.specs.declared.keys.DueKey.{DueKey}
use Rattle.gcs_versions.specs.Keys.{due_cmp, due_of, place_if}

-- soft-deleted
abbrev pub is_soft : Kind → Bool
is_soft kind = not (is_readable kind)

-- a row, where there is one, before others
abbrev pub found_before : Option Row → List Row → List Row
found_before None rows = rows
found_before (Some row) rows = row ∷ rows

-- the row of a slot that may be there
abbrev pub slot_row : Slab Row → Option ℕ → Option Row
slot_row slots None = None
slot_row slots (Some slot) = get slots slot

-- the rows that entries lead to, in their order
abbrev pub rows_at : Slab Row → List (Entry unit.Unit ℕ) → List Row
rows_at slots [] = []
rows_at slots (e ∷ es) = found_before (get slots e.value) (rows_at slots es)

-- the slot of the entry has the version of its key
abbrev pub LeadsToItsOwn : Slab Row → Entry unit.Unit ℕ → Type 0
LeadsToItsOwn slots e = IsSomeAnd (get slots e.value) (λ row. place_of row ≡ e.key)

-- there is a row, and its kind passes
abbrev pub passes : (Kind → Bool) → Option Row → Bool
passes test None = false
passes test (Some row) = test row.kind

-- the key that a row may have
abbrev pub key_in : {K : Type 0} → (Row → Option K) → Option Row → Option K
key_in key_of None = None
key_in key_of (Some row) = key_of row

-- the entries with one more, where there is a key
abbrev pub with_keyed : {K : Type 0} → (K → K → Ordering) → Option K → ℕ → List (Entry K ℕ) → List (Entry K ℕ)
with_keyed cmp None slot entries = entries
with_keyed cmp (Some key) slot entries = with_entry cmp (entry_of key slot) entries

-- the entries without a key, where there is one
abbrev pub without_keyed : {K : Type 0} → (K → K → Ordering) → Option K → List (Entry K ℕ) → List (Entry K ℕ)
without_keyed cmp None entries = entries
without_keyed cmp (Some key) entries = without_key cmp key entries

-- what an index holds of the rows: each that has a key there, in the order of those keys
abbrev pub indexed : {K : Type 0} → (K → K → Ordering) → (Row → Option K) → Slab Row → List (Entry unit.Unit ℕ) → List (Entry K ℕ)
indexed cmp key_of slots [] = []
indexed cmp key_of slots (e ∷ es) = with_keyed cmp (key_in key_of (get slots e.value)) e.value (indexed cmp key_of slots es)

-- the places of the versions whose kind passes
abbrev pub placed : (Kind → Bool) → Slab Row → List (Entry unit.Unit ℕ) → List (Entry unit.Unit ℕ)
placed test slots all = indexed unit_cmp (place_if test) slots all

-- the rows in their slots, and the five indexes over them: all versions, those that are live or noncurrent, the live ones and the
-- soft-deleted ones by place, and the soft-deleted ones by hard time
pub record AreIndexes (slots : Slab Row) (all readable live soft : List (Entry unit.Unit ℕ)) (due : List (Entry DueKey ℕ)) : Type 0 where
  pub rise : Rises unit_cmp all
  pub own : AllByRecursion (LeadsToItsOwn slots) all
  pub readable_are : readable ≡ placed is_readable slots all
  pub live_are : live ≡ placed is_live slots all
  pub soft_are : soft ≡ placed is_soft slots all
  pub due_are : due ≡ indexed due_cmp due_of slots all

-- the slot has the row, and the entry of its place leads there
pub record IsAt (slots : Slab Row) (all : List (Entry unit.Unit ℕ)) (slot : ℕ) (row : Row) : Type 0 where
  pub found : find (λ e. is_eq (unit_cmp (place_of row) e.key)) all ≡ Some (entry_of (place_of row) slot)
  pub there : get slots slot ≡ Some row
