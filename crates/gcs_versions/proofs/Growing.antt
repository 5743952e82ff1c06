-- What is kept while memory is taken: slots and indexes hold what they held, and nothing that stood ready is lost.
use Rattle.std.proofs.Common.{◌≡◌, ◌∙◌, sym, ap, ap₂, refl, subst, ℕ, ◌≤◌, List, [], ◌∷◌, Option, Some, None, arith}
use Rattle.std.specs.Prelude.{IsSomeAnd}
use Rattle.std.specs.List.{AllByRecursion}
use Rattle.std.specs.Option.{IfSome}
use Rattle.std.specs.declared.cmp.Ordering.{Ordering}
use Rattle.slab.specs.Slab.{Slab, get, slab_len}
use Rattle.gcs_index.specs.declared.blocks.Entry.{Entry}
use Rattle.gcs_index.specs.Entries.{Shelf}
use Rattle.gcs_meaning.specs.declared.listing.Unit as unit
use Rattle.gcs_meaning.specs.declared.version.Row.{Row}
use Rattle.gcs_meaning.specs.Choosing.{is_live, is_readable}
use Rattle.gcs_meaning.specs.Order.{place_of, unit_cmp, AreVersions}
use Rattle.gcs_versions.specs.declared.keys.DueKey.{DueKey}
use Rattle.gcs_versions.specs.declared.preparing.ForPut.{ForPut}
use Rattle.gcs_versions.specs.declared.preparing.ForRetirement.{ForRetirement}
use Rattle.gcs_versions.specs.Indexes.{found_before, indexed, is_soft, key_in, rows_at, with_keyed, AreIndexes, LeadsToItsOwn}
use Rattle.gcs_versions.specs.Keys.{due_cmp, due_of, place_if}
use Rattle.gcs_versions.specs.Kept.{IsKept}
use Rattle.gcs_versions.specs.Ready.{HavePutRoom, HaveRetirementRoom, IsForPut, IsForRetirement}

-- slots with room for more, and the same in them
pub record HasGrown (old new : Slab Row) : Type 0 where
  pub slots : new ≡ record old { capacity = new.capacity }
  pub capacity : old.capacity ≤ new.capacity

-- an index with more blocks that stand ready, and the same entries
pub record IsGrown {K : Type 0} (old new : Shelf K ℕ) : Type 0 where
  pub entries : new.entries ≡ old.entries
  pub spare : old.spare ≤ new.spare

-- an index as it was
pub same : {K : Type 0} (shelf : Shelf K ℕ) → IsGrown shelf shelf
same shelf = record { entries = refl; spare = omega arith }

module _ (old new : Slab Row) (slots : (key : ℕ) → get new key ≡ get old key) where
  pub rows_same : (all : List (Entry unit.Unit ℕ)) → rows_at new all ≡ rows_at old all
  rows_same [] = refl
  rows_same (e ∷ es) = ap₂ found_before (slots e.value) (rows_same es)

  indexed_same : {K : Type 0} (cmp : K → K → Ordering) (key_of : Row → Option K) (all : List (Entry unit.Unit ℕ)) → indexed cmp key_of new all ≡ indexed cmp key_of old all
  indexed_same cmp key_of [] = refl
  indexed_same cmp key_of (e ∷ es) = ap₂ (λ r l. with_keyed cmp (key_in key_of r) e.value l) (slots e.value) (indexed_same cmp key_of es)

  own_same : (all : List (Entry unit.Unit ℕ)) → AllByRecursion (LeadsToItsOwn old) all → AllByRecursion (LeadsToItsOwn new) all
  own_same [] own = tt
  own_same (e ∷ es) own = (subst (λ r. IsSomeAnd r (λ row. place_of row ≡ e.key)) (sym (slots e.value)) own.0, own_same es own.1)

  pub indexes_same : (all readable live soft : List (Entry unit.Unit ℕ)) (due : List (Entry DueKey ℕ)) → AreIndexes old all readable live soft due → AreIndexes new all readable live soft due
  indexes_same all readable live soft due are = record {
    rise = are.rise;
    own = own_same all are.own;
    readable_are = are.readable_are ∙ sym (indexed_same unit_cmp (place_if is_readable) all);
    live_are = are.live_are ∙ sym (indexed_same unit_cmp (place_if is_live) all);
    soft_are = are.soft_are ∙ sym (indexed_same unit_cmp (place_if is_soft) all);
    due_are = are.due_are ∙ sym (indexed_same due_cmp due_of all);
  }

-- the same of each entry, and room for as many more
slots_same : (old new : Slab Row) → HasGrown old new → (key : ℕ) → get new key ≡ get old key
slots_same old new grown key = ap (λ (s : Slab Row). get s key) grown.slots

pub rows_grown : {old new : Slab Row} (all all_new : Shelf unit.Unit ℕ) → HasGrown old new → IsGrown all all_new → rows_at new all_new.entries ≡ rows_at old all.entries
rows_grown {old = old} {new = new} all all_new slots a = ap (rows_at new) a.entries ∙ rows_same old new (slots_same old new slots) all.entries

pub if_some : {T : Type 0} {P Q : T → Type 0} (o : Option T) → ((x : T) → P x → Q x) → IfSome o P → IfSome o Q
if_some None weaker is = tt
if_some (Some x) weaker is = weaker x is

module _ {old new : Slab Row} {all all_new readable readable_new live live_new soft soft_new : Shelf unit.Unit ℕ} {due due_new : Shelf DueKey ℕ}
    (slots : HasGrown old new) (a : IsGrown all all_new) (r : IsGrown readable readable_new) (l : IsGrown live live_new) (s : IsGrown soft soft_new) (d : IsGrown due due_new) where
  indexes_grown : AreIndexes old all.entries readable.entries live.entries soft.entries due.entries → AreIndexes new all_new.entries readable_new.entries live_new.entries soft_new.entries due_new.entries
  indexes_grown are =
      subst (λ e. AreIndexes new e readable_new.entries live_new.entries soft_new.entries due_new.entries) (sym a.entries)
      (subst (λ e. AreIndexes new all.entries e live_new.entries soft_new.entries due_new.entries) (sym r.entries)
      (subst (λ e. AreIndexes new all.entries readable.entries e soft_new.entries due_new.entries) (sym l.entries)
      (subst (λ e. AreIndexes new all.entries readable.entries live.entries e due_new.entries) (sym s.entries)
      (subst (λ e. AreIndexes new all.entries readable.entries live.entries soft.entries e) (sym d.entries)
      (indexes_same old new (slots_same old new slots) all.entries readable.entries live.entries soft.entries due.entries are)))))

  put_room : HavePutRoom old all readable live → HavePutRoom new all_new readable_new live_new
  put_room room = record {
    free_slot = omega (arith, room.free_slot, ap slab_len slots.slots, slots.capacity);
    in_all = omega (arith, room.in_all, a.spare);
    in_readable = omega (arith, room.in_readable, r.spare);
    in_live = omega (arith, room.in_live, l.spare);
  }

  retirement_room : HaveRetirementRoom soft due → HaveRetirementRoom soft_new due_new
  retirement_room room = record { in_soft = omega (arith, room.in_soft, s.spare); in_due = omega (arith, room.in_due, d.spare) }

  pub kept_grown : (to_put : Option ForPut) (to_retire : Option ForRetirement) → IsKept old all readable live soft due to_put to_retire → IsKept new all_new readable_new live_new soft_new due_new to_put to_retire
  kept_grown to_put to_retire kept = record {
    indexes = indexes_grown kept.indexes;
    versions = subst AreVersions (sym (rows_grown all all_new slots a)) kept.versions;
    put = if_some to_put (λ names room. (put_room room.0, room.1)) kept.put;
    retire = if_some to_retire (λ names room. (retirement_room room.0, room.1)) kept.retire;
  }

-- the same with other names prepared, for which there is room
pub kept_with : {slots : Slab Row} {all readable live soft : Shelf unit.Unit ℕ} {due : Shelf DueKey ℕ} {to_put : Option ForPut} {to_retire : Option ForRetirement} (name : List ℕ) (put : ForPut) (retirement : ForRetirement)
    → IsKept slots all readable live soft due to_put to_retire → HavePutRoom slots all readable live → HaveRetirementRoom soft due → IsForPut name put → IsForRetirement name retirement
    → IsKept slots all readable live soft due (Some put) (Some retirement)
kept_with name put retirement kept put_room retirement_room is_put is_retirement = record {
  indexes = kept.indexes;
  versions = kept.versions;
  put = (put_room, subst (λ n. IsForPut n put) (sym is_put.all) is_put);
  retire = (retirement_room, subst (λ n. IsForRetirement n retirement) (sym is_retirement.due) is_retirement);
}
