-- A value without floats keeps none under a mask
use Rattle.std.proofs.Common.{◌≡◌, ℕ, ◌||◌, Bool, true, false, List, Option, Some, None, option_map, refl, sym, ap, ◌∙◌, subst}
use Rattle.std.specs.Prelude.{if◌then◌else◌, unwrap_or}
use Rattle.std.proofs.lemmas.Bool.{or_parts}
use Rattle.serde_json.specs.declared.value.Value.{Value}
use Rattle.serde_json.specs.declared.value.Value.TheVariants.{Null}
use Rattle.serde_json.specs.declared.value.Value.TheFolds.{fold-roll-Value}
use Rattle.serde_json.specs.declared.value.Value.TheViews.{roll-Value}
use Rattle.serde_json.specs.declared.value.Value.TheOpen.{Value-F}
use Rattle.serde_json.specs.View.{view, view_step}
use Rattle.serde_json.specs.Data.{Data, Items, Members, null, boolean, number, string, array, object, no_items, item, no_members, member}
use Rattle.serde_json.specs.Written.{has_float, items_have_float, members_have_float}
use Rattle.gcs_fields.specs.Tree.{Mask}
use Rattle.gcs_fields.specs.Select.{ends, picks, rests, member_by, item_of, member_of, select, select_items, select_members}

-- what stays has no float
abbrev Whole : Option Data → Type 0
Whole None = Unit {0}
Whole (Some d) = has_float d ≡ false

neither : (x y : Bool) → x ≡ false → y ≡ false → (x || y) ≡ false
neither x y p q = rw (p, q)

item_whole : (o : Option Data) (ds : Items) → Whole o → items_have_float ds ≡ false → items_have_float (item_of o ds) ≡ false
item_whole None ds w e = e
item_whole (Some d) ds w e = neither (has_float d) (items_have_float ds) w e

member_whole : (k : List ℕ) (o : Option Data) (ms : Members) → Whole o → members_have_float ms ≡ false → members_have_float (member_of k o ms) ≡ false
member_whole k None ms w e = e
member_whole k (Some d) ms w e = neither (has_float d) (members_have_float ms) w e

either_whole : (ends picks : Bool) (d : Data) (o : Option Data) → has_float d ≡ false → Whole o → Whole (if ends then Some d else (if picks then o else None))
either_whole true picks d o e w = e
either_whole false true d o e w = w
either_whole false false d o e w = tt

mutual
  select_whole : (mask : Mask) (d : Data) → has_float d ≡ false → Whole (select mask d)
  select_whole mask null e = tt
  select_whole mask (boolean b) e = tt
  select_whole mask (number n) e = tt
  select_whole mask (string s) e = tt
  select_whole mask (array ds) e = items_whole mask ds e
  select_whole mask (object ms) e = members_whole mask ms e

  items_whole : (mask : Mask) (ds : Items) → items_have_float ds ≡ false → items_have_float (select_items mask ds) ≡ false
  items_whole mask no_items e = refl
  items_whole mask (item d ds) e =
      let p = or_parts (has_float d) (items_have_float ds) e in
      item_whole (select mask d) (select_items mask ds) (select_whole mask d p.0) (items_whole mask ds p.1)

  members_whole : (mask : Mask) (ms : Members) → members_have_float ms ≡ false → members_have_float (select_members mask ms) ≡ false
  members_whole mask no_members e = refl
  members_whole mask (member k d ms) e =
      let p = or_parts (has_float d) (members_have_float ms) e in
      member_whole k (member_by k mask d (select (rests k mask) d)) (select_members mask ms)
      (either_whole (ends k mask) (picks k mask) d (select (rests k mask) d) p.0 (select_whole (rests k mask) d p.0)) (members_whole mask ms p.1)

-- what null is seen as
view_null : view Null ≡ null
unfolding roll-Value denote.Hole.Carrier.roll
view_null = fold-roll-Value Data view_step Value-F.Null

-- what stays, or null where nothing does, has none
pub left_whole : (mask : Mask) (d : Data) (kept : Option Value) (left : Value) → left ≡ unwrap_or kept Null → option_map view kept ≡ select mask d
    → has_float d ≡ false → has_float (view left) ≡ false
left_whole mask d None left e kept_is whole = ap (λ v. has_float (view v)) e ∙ ap has_float view_null
left_whole mask d (Some v) left e kept_is whole = rw e (subst Whole (sym kept_is) (select_whole mask d whole))
