-- The items of masks, one after the other
use Rattle.std.proofs.Common.{◌≡◌, ℕ, ◌||◌, ◌&&◌, Bool, true, false, List, [], ◌∷◌, ◌++◌, refl, sym, ap, ◌∙◌}
use Rattle.std.specs.Prelude.{if◌then◌else◌}
use Rattle.gcs_fields.specs.declared.mask.Item.{Item}
use Rattle.gcs_fields.specs.declared.mask.Item.TheViews.{out-Item}
use Rattle.gcs_fields.specs.declared.mask.Item.TheFolds.{fold_out-Item}
use Rattle.gcs_fields.specs.declared.select.Rest.{Rest}
use Rattle.gcs_fields.specs.Tree.{Name, Mask, none, item}
use Rattle.gcs_fields.specs.Select.{meets, together, picks, ends, rests}
use Rattle.gcs_fields.specs.Views.{path_of, item_step, mask_of}
use Rattle.gcs_fields.specs.Rests.{rests_of}

-- the tree of a list begins with its first item
pub mask_of_out : (i : Item) (is : List Item) → mask_of (i ∷ is) ≡ item (path_of (out-Item i).path.items) (mask_of (out-Item i).inner.items) (mask_of is)
mask_of_out i is = ap (λ (f : Mask → Mask). f (mask_of is)) (fold_out-Item (Mask → Mask) item_step i)

-- no items behind a mask change nothing
pub together_none : (m : Mask) → together m none ≡ m
together_none none = refl
together_none (item p i m) = ap (item p i) (together_none m)

-- three masks together, either way
pub together_assoc : (a b c : Mask) → together (together a b) c ≡ together a (together b c)
together_assoc none b c = refl
together_assoc (item p i m) b c = ap (item p i) (together_assoc m b c)

-- one more rest stands behind the others
pub rests_push : (rs : List Rest) (r : Rest) (m : Mask) → together (rests_of (rs ++ r ∷ [])) m ≡ together (rests_of rs) (item (path_of r.path.now) (mask_of r.inner.now) m)
rests_push [] r m = refl
rests_push (s ∷ rs) r m = ap (item (path_of s.path.now) (mask_of s.inner.now)) (rests_push rs r m)

-- what is known of all items once some were looked at, and these are left
abbrev pub Left : List ℕ → Mask → Bool → Mask → Mask → Type 0
Left k all found kept left = (ends k all ≡ ends k left) × (picks k all ≡ (found || picks k left)) × (rests k all ≡ together kept (rests k left))

or_true : (b : Bool) → (b || true) ≡ true
or_true true = refl
or_true false = refl

or_false : (b : Bool) → (b && false) ≡ false
or_false true = refl
or_false false = refl

-- an item that goes on in its path
pub goes_on : (k : List ℕ) (all kept left : Mask) (found : Bool) (n m : Name) (path : List Name) (inner : Mask) → true ≡ meets k n
    → Left k all found kept (item (n ∷ m ∷ path) inner left)
    → (ends k all ≡ ends k left) × (picks k all ≡ true) × (rests k all ≡ together kept (item (m ∷ path) inner (rests k left)))
goes_on k all kept left found n m path inner meets h = (
  h.0 ∙ ap (λ b. b || ends k left) (or_false _),
  h.1 ∙ ap (λ b. found || (b || picks k left)) (sym meets) ∙ or_true found,
  h.2 ∙ ap (λ (b : Bool). together kept (if b then item (m ∷ path) inner (rests k left) else rests k left)) (sym meets),
)

-- an item that goes on in its brackets
pub goes_in : (k : List ℕ) (all kept left : Mask) (found : Bool) (n : Name) (path : List Name) (inner more : Mask) → true ≡ meets k n
    → Left k all found kept (item (n ∷ []) (item path inner more) left)
    → (ends k all ≡ ends k left) × (picks k all ≡ true) × (rests k all ≡ together (together kept (item path inner more)) (rests k left))
goes_in k all kept left found n path inner more meets h = (
  h.0 ∙ ap (λ b. b || ends k left) (or_false _),
  h.1 ∙ ap (λ b. found || (b || picks k left)) (sym meets) ∙ or_true found,
  h.2 ∙ ap (λ (b : Bool). together kept (if b then together (item path inner more) (rests k left) else rests k left)) (sym meets)
      ∙ sym (together_assoc kept (item path inner more) (rests k left)),
)
