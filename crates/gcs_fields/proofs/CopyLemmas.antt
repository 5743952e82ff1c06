-- What a copied item puts in front
use Rattle.std.proofs.Common.{◌≡◌, map, sym, ap₂, ◌∙◌}
use Rattle.gcs_fields.specs.declared.mask.Item.{Item}
use Rattle.gcs_fields.specs.declared.mask.Item.TheOpen.{Item-F}
use Rattle.gcs_fields.specs.declared.mask.Item.TheViews.{out-Item, roll-Item}
use Rattle.gcs_fields.specs.declared.mask.Item.TheFolds.{fold_out-Item, fold-roll-Item}
use Rattle.gcs_fields.specs.Tree.{Mask, item}
use Rattle.gcs_fields.specs.Views.{path_of, item_step, before, chain}

-- items of equal paths and equal inner items put the same in front
pub before_same : (made : Item-F Item) (from : Item) → path_of made.path.items ≡ path_of (out-Item from).path.items
    → map before made.inner.items ≡ map before (out-Item from).inner.items → before (roll-Item made) ≡ before from
before_same made from paths inners =
    fold-roll-Item (Mask → Mask) item_step made
    ∙ ap₂ (λ path inner. item path (chain inner)) paths inners
    ∙ sym (fold_out-Item (Mask → Mask) item_step from)
