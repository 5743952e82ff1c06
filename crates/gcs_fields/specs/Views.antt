-- The trees that our types stand for
use Rattle.std.specs.Prelude.{List, [], ◌∷◌, map}
use Rattle.gcs_fields.specs.declared.mask.Name.{Name}
use Rattle.gcs_fields.specs.declared.mask.Name.TheVariants as name
use Rattle.gcs_fields.specs.declared.mask.Item.{Item}
use Rattle.gcs_fields.specs.declared.mask.Item.TheOpen.{Item-F}
use Rattle.gcs_fields.specs.declared.mask.Item.TheFolds.{fold-Item}
use Rattle.gcs_fields.specs.Tree.{Mask, none, item, any, key}
use Rattle.gcs_fields.specs.Tree as tree

-- the name of the tree
abbrev pub name_of : Name → tree.Name
name_of name.Any = any
name_of (name.Key bytes) = key bytes.items

-- the path of the tree
abbrev pub path_of : List Name → List tree.Name
path_of path = map name_of path

-- each puts an item in front
abbrev pub chain : List (Mask → Mask) → Mask
chain [] = none
chain (f ∷ fs) = f (chain fs)

-- an item, with what each inner one puts in front in its place
abbrev pub item_step : Item-F (Mask → Mask) → Mask → Mask
item_step i = item (path_of i.path.items) (chain i.inner.items)

-- what an item puts in front of others
abbrev pub before : Item → Mask → Mask
before = fold-Item (Mask → Mask) item_step

-- the tree of a list of items
abbrev pub mask_of : List Item → Mask
mask_of items = chain (map before items)
