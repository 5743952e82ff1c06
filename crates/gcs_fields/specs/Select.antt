-- What a mask leaves of a value
use Rattle.std.specs.Prelude.{ℕ, Bool, true, false, ◌||◌, ◌&&◌, List, [], ◌∷◌, Option, Some, None, if◌then◌else◌, unwrap_or}
use Rattle.std.specs.Str.{bytes_eq}
use Rattle.serde_json.specs.Data.{Data, Items, Members, null, boolean, number, string, array, object, no_items, item, no_members, member}
use Rattle.gcs_fields.specs.Tree.{Name, any, key, Mask, none}
use Rattle.gcs_fields.specs.Tree as tree

-- a name is the key or `*`
abbrev pub meets : List ℕ → Name → Bool
meets k any = true
meets k (key bytes) = bytes_eq bytes k

-- some item's first name is the key or `*`
abbrev pub picks : List ℕ → Mask → Bool
picks k none = false
picks k (tree.item [] inner more) = picks k more
picks k (tree.item (n ∷ path) inner more) = meets k n || picks k more

-- an item has no rest after its first name
abbrev pub is_end : List Name → Mask → Bool
is_end [] none = true
is_end [] (tree.item path inner more) = false
is_end (n ∷ path) inner = false

-- and such an item ends there
abbrev pub ends : List ℕ → Mask → Bool
ends k none = false
ends k (tree.item [] inner more) = ends k more
ends k (tree.item (n ∷ path) inner more) = (meets k n && is_end path inner) || ends k more

-- the items of both
abbrev pub together : Mask → Mask → Mask
together none other = other
together (tree.item path inner more) other = tree.item path inner (together more other)

-- the rest of an item after its first name, before other items
abbrev pub rest_before : List Name → Mask → Mask → Mask
rest_before [] inner other = together inner other
rest_before (n ∷ path) inner other = tree.item (n ∷ path) inner other

-- all the rests of the items whose first name is the key or `*`
abbrev pub rests : List ℕ → Mask → Mask
rests k none = none
rests k (tree.item [] inner more) = rests k more
rests k (tree.item (n ∷ path) inner more) = if meets k n then rest_before path inner (rests k more) else rests k more

-- a member's value: whole where an item ends there, else what the rests leave of it
abbrev pub member_by : List ℕ → Mask → Data → Option Data → Option Data
member_by k mask d by_rests = if ends k mask then Some d else (if picks k mask then by_rests else None)

-- an element before others, if it stays
abbrev pub item_of : Option Data → Items → Items
item_of None ds = ds
item_of (Some d) ds = item d ds

-- a member before others, if it stays
abbrev pub member_of : List ℕ → Option Data → Members → Members
member_of k None ms = ms
member_of k (Some d) ms = member k d ms

-- what stays of a value under a mask; none: it doesn't stay
abbrev mutual
  pub select : Mask → Data → Option Data
  select mask null = None
  select mask (boolean b) = None
  select mask (number n) = None
  select mask (string s) = None
  select mask (array ds) = Some (array (select_items mask ds))
  select mask (object ms) = Some (object (select_members mask ms))

  pub select_items : Mask → Items → Items
  select_items mask no_items = no_items
  select_items mask (item d ds) = item_of (select mask d) (select_items mask ds)

  pub select_members : Mask → Members → Members
  select_members mask no_members = no_members
  select_members mask (member k d ms) = member_of k (member_by k mask d (select (rests k mask) d)) (select_members mask ms)

-- and null where nothing stays
abbrev pub selected : Mask → Data → Data
selected mask d = unwrap_or (select mask d) null
