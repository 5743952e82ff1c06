-- Field masks: a tree, and the text that it is written as
use Rattle.std.specs.Prelude.{◌≡◌, ◌≢◌, ℕ, zero, suc, ◌+◌, ◌<◌, ◌≤◌, max, Bool, true, ◌||◌, ◌==◌, List, [], ◌∷◌, ◌++◌, length, map, take}
use Rattle.std.specs.List.{AllByRecursion}
use Rattle.std.specs.Char.{is_ascii_alphanumeric}

-- a name: `*`, or a key
pub data Name : Type 0 where
  any : Name
  key : List ℕ → Name

-- a list of items: the first has its path, the mask in its brackets (none: it has no brackets), and the items after it
pub data Mask : Type 0 where
  none : Mask
  item : List Name → Mask → Mask → Mask

-- letters, digits, `_` and `-`
abbrev pub is_name_byte : ℕ → Bool
is_name_byte b = is_ascii_alphanumeric b || (b == 95 || b == 45)

-- the text of a name
abbrev pub print_name : Name → List ℕ
print_name any = 42 ∷ []
print_name (key bytes) = bytes

-- texts with a byte between them
abbrev pub joined : ℕ → List (List ℕ) → List ℕ
joined sep [] = []
joined sep (x ∷ []) = x
joined sep (x ∷ y ∷ xs) = x ++ sep ∷ joined sep (y ∷ xs)

-- `name *("/" name)`
abbrev pub print_path : List Name → List ℕ
print_path path = joined 47 (map print_name path)

-- `item *("," item)`, of the texts of the items
abbrev pub print_items : List (List ℕ) → List ℕ
print_items texts = joined 44 texts

-- `[ "(" mask ")" ]`, of the texts of the items of that mask
abbrev pub print_inner : List (List ℕ) → List ℕ
print_inner [] = []
print_inner (x ∷ xs) = 40 ∷ print_items (x ∷ xs) ++ 41 ∷ []

-- the texts of the items
abbrev pub texts_of : Mask → List (List ℕ)
texts_of none = []
texts_of (item path inner more) = (print_path path ++ print_inner (texts_of inner)) ∷ texts_of more

-- the text of a mask
abbrev pub print : Mask → List ℕ
print mask = print_items (texts_of mask)

-- the levels of what stands in brackets, with the brackets
abbrev pub bracketed : ℕ → ℕ
bracketed zero = 0
bracketed (suc n) = suc (suc n)

-- how many levels a mask has: each name and each bracket is one
abbrev pub levels : Mask → ℕ
levels none = 0
levels (item path inner more) = max (length path + bracketed (levels inner)) (levels more)

-- `*`, or one or more bytes of names
abbrev pub IsName : Name → Type 0
IsName any = Unit {0}
IsName (key bytes) = (0 < length bytes) × AllByRecursion (λ b. is_name_byte b ≡ true) bytes

-- one or more names
abbrev pub IsPath : List Name → Type 0
IsPath path = (0 < length path) × AllByRecursion IsName path

-- each item has a path
abbrev pub AreItems : Mask → Type 0
AreItems none = Unit {0}
AreItems (item path inner more) = IsPath path × AreItems inner × AreItems more

-- the most bytes of a mask's text
abbrev pub most_bytes : ℕ
most_bytes = 4096

-- the most levels of a mask
abbrev pub most_levels : ℕ
most_levels = 32

-- a mask within the limits
pub record IsMask (mask : Mask) : Type 0 where
  pub some : mask ≢ none
  pub items : AreItems mask
  pub short : length (print mask) ≤ most_bytes
  pub shallow : levels mask ≤ most_levels

-- some mask begins with this text
pub record BeginsMask (text : List ℕ) : Type 0 where
  pub mask : Mask
  pub is_mask : IsMask mask
  pub rest : List ℕ
  pub spelled : print mask ≡ text ++ rest

-- no mask has this text
abbrev pub IsNoMask : List ℕ → Type 0
IsNoMask text = (mask : Mask) → IsMask mask → print mask ≡ text → ⊥

-- the longest front of the text that begins some mask has this length
pub record IsPlace (text : List ℕ) (place : ℕ) : Type 0 where
  pub within : place ≤ length text
  pub begins : BeginsMask (take place text)
  pub longest : (n : ℕ) → n ≤ length text → BeginsMask (take n text) → n ≤ place
