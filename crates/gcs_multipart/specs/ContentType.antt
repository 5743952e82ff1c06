-- Which boundary a content type names (RFC 2046, 5.1.1).
use Rattle.std.specs.Prelude.{◌≡◌, ◌↔◌, ℕ, ◌-◌, ◌<◌, Bool, true, false, ◌&&◌, ◌||◌, not, ◌==◌, nat_le, nat_lt, List, [], ◌∷◌, ◌++◌, length, take, drop, codes, slice_index, Option, Some, None, option_and_then, if◌then◌else◌}
use Rattle.std.specs.Char.{is_ascii_alphanumeric}
use Rattle.std.specs.List.{list_all, list_any, flat_map, AllByRecursion}
use Rattle.std.specs.Option.{option_or}
use Rattle.std.specs.Str.{str_eq_ignore_ascii_case}
use Rattle.gcs_multipart.specs.Words.{is_blank}
use Rattle.gcs_multipart.specs.Parameters.{ended, is_token_byte, is_text_byte, is_wanted, read}

-- a byte that a boundary may have
unfoldable pub is_boundary_byte : ℕ → Bool
is_boundary_byte b = is_ascii_alphanumeric b || list_any (λ c. c == b) (codes "'()+_,-./:=? ")

-- a boundary: 1 to 70 such bytes, the last of which is no space
unfoldable pub is_boundary : List ℕ → Bool
is_boundary text =
    nat_lt 0 (length text) && (nat_le (length text) 70
    && (not (slice_index text (length text - 1) == 32) && list_all is_boundary_byte text))

-- the types whose bodies have parts
abbrev pub is_type : List ℕ → Bool
is_type text =
    str_eq_ignore_ascii_case text (codes "multipart/related") || str_eq_ignore_ascii_case text (codes "multipart/mixed")

-- what stands behind the type
unfoldable pub behind_type : List ℕ → Option (List ℕ)
behind_type text =
    if str_eq_ignore_ascii_case (take 17 text) (codes "multipart/related") then Some (drop 17 text)
    else (if str_eq_ignore_ascii_case (take 15 text) (codes "multipart/mixed") then Some (drop 15 text) else None)

-- a boundary, or nothing
abbrev pub checked : List ℕ → Option (List ℕ)
checked text = if is_boundary text then Some text else None

-- the boundary that a content type names: the value of its first parameter `boundary`
unfoldable pub boundary_of : List ℕ → Option (List ℕ)
boundary_of text = option_and_then checked (option_and_then (read ended None) (behind_type text))

-- the value of a parameter: a token, or the bytes between two quotes
pub data Value : Type 0 where
  token : List ℕ → Value
  quoted : List ℕ → Value

-- the bytes of a value
abbrev pub bytes_of : Value → List ℕ
bytes_of (token text) = text
bytes_of (quoted text) = text

-- a value as it is spelled
abbrev pub print_value : Value → List ℕ
print_value (token text) = text
print_value (quoted text) = 34 ∷ (text ++ 34 ∷ [])

-- a parameter: a name and a value
pub record Parameter : Type 0 where
  pub name : List ℕ
  pub value : Value

-- a `;` with blanks round it, and a parameter or none behind it
pub record Item : Type 0 where
  pub before : List ℕ
  pub after : List ℕ
  pub parameter : Option Parameter

-- a parameter as it is spelled, `name=value`
abbrev pub print_parameter : Option Parameter → List ℕ
print_parameter None = []
print_parameter (Some p) = p.name ++ 61 ∷ print_value p.value

-- the `;` and what stands round and behind it
abbrev pub print_item : Item → List ℕ
print_item item = item.before ++ 59 ∷ (item.after ++ print_parameter item.parameter)

-- items, one after the other
abbrev pub print_items : List Item → List ℕ
print_items items = flat_map print_item items

-- one or more bytes of a token
pub record IsToken (text : List ℕ) : Type 0 where
  pub some : 0 < length text
  pub all : list_all is_token_byte text ≡ true

-- bytes that may stand between two quotes: none is a quote or a `\`, unless a `\` stands before it, as `after` says of the first
abbrev pub is_quotable : Bool → List ℕ → Bool
is_quotable after [] = not after
is_quotable true (b ∷ text) = is_text_byte b && is_quotable false text
is_quotable false (b ∷ text) =
    if b == 92 then is_quotable true text
    else (not (b == 34) && (is_text_byte b && is_quotable false text))

-- a value of the grammar
abbrev pub IsValue : Value → Type 0
IsValue (token text) = IsToken text
IsValue (quoted text) = is_quotable false text ≡ true

-- a parameter of the grammar, if there is one
abbrev pub IsParameter : Option Parameter → Type 0
IsParameter None = Unit {0}
IsParameter (Some p) = IsToken p.name × IsValue p.value

-- an item of the grammar
pub record IsItem (item : Item) : Type 0 where
  pub before : list_all is_blank item.before ≡ true
  pub after : list_all is_blank item.after ≡ true
  pub parameter : IsParameter item.parameter

-- the value, if the parameter is a `boundary`, in any case
abbrev pub boundary_in : Option Parameter → Option (List ℕ)
boundary_in None = None
boundary_in (Some p) = if is_wanted p.name then Some (bytes_of p.value) else None

-- the value of the first `boundary`
abbrev pub first_boundary : List Item → Option (List ℕ)
first_boundary [] = None
first_boundary (item ∷ items) = option_or (boundary_in item.parameter) (first_boundary items)

-- the text is a type whose bodies have parts, and parameters, the first `boundary` of which has this value
pub record IsBoundaryText (text boundary : List ℕ) : Type 0 where
  pub kind : List ℕ
  pub items : List Item
  pub spelled : text ≡ kind ++ print_items items
  pub is_kind : is_type kind ≡ true
  pub all : AllByRecursion IsItem items
  pub first : first_boundary items ≡ Some boundary
  pub fits : is_boundary boundary ≡ true

-- the boundary that is read of a text is the one that it names by this grammar
abbrev pub BoundariesAreExact : Type 0
BoundariesAreExact =
    (text boundary : List ℕ) → (boundary_of text ≡ Some boundary) ↔ IsBoundaryText text boundary
