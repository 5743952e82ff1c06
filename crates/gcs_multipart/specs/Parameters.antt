-- Parameters behind a media type, read byte by byte (RFC 9110, 5.6.6).
use Rattle.std.specs.Prelude.{ℕ, Bool, ◌&&◌, ◌||◌, not, ◌==◌, nat_le, List, [], ◌∷◌, ◌++◌, codes, Option, Some, None, option_and_then, if◌then◌else◌}
use Rattle.std.specs.Char.{is_ascii_alphanumeric}
use Rattle.std.specs.List.{list_any}
use Rattle.std.specs.Option.{option_or}
use Rattle.std.specs.Str.{str_eq_ignore_ascii_case}
use Rattle.gcs_multipart.specs.Words.{is_blank}

-- a byte of a token (RFC 9110, 5.6.2)
unfoldable pub is_token_byte : ℕ → Bool
is_token_byte b = is_ascii_alphanumeric b || list_any (λ c. c == b) (codes "!#$%&'*+-.^_`|~")

-- a byte that a quoted text may have, some of them behind a `\` alone (RFC 9110, 5.6.4)
unfoldable pub is_text_byte : ℕ → Bool
is_text_byte b = b == 9 || (nat_le 32 b && not (b == 127))

-- the name of the parameter that is looked for
abbrev pub is_wanted : List ℕ → Bool
is_wanted name = str_eq_ignore_ascii_case name (codes "boundary")

-- where a reading is
pub data Place : Type 0 where
  -- behind the type or a parameter
  ended : Place
  -- behind blanks there
  blank : Place
  -- behind a `;` and blanks
  behind : Place
  -- in a name
  named : List ℕ → Place
  -- behind the `=`; whether the name is the wanted one
  begins : Bool → Place
  in_token : Bool → List ℕ → Place
  in_quotes : Bool → List ℕ → Place
  -- behind a `\` in quotes
  escaped : Bool → List ℕ → Place

-- the first wanted value, with one more value
abbrev pub settle : Bool → List ℕ → Option (List ℕ) → Option (List ℕ)
settle wanted value found = option_or found (if wanted then Some value else None)

-- behind a type or a parameter come blanks and a `;`
abbrev pub between : Option (List ℕ) → ℕ → Option (Place × Option (List ℕ))
between found b =
    if b == 59 then Some (behind, found) else (if is_blank b then Some (blank, found) else None)

-- one byte on, with the first wanted value so far; none: these are no parameters
abbrev pub step : Place → Option (List ℕ) → ℕ → Option (Place × Option (List ℕ))
step ended found b = between found b
step blank found b = between found b
step behind found b =
    if b == 59 then Some (behind, found)
    else (if is_blank b then Some (behind, found) else (if is_token_byte b then Some (named (b ∷ []), found) else None))
step (named name) found b =
    if b == 61 then Some (begins (is_wanted name), found)
    else (if is_token_byte b then Some (named (name ++ b ∷ []), found) else None)
step (begins wanted) found b =
    if b == 34 then Some (in_quotes wanted [], found)
    else (if is_token_byte b then Some (in_token wanted (b ∷ []), found) else None)
step (in_token wanted value) found b =
    if is_token_byte b then Some (in_token wanted (value ++ b ∷ []), found)
    else between (settle wanted value found) b
step (in_quotes wanted value) found b =
    if b == 34 then Some (ended, settle wanted value found)
    else (if b == 92 then Some (escaped wanted (value ++ b ∷ []), found)
    else (if is_text_byte b then Some (in_quotes wanted (value ++ b ∷ []), found) else None))
step (escaped wanted value) found b =
    if is_text_byte b then Some (in_quotes wanted (value ++ b ∷ []), found) else None

-- the first wanted value, where the text may end
abbrev pub finish : Place → Option (List ℕ) → Option (List ℕ)
finish ended found = found
finish blank found = None
finish behind found = found
finish (named name) found = None
finish (begins wanted) found = None
finish (in_token wanted value) found = settle wanted value found
finish (in_quotes wanted value) found = None
finish (escaped wanted value) found = None

-- the first wanted value of a text of parameters
abbrev pub read : Place → Option (List ℕ) → List ℕ → Option (List ℕ)
read place found [] = finish place found
read place found (b ∷ text) = option_and_then (λ s. read s.0 s.1 text) (step place found b)
