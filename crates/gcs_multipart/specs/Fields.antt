-- The fields among the lines of a part (RFC 2046, 5.1).
use Rattle.std.specs.Prelude.{ℕ, ◌+◌, ◌-◌, ◌==◌, List, [], ◌∷◌, ◌++◌, length, take, drop, codes, position, slice_index, Option, Some, None, option_and_then, if◌then◌else◌}
use Rattle.std.specs.Option.{option_map_or, option_or}
use Rattle.std.specs.Str.{str_eq_ignore_ascii_case}
use Rattle.gcs_multipart.specs.Words.{trim_back, trim_front}

-- the line that ends with this byte: the text and the byte end with CR LF
abbrev pub ended_line : List ℕ → ℕ → Option (List ℕ)
ended_line text b =
    if b == 10 then (if slice_index text (length text - 1) == 13 then Some (take (length text - 1) text) else None)
    else None

-- the lines of a text, each of which ends with CR LF, where this much has come of the first one
abbrev pub lines_from : List ℕ → List ℕ → List (List ℕ)
lines_from begun [] = []
lines_from begun (b ∷ text) =
    option_map_or (λ line. line ∷ lines_from [] text) (ended_line begun b)
    (lines_from (begun ++ b ∷ []) text)

-- the value behind the `:` at this place, if the name before it is this one
abbrev pub value_behind : List ℕ → List ℕ → ℕ → Option (List ℕ)
value_behind name line at =
    if str_eq_ignore_ascii_case (take at line) name then Some (trim_back (trim_front (drop (at + 1) line)))
    else None

-- the value of a field of this name, if the line is one: a name, `:`, and the value, round which blanks may stand
abbrev pub value_in : List ℕ → List ℕ → Option (List ℕ)
value_in name line = option_and_then (value_behind name line) (position (λ b. b == 58) line)

-- the value of the first field of this name
abbrev pub first_value : List ℕ → List (List ℕ) → Option (List ℕ)
first_value name [] = None
first_value name (line ∷ lines) = option_or (value_in name line) (first_value name lines)

-- the value of the first field of this name among the lines of a part
abbrev pub field_of : List ℕ → List ℕ → Option (List ℕ)
field_of name head = first_value name (lines_from [] head)

-- the first `Content-Type` of a part
abbrev pub type_of : List ℕ → Option (List ℕ)
type_of head = field_of (codes "content-type") head
