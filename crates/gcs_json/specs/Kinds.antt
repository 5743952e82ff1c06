-- The kinds of values that fields have: what a value is read as, if it is of that kind.
use Rattle.std.specs.Prelude.{ℕ, ◌==◌, ◌&&◌, ◌||◌, List, Bool, not, nat_le, length, Option, Some, None, option_and_then, is_some, if◌then◌else◌}
use Rattle.serde_json.specs.Data.{Data, number, string, unsigned}
use Rattle.serde_json.specs.Find.{as_bool, as_str, as_object, get}
use Rattle.serde_json.specs.Written.{has_float, compact_text}
use Rattle.gcs_crc.specs.Text.{crc_of_text, md5_of_text}
use Rattle.gcs_time.specs.Time.{time_of}
use Rattle.gcs_json.specs.Words.{number_in_text}

-- true or false
abbrev pub flag : Data → Option Bool
flag d = as_bool d

-- an object that has a value of this kind under a name
abbrev pub inside : {T : Type 0} → List ℕ → (Data → Option T) → Data → Option T
inside name reads d = option_and_then reads (get name d)

-- any text
abbrev pub any_text : Data → Option (List ℕ)
any_text d = as_str d

-- a text, if it passes
abbrev pub text_if : Bool → List ℕ → Option (List ℕ)
text_if passes text = if passes then Some text else None

-- a text that passes the test
abbrev pub text_where : (List ℕ → Bool) → Data → Option (List ℕ)
text_where test d = option_and_then (λ text. text_if (test text) text) (as_str d)

-- a number of 64 bits: a text of digits, or a whole number that is not negative
abbrev pub number_of : Data → Option ℕ
number_of (string text) = number_in_text text
number_of (number (unsigned n)) = Some n
number_of _ = None

-- a number from the least to the most, or 0 where that is allowed
abbrev pub in_limits : Bool → ℕ → ℕ → ℕ → Option ℕ
in_limits zero least most n = if (zero && n == 0) || (nat_le least n && nat_le n most) then Some n else None

-- a value that is such a number
abbrev pub number_within : Bool → ℕ → ℕ → Data → Option ℕ
number_within zero least most d = option_and_then (in_limits zero least most) (number_of d)

-- the compact text of an object whose numbers are whole
abbrev pub compact_within : ℕ → Data → Option (List ℕ)
compact_within most d =
    if (is_some (as_object d) && not (has_float d)) && nat_le (length (compact_text d)) most then Some (compact_text d) else None

-- the text of a CRC32C
abbrev pub crc : Data → Option ℕ
crc d = option_and_then crc_of_text (as_str d)

-- the text of an MD5
abbrev pub md5 : Data → Option (List ℕ)
md5 d = option_and_then md5_of_text (as_str d)

-- the text of a moment
abbrev pub moment : Data → Option ℕ
moment d = option_and_then time_of (as_str d)
