-- The fields of a head, and what they say of its body (RFC 9112, 6) and of the connection (9.3).
use Rattle.std.specs.Prelude.{ℕ, Bool, false, ◌&&◌, ◌||◌, not, ◌==◌, nat_lt, List, [], ◌∷◌, map, filter, codes, Option, Some, None, Result, Ok, Err, if◌then◌else◌}
use Rattle.std.specs.List.{list_all}
use Rattle.std.specs.Char.{to_ascii_lowercase}
use Rattle.std.specs.Str.{bytes_eq}
use Rattle.std.specs.Str.Parse.{digits_value}
use Rattle.gcs_decimal.specs.Decimal.{is_decimal}
use Rattle.gcs_http_in.specs.declared.fault.FrameFault.{FrameFault}
use Rattle.gcs_http_in.specs.declared.fault.FrameFault.TheVariants.{BadCoding, BothLengths, BadLength, BodyTooLong}
use Rattle.gcs_http_in.specs.declared.fields.Coding.{Coding}
use Rattle.gcs_http_in.specs.declared.fields.Coding.TheVariants as coding
use Rattle.gcs_http_in.specs.declared.fields.Length.{Length}
use Rattle.gcs_http_in.specs.declared.fields.Length.TheVariants as lengths
use Rattle.gcs_http_in.specs.declared.fields.Framing.{Framing}
use Rattle.gcs_http_in.specs.declared.fields.Framing.TheVariants as framing

-- two texts that are the same without regard to case
abbrev pub is_same_word : List ℕ → List ℕ → Bool
is_same_word a b = bytes_eq (map to_ascii_lowercase a) (map to_ascii_lowercase b)

-- the values of the fields of a name, in order; a field is its name and its value
abbrev pub values_of : List ℕ → List (List ℕ × List ℕ) → List (List ℕ)
values_of name fields = map (λ f. f.1) (filter (λ f. is_same_word f.0 name) fields)

-- `Transfer-Encoding`: one value `chunked`, in any case
abbrev pub coding_of : List (List ℕ) → Coding
coding_of [] = coding.Absent
coding_of (v ∷ []) = if is_same_word v (codes "chunked") then coding.Chunked else coding.Bad
coding_of (v ∷ w ∷ values) = coding.Bad

-- 1 to 18 decimal digits
abbrev pub is_length : List ℕ → Bool
is_length v = is_decimal 18 v

-- a length that is this number
abbrev pub is_same_length : ℕ → List ℕ → Bool
is_same_length n v = is_length v && digits_value 10 v == n

-- `Content-Length`: each value is a length, and all are the same number
abbrev pub length_of : List (List ℕ) → Length
length_of [] = lengths.Absent
length_of (v ∷ values) = if is_length v && list_all (is_same_length (digits_value 10 v)) values
    then lengths.Is (digits_value 10 v) else lengths.Bad

-- how the body is cut, or the first fault of the two fields
abbrev pub framing_by : ℕ → Coding → Length → Result Framing FrameFault
framing_by most coding.Bad l = Err BadCoding
framing_by most coding.Chunked lengths.Absent = Ok framing.Chunked
framing_by most coding.Chunked l = Err BothLengths
framing_by most coding.Absent lengths.Absent = Ok (framing.Length 0)
framing_by most coding.Absent lengths.Bad = Err BadLength
framing_by most coding.Absent (lengths.Is n) = if nat_lt most n then Err BodyTooLong else Ok (framing.Length n)

-- the `Transfer-Encoding` of a head
abbrev pub coding_in : List (List ℕ × List ℕ) → Coding
coding_in fields = coding_of (values_of (codes "transfer-encoding") fields)

-- the `Content-Length` of a head
abbrev pub length_in : List (List ℕ × List ℕ) → Length
length_in fields = length_of (values_of (codes "content-length") fields)

-- how the body after a head with these fields is cut, or their first fault
unfoldable pub framing_of : ℕ → List (List ℕ × List ℕ) → Result Framing FrameFault
framing_of most fields = framing_by most (coding_in fields) (length_in fields)

-- the value of the first field of a name
abbrev pub first_of : List (List ℕ) → Option (List ℕ)
first_of [] = None
first_of (v ∷ values) = Some v

-- the value is there and is this word, in any case
abbrev pub is_word : List ℕ → Option (List ℕ) → Bool
is_word word None = false
is_word word (Some v) = is_same_word v word

-- the connection may stay: version 1.1 without `close`, or version 1.0 with `keep-alive`
abbrev pub stays_by : ℕ → Option (List ℕ) → Bool
stays_by minor connection = (minor == 1 && not (is_word (codes "close") connection)) || (minor == 0 && is_word (codes "keep-alive") connection)

-- the value of the first `Connection` field
abbrev pub connection_of : List (List ℕ × List ℕ) → Option (List ℕ)
connection_of fields = first_of (values_of (codes "connection") fields)
