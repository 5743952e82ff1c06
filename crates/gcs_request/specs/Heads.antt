-- What a head says, as far as requests are told by it.
use Rattle.std.specs.Prelude.{◌≡◌, ℕ, ◌==◌, ◌&&◌, ◌||◌, not, nat_lt, nat_le, Bool, List, length, codes, is_some, Option, Some, None, if◌then◌else◌}
use Rattle.std.specs.Char.{is_ascii_alphanumeric}
use Rattle.std.specs.List.{list_all, list_any}
use Rattle.std.specs.Option.{option_copied}
use Rattle.std.specs.Str.{bytes_eq, is_utf8}
use Rattle.gcs_http_in.specs.Head.{Head}
use Rattle.gcs_http_in.specs.Fields.{first_of, values_of}
use Rattle.gcs_multipart.specs.ContentType.{boundary_of}
use Rattle.gcs_request.specs.declared.heads.HeadFields.{HeadFields}
use Rattle.gcs_rewrite.specs.declared.range.Range.{Range}
use Rattle.gcs_request.specs.Ranges.{read_range}
use Rattle.gcs_request.specs.declared.piece_ranges.PieceRange.{PieceRange}
use Rattle.gcs_request.specs.PieceRanges.{read_piece_range}

-- the value of the first field of a name
abbrev pub field_of : List ℕ → Head → Option (List ℕ)
field_of name head = first_of (values_of name head.fields)

-- what was read of a head is what stands there
pub record IsReadOf (head : Head) (f : HeadFields) : Type 0 where
  pub method : f.method.now ≡ head.method
  pub target : f.target.now ≡ head.target
  pub method_override : option_copied f.method_override ≡ field_of (codes "x-http-method-override") head
  pub content_type : option_copied f.content_type ≡ field_of (codes "content-type") head
  pub content_encoding : option_copied f.content_encoding ≡ field_of (codes "content-encoding") head
  pub range : option_copied f.range ≡ field_of (codes "range") head
  pub content_range : option_copied f.content_range ≡ field_of (codes "content-range") head
  pub upload_type : option_copied f.upload_type ≡ field_of (codes "x-upload-content-type") head
  pub upload_length : option_copied f.upload_length ≡ field_of (codes "x-upload-content-length") head
  pub host : option_copied f.host ≡ field_of (codes "host") head

-- a POST can say that it is a PATCH
abbrev pub method_by : List ℕ → Option (List ℕ) → List ℕ
method_by method None = method
method_by method (Some value) = if bytes_eq method (codes "POST") && bytes_eq value (codes "PATCH") then codes "PATCH" else method

-- the method that is meant (Google's page "Performance tips")
abbrev pub method_of : Head → List ℕ
method_of head = method_by head.method (field_of (codes "x-http-method-override") head)

-- a value is a text that metadata can hold: not empty, at most 1,024 bytes, no control characters
abbrev pub is_field_text : List ℕ → Bool
is_field_text value =
    nat_lt 0 (length value) && (nat_le (length value) 1024 && (list_all (λ b. nat_le 32 b && not (b == 127)) value && is_utf8 value))

-- a value that is no such text counts as absent
abbrev pub text_of_field : Option (List ℕ) → Option (List ℕ)
text_of_field None = None
text_of_field (Some value) = if is_field_text value then Some value else None

-- the content type that the head gives (RFC 9110, 8.3)
abbrev pub content_type_of : Head → Option (List ℕ)
content_type_of head = text_of_field (field_of (codes "content-type") head)

-- a value that names no boundary, as one that isn't there, gives none
abbrev pub boundary_of_field : Option (List ℕ) → Option (List ℕ)
boundary_of_field None = None
boundary_of_field (Some value) = boundary_of value

-- the boundary that the content type of the head names (RFC 2046, 5.1.1)
abbrev pub boundary_in : Head → Option (List ℕ)
boundary_in head = boundary_of_field (field_of (codes "content-type") head)

-- the head says that the body is encoded (RFC 9110, 8.4)
abbrev pub is_encoded : Head → Bool
is_encoded head = is_some (field_of (codes "content-encoding") head)

-- a value that is no range counts as absent
abbrev pub range_of_field : Option (List ℕ) → Option Range
range_of_field None = None
range_of_field (Some value) = read_range value

-- the range that the head asks for (RFC 9110, 14.2)
abbrev pub range_in : Head → Option Range
range_in head = range_of_field (field_of (codes "range") head)

-- what the head tells of a piece of an upload, if it tells anything
abbrev pub piece_range_in : Head → Option PieceRange
piece_range_in head = read_piece_range (field_of (codes "content-range") head)

-- a byte of a host and its port: a letter, a digit, or one of these
abbrev pub is_host_byte : ℕ → Bool
is_host_byte b = is_ascii_alphanumeric b || list_any (λ mark. b == mark) (codes ".-:[]")

-- a value is a host, with a port or without
abbrev pub is_host : List ℕ → Bool
is_host value = nat_lt 0 (length value) && list_all is_host_byte value

-- a value that is no host counts as absent
abbrev pub host_of_field : Option (List ℕ) → Option (List ℕ)
host_of_field None = None
host_of_field (Some value) = if is_host value then Some value else None

-- the host that the message is sent to (RFC 9110, 7.2)
abbrev pub host_in : Head → Option (List ℕ)
host_in head = host_of_field (field_of (codes "host") head)
