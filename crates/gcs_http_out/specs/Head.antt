-- Heads of replies (RFC 9112, sections 2.1, 4 and 5)
use Rattle.std.specs.Prelude.{◌≡◌, ℕ, ◌==◌, List, [], ◌∷◌, ◌++◌, true, Option, Some, None, is_some, unwrap_or, if◌then◌else◌, codes, decimal, map, flat_map, string_bytes}
use Rattle.std.specs.declared.alloc.Global.{Global}
use Rattle.std.specs.declared.string.String.{String}
use Rattle.gcs_http_out.specs.declared.head.Ending.{Ending}
use Rattle.gcs_http_out.specs.declared.head.Ending.TheVariants.{Stays, KeepAlive, Closes}
use Rattle.gcs_http_out.specs.declared.head.ReplyHead.{ReplyHead}

-- a line ends with CR LF
abbrev pub line_end : List ℕ
line_end = 13 ∷ 10 ∷ []

-- the statuses that are sent, each with its phrase (RFC 9110, section 15; 308 and 499 as in Google's "Resumable uploads")
abbrev pub phrases : List (ℕ × List ℕ)
phrases =
    (200, codes "OK")
    ∷ (204, codes "No Content")
    ∷ (206, codes "Partial Content")
    ∷ (304, codes "Not Modified")
    ∷ (308, codes "Resume Incomplete")
    ∷ (400, codes "Bad Request")
    ∷ (403, codes "Forbidden")
    ∷ (404, codes "Not Found")
    ∷ (405, codes "Method Not Allowed")
    ∷ (409, codes "Conflict")
    ∷ (410, codes "Gone")
    ∷ (412, codes "Precondition Failed")
    ∷ (413, codes "Payload Too Large")
    ∷ (416, codes "Range Not Satisfiable")
    ∷ (499, codes "Client Closed Request")
    ∷ (501, codes "Not Implemented")
    ∷ (503, codes "Service Unavailable")
    ∷ []

-- the phrase that stands beside the status in a list
abbrev pub phrase_in : List (ℕ × List ℕ) → ℕ → Option (List ℕ)
phrase_in [] status = None
phrase_in (p ∷ ps) status = if status == p.0 then Some p.1 else phrase_in ps status

-- the status is one that is sent
abbrev pub IsStatus : ℕ → Type 0
IsStatus status = is_some (phrase_in phrases status) ≡ true

-- the status line: version, status and phrase (RFC 9112, section 4)
abbrev pub status_line : ℕ → List ℕ
status_line status = codes "HTTP/1.1 " ++ decimal status ++ codes " " ++ unwrap_or (phrase_in phrases status) [] ++ line_end

-- the line of a field, by its name and its value (RFC 9112, section 5)
abbrev pub field_line : List ℕ × List ℕ → List ℕ
field_line field = field.0 ++ codes ": " ++ field.1 ++ line_end

-- the lines of fields, in their order
abbrev pub field_lines : List (List ℕ × List ℕ) → List ℕ
field_lines fields = flat_map field_line fields

-- the line of the body's length, where it is given (RFC 9110, section 8.6)
abbrev pub length_line : Option ℕ → List ℕ
length_line None = []
length_line (Some length) = field_line (codes "Content-Length", decimal length)

-- what a reply says of its connection (RFC 9112, section 9.3)
abbrev pub ending_line : Ending → List ℕ
ending_line Stays = []
ending_line KeepAlive = field_line (codes "Connection", codes "keep-alive")
ending_line Closes = field_line (codes "Connection", codes "close")

-- the head with this status, these fields, this length and this ending, up to and with its empty line
unfoldable pub head_text : ℕ → List (List ℕ × List ℕ) → Option ℕ → Ending → List ℕ
head_text status fields length ending = status_line status ++ field_lines fields ++ length_line length ++ ending_line ending ++ line_end

-- the bytes of names and values
abbrev pub texts_of : List (String Global × String Global) → List (List ℕ × List ℕ)
texts_of fields = map (λ field. (string_bytes field.0, string_bytes field.1)) fields

-- two heads have the same parts
pub record IsSameHead (head other : ReplyHead) : Type 0 where
  pub status : head.status ≡ other.status
  pub fields : texts_of head.fields.items ≡ texts_of other.fields.items
  pub length : head.length ≡ other.length
  pub ending : head.ending ≡ other.ending
