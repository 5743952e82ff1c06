-- What a head text says (RFC 9112, 3 and 5).
use Rattle.std.specs.Prelude.{◌≡◌, ℕ, ◌+◌, ◌<◌, ◌≤◌, List, [], ◌++◌, length, map, Ok, Err}
use Rattle.httparse.specs.Grammar.{RequestHead, ReadsRequest}
use Rattle.httparse.specs.Spans.{name_and_value}
use Rattle.gcs_http_in.specs.declared.limits.Limits.{Limits}
use Rattle.gcs_http_in.specs.declared.fault.FrameFault.{FrameFault}
use Rattle.gcs_http_in.specs.declared.fault.FrameFault.TheVariants as fault
use Rattle.gcs_http_in.specs.declared.fields.Framing.{Framing}
use Rattle.gcs_http_in.specs.Lines.{print_line, print_lines}
use Rattle.gcs_http_in.specs.Fields.{framing_of}

-- the parts of a request head; a field is its name and its value without the blanks round it
pub record Head : Type 0 where
  pub method : List ℕ
  pub target : List ℕ
  pub minor : ℕ
  pub fields : List (List ℕ × List ℕ)

-- what the tree of a request head says
abbrev pub head_of : RequestHead → Head
head_of h = record { method = h.method; target = h.target; minor = h.minor; fields = map name_and_value h.fields }

-- the text as a whole is a request head by the grammar of `httparse`, and says this
pub record IsRequestText (text : List ℕ) (head : Head) : Type 0 where
  pub tree : RequestHead
  pub reads : ReadsRequest text tree []
  pub says : head ≡ head_of tree

-- a head text without its leading empty lines
abbrev pub stripped : List (List ℕ) → List ℕ → List ℕ
stripped lines last = print_lines lines ++ print_line last

-- a head that is not refused, and how its body is cut
pub record IsGoodHead (limits : Limits) (lines : List (List ℕ)) (last : List ℕ) (head : Head) (framing : Framing) : Type 0 where
  pub few : length lines ≤ limits.fields + 1
  pub request : IsRequestText (stripped lines last) head
  pub cut : framing_of limits.body head.fields ≡ Ok framing

-- a head that is a request, and whose fields have the fault
pub record HasBadFields (limits : Limits) (lines : List (List ℕ)) (last : List ℕ) (f : FrameFault) : Type 0 where
  pub few : length lines ≤ limits.fields + 1
  pub head : Head
  pub request : IsRequestText (stripped lines last) head
  pub cut : framing_of limits.body head.fields ≡ Err f

-- the fault that comes first in a whole head text
abbrev pub IsBadHead : Limits → List (List ℕ) → List ℕ → FrameFault → Type 0
IsBadHead limits lines last fault.HeadTooLong = ⊥
IsBadHead limits lines last fault.TooManyFields = limits.fields + 1 < length lines
IsBadHead limits lines last fault.BadHead = (length lines ≤ limits.fields + 1) × ((head : Head) → IsRequestText (stripped lines last) head → ⊥)
IsBadHead limits lines last fault.BadChunk = ⊥
IsBadHead limits lines last fault.BadCoding = HasBadFields limits lines last fault.BadCoding
IsBadHead limits lines last fault.BothLengths = HasBadFields limits lines last fault.BothLengths
IsBadHead limits lines last fault.BadLength = HasBadFields limits lines last fault.BadLength
IsBadHead limits lines last fault.BodyTooLong = HasBadFields limits lines last fault.BodyTooLong
