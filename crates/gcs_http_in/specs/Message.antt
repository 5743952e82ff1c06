-- The messages that a text spells (RFC 9112, 2.1, 6.3 and 9.3).
use Rattle.std.specs.Prelude.{◌≡◌, ℕ, ◌+◌, ◌<◌, ◌≤◌, ◌⊎◌, Bool, true, false, ◌&&◌, not, ◌==◌, List, [], ◌∷◌, ◌++◌, length}
use Rattle.std.specs.List.{AllByRecursion}
use Rattle.gcs_http_in.specs.declared.limits.Limits.{Limits}
use Rattle.gcs_http_in.specs.declared.fault.FrameFault.{FrameFault}
use Rattle.gcs_http_in.specs.declared.fault.FrameFault.TheVariants as fault
use Rattle.gcs_http_in.specs.declared.fields.Framing.{Framing}
use Rattle.gcs_http_in.specs.declared.fields.Framing.TheVariants as framing
use Rattle.gcs_http_in.specs.Lines.{IsHeadText}
use Rattle.gcs_http_in.specs.Fields.{stays_by, connection_of}
use Rattle.gcs_http_in.specs.Head.{Head, IsGoodHead, IsBadHead}
use Rattle.gcs_http_in.specs.Chunks.{IsChunkedBody, IsBadBody}

-- a head text that isn't refused, and how its body is cut
pub record IsGoodHeadText (limits : Limits) (text : List ℕ) (head : Head) (cut : Framing) : Type 0 where
  pub blank : List (List ℕ)
  pub lines : List (List ℕ)
  pub last : List ℕ
  pub whole : IsHeadText text blank lines last
  pub fits : length text ≤ limits.head
  pub good : IsGoodHead limits lines last head cut

-- the first bytes, as many as a head may have, hold no whole head text
pub record IsOverlong (limits : Limits) (text : List ℕ) : Type 0 where
  pub full : length text ≡ limits.head
  pub none : (front rest : List ℕ) (blank lines : List (List ℕ)) (last : List ℕ) → IsHeadText front blank lines last → text ≡ front ++ rest → ⊥

-- a whole head text with a fault
pub record IsBadHeadText (limits : Limits) (text : List ℕ) (f : FrameFault) : Type 0 where
  pub blank : List (List ℕ)
  pub lines : List (List ℕ)
  pub last : List ℕ
  pub whole : IsHeadText text blank lines last
  pub fits : length text ≤ limits.head
  pub bad : IsBadHead limits lines last f

-- the shortest text that shows the first fault of a head
abbrev pub IsRefusedHead : Limits → List ℕ → FrameFault → Type 0
IsRefusedHead limits text f = ((f ≡ fault.HeadTooLong) × IsOverlong limits text) ⊎ IsBadHeadText limits text f

-- a message: its head, its content and whether it keeps the connection, or its first fault
pub data Message : Type 0 where
  whole : Head → List ℕ → Bool → Message
  refused : FrameFault → Message

-- the version and the `Connection` field let the connection stay
abbrev pub stays : Head → Bool
stays head = stays_by head.minor (connection_of head.fields)

-- a body by length or by chunks, and its content
abbrev pub IsBody : Limits → Framing → List ℕ → List ℕ → Type 0
IsBody limits (framing.Length n) text content = (length text ≡ n) × (content ≡ text)
IsBody limits framing.Chunked text content = IsChunkedBody limits.body text content

-- the text is a whole message; number counts the messages of a connection from 1
pub record IsWhole (limits : Limits) (number : ℕ) (text : List ℕ) (head : Head) (content : List ℕ) (keeps : Bool) : Type 0 where
  pub cut : Framing
  pub front : List ℕ
  pub body : List ℕ
  pub spelled : text ≡ front ++ body
  pub good : IsGoodHeadText limits front head cut
  pub body_is : IsBody limits cut body content
  pub keeps_is : keeps ≡ (stays head && not (number == limits.requests))

-- a good head and the shortest front of its chunked body that shows the fault
pub record IsCutShort (limits : Limits) (text : List ℕ) (f : FrameFault) : Type 0 where
  pub head : Head
  pub front : List ℕ
  pub body : List ℕ
  pub spelled : text ≡ front ++ body
  pub good : IsGoodHeadText limits front head framing.Chunked
  pub bad : IsBadBody limits.body body f

-- the text spells the message; a refused one by the shortest text that shows its fault
abbrev pub IsSpelling : Limits → ℕ → Message → List ℕ → Type 0
IsSpelling limits number (whole head content keeps) text = IsWhole limits number text head content keeps
IsSpelling limits number (refused f) text = IsRefusedHead limits text f ⊎ IsCutShort limits text f

-- the message keeps the connection
abbrev pub keeps_of : Message → Bool
keeps_of (whole head content keeps) = keeps
keeps_of (refused f) = false

-- all messages keep the connection
abbrev pub AllKeep : List Message → Type 0
AllKeep messages = AllByRecursion (λ m. keeps_of m ≡ true) messages

-- the text is the spellings of the messages, one after the other, and all but the last keep the connection;
-- the first has this number
abbrev pub IsSpelled : Limits → ℕ → List Message → List ℕ → Type 0
IsSpelled limits number [] text = text ≡ []
IsSpelled limits number (m ∷ messages) text = (front : List ℕ) × (rest : List ℕ) × (text ≡ front ++ rest) × IsSpelling limits number m front
    × IsSpelled limits (number + 1) messages rest × (0 < length messages → keeps_of m ≡ true)

-- no front of the text spells a message of this number
abbrev pub BeginsNone : Limits → ℕ → List ℕ → Type 0
BeginsNone limits number text = (front : List ℕ) (rest : List ℕ) (m : Message) → text ≡ front ++ rest → IsSpelling limits number m front → ⊥

-- the bytes are the spellings of the messages, then rest, which begins with none where another may come
pub record Spells (limits : Limits) (bytes : List ℕ) (messages : List Message) (rest : List ℕ) : Type 0 where
  pub front : List ℕ
  pub split : bytes ≡ front ++ rest
  pub spelled : IsSpelled limits 1 messages front
  pub no_more : AllKeep messages → BeginsNone limits (length messages + 1) rest
