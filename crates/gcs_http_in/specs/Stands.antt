-- What a framer has read of the bytes that it took.
use Rattle.std.specs.Prelude.{◌≡◌, ℕ, ◌+◌, ◌<◌, ◌≤◌, ◌⊎◌, Bool, false, ◌&&◌, not, ◌==◌, List, [], ◌∷◌, ◌++◌, length, take, slice_range, Option, Some, None}
use Rattle.gcs_http_in.specs.declared.fields.Framing.TheVariants as framing
use Rattle.gcs_http_in.specs.declared.framer.Framer.{Framer}
use Rattle.gcs_http_in.specs.declared.state.State.{State}
use Rattle.gcs_http_in.specs.declared.state.State.TheVariants as state
use Rattle.gcs_http_in.specs.declared.state.Step.{Step}
use Rattle.gcs_http_in.specs.declared.state.Step.TheVariants as step
use Rattle.gcs_http_in.specs.declared.state.Taken.{Taken}
use Rattle.gcs_http_in.specs.declared.state.Taken.TheVariants as taken
use Rattle.gcs_http_in.specs.declared.limits.Limits.{Limits}
use Rattle.std.specs.List.{list_all}
use Rattle.gcs_http_in.specs.Lines.{is_end_byte}
use Rattle.gcs_http_in.specs.Head.{Head}
use Rattle.gcs_http_in.specs.Message.{Message, whole, refused, stays, IsGoodHeadText, IsWhole, IsSpelled, AllKeep, keeps_of}
use Rattle.gcs_http_in.specs.Progress.{Current}
use Rattle.gcs_http_in.specs.ChunkState.{BodyStands, left_of}
use Rattle.gcs_http_in.specs.Reader.{HeadStands, HoldsHead}

-- the limits that it was made with
abbrev pub limits_of : Framer → Limits
limits_of f = f.head.limits

-- between two messages, or in a head
pub record InHead (f : Framer) (messages : List Message) (part : List ℕ) (current : Option Current) : Type 0 where
  pub none : current ≡ None
  pub keep : AllKeep messages
  pub left : length messages + f.left ≡ (limits_of f).requests
  pub some : 0 < f.left
  pub head : HeadStands f.head part

-- in a body by length, of which so many bytes are left
pub record InLength (f : Framer) (count : ℕ) (messages : List Message) (part : List ℕ) (current : Option Current) : Type 0 where
  pub it : Current
  pub is : current ≡ Some it
  pub keep : AllKeep messages
  pub left : length messages + f.left ≡ (limits_of f).requests
  pub some : 0 < f.left
  pub front : List ℕ
  pub spelled : part ≡ front ++ it.content
  pub good : IsGoodHeadText (limits_of f) front it.head (framing.Length (length it.content + count))
  pub holds : HoldsHead f.head it.head
  pub keeps : f.keeps ≡ (stays it.head && not (f.left == 1))

-- in a body by chunks
pub record InChunks (f : Framer) (messages : List Message) (part : List ℕ) (current : Option Current) : Type 0 where
  pub it : Current
  pub is : current ≡ Some it
  pub keep : AllKeep messages
  pub left : length messages + f.left ≡ (limits_of f).requests
  pub some : 0 < f.left
  pub front : List ℕ
  pub text : List ℕ
  pub spelled : part ≡ front ++ text
  pub good : IsGoodHeadText (limits_of f) front it.head framing.Chunked
  pub holds : HoldsHead f.head it.head
  pub keeps : f.keeps ≡ (stays it.head && not (f.left == 1))
  pub body : BodyStands f.body text it.content

-- after a message that doesn't keep the connection, where the bytes since may all be CR and LF
pub record InClosed (bare : Bool) (messages : List Message) (part : List ℕ) (current : Option Current) : Type 0 where
  pub none : current ≡ None
  pub before : List Message
  pub last : Message
  pub are : messages ≡ before ++ last ∷ []
  pub closes : keeps_of last ≡ false
  pub bare_is : bare ≡ list_all is_end_byte part

-- what stands after the whole messages, by the state
abbrev pub StandsIn : Framer → State → List Message → List ℕ → Option Current → Type 0
StandsIn f state.Head messages part current = InHead f messages part current
StandsIn f (state.Length count) messages part current = InLength f count messages part current
StandsIn f state.Chunked messages part current = InChunks f messages part current
StandsIn f (state.Closed bare) messages part current = InClosed bare messages part current

-- the bytes that the framer took spell these messages, and then the front of the current one
pub record Stands (f : Framer) (bytes : List ℕ) (messages : List Message) (current : Option Current) : Type 0 where
  pub front : List ℕ
  pub part : List ℕ
  pub split : bytes ≡ front ++ part
  pub spelled : IsSpelled (limits_of f) 1 messages front
  pub inside : StandsIn f f.state messages part current

-- what a step with these events makes of the messages and the current one
abbrev pub Pushed : Framer → Step → List ℕ → List Message → Option Current → Type 0
Pushed f step.More bytes messages current = Stands f bytes messages current
Pushed f step.Head bytes messages current = (current ≡ None) × ((head : Head) × Stands f bytes messages (Some record { head = head; content = [] }))
Pushed f step.End bytes messages current = (c : Current) × (current ≡ Some c) × (keeps : Bool) × Stands f bytes (messages ++ whole c.head c.content keeps ∷ []) None
Pushed f (step.Fault e) bytes messages current = Stands f bytes (messages ++ refused e ∷ []) None

-- the current message is whole
pub record IsReady (f : Framer) (bytes : List ℕ) (messages : List Message) (it : Current) : Type 0 where
  pub front : List ℕ
  pub part : List ℕ
  pub split : bytes ≡ front ++ part
  pub spelled : IsSpelled (limits_of f) 1 messages front
  pub keep : AllKeep messages
  pub left : length messages + f.left ≡ (limits_of f).requests
  pub some : 0 < f.left
  pub whole_is : IsWhole (limits_of f) (1 + length messages) part it.head it.content f.keeps

-- the next byte is none of content, and a message doesn't wait for its end to be told
abbrev pub IsAtByte : Framer → State → Type 0
IsAtByte f state.Head = Unit {0}
IsAtByte f (state.Length count) = ⊥
IsAtByte f state.Chunked = left_of f.body.place ≡ 0
IsAtByte f (state.Closed bare) = Unit {0}

-- the last byte of a body by length has been told, and its end hasn't
abbrev pub IsDue : State → Type 0
IsDue s = s ≡ state.Length 0

-- how many bytes of content come next
abbrev pub content_left : Framer → State → ℕ
content_left f state.Head = 0
content_left f (state.Length count) = count
content_left f state.Chunked = left_of f.body.place
content_left f (state.Closed bare) = 0

-- after a step that is no head no end waits to be told
abbrev pub StaysOpen : State → Step → Type 0
StaysOpen s step.More = IsDue s → ⊥
StaysOpen s step.Head = Unit {0}
StaysOpen s step.End = IsDue s → ⊥
StaysOpen s (step.Fault e) = IsDue s → ⊥

-- the piece is content of the current message
abbrev pub TakesContent : Framer → List ℕ → List ℕ → List Message → Option Current → Type 0
TakesContent f piece bytes messages current = (c : Current) × (current ≡ Some c)
    × Stands f (bytes ++ piece) messages (Some record { head = c.head; content = c.content ++ piece })

-- what a call tells of the bytes that it took
abbrev pub Told : Framer → List ℕ → Taken → List ℕ → List Message → Option Current → Type 0
Told f piece (taken.More n) bytes messages current = Pushed f step.More (bytes ++ take n piece) messages current
Told f piece (taken.Head n) bytes messages current = Pushed f step.Head (bytes ++ take n piece) messages current
Told f piece (taken.Body n from to) bytes messages current = (c : Current) × (current ≡ Some c)
    × Stands f (bytes ++ take n piece) messages (Some record { head = c.head; content = c.content ++ slice_range piece from to })
Told f piece (taken.End n) bytes messages current = Pushed f step.End (bytes ++ take n piece) messages current
Told f piece (taken.Fault n e) bytes messages current = Pushed f (step.Fault e) (bytes ++ take n piece) messages current

-- the end of a message whose last byte was told is told by the next call, which takes nothing
abbrev pub IsWaiting : Framer → Type 0
IsWaiting f = IsDue f.state

-- the current message keeps the connection
abbrev pub will_keep : Framer → Bool
will_keep f = f.keeps

-- how much of the piece a call took: all of it, or at least a byte, or nothing for an end that waited
abbrev pub Took : Framer → Framer → List ℕ → Taken → Type 0
Took f g piece (taken.More n) = (n ≡ length piece) × (IsWaiting f → ⊥) × (IsWaiting g → ⊥)
Took f g piece (taken.Head n) = (0 < n) × (n ≤ length piece)
Took f g piece (taken.Body n from to) = (from < to) × (to ≡ n) × (n ≤ length piece)
Took f g piece (taken.End n) = ((0 < n) ⊎ IsWaiting f) × (n ≤ length piece) × (IsWaiting g → ⊥)
Took f g piece (taken.Fault n e) = (0 < n) × (n ≤ length piece)

-- the head of a message was told, and its end wasn't
abbrev pub IsInMessage : Framer → Type 0
IsInMessage f = (bytes : List ℕ) × (messages : List Message) × (it : Current) × Stands f bytes messages (Some it)
