-- What a session has read, answered and given out.
use Rattle.std.specs.Prelude.{◌≡◌, ◌≢◌, ◌≤◌, ℕ, ◌+◌, ◌==◌, ◌&&◌, not, Bool, true, false, List, [], ◌∷◌, ◌++◌, length, take, Option, Some, None}
use Rattle.gcs_io.specs.Told.{Gains}
use Rattle.gcs_http_in.specs.declared.limits.Limits.{Limits}
use Rattle.gcs_http_in.specs.Head.{Head}
use Rattle.gcs_http_in.specs.Message.{Message, whole, refused, keeps_of, stays, AllKeep}
use Rattle.gcs_http_in.specs.Progress.{Current}
use Rattle.gcs_http_in.specs.Stands.{Stands, IsWaiting, limits_of}
use Rattle.gcs_meaning.specs.Desk.{Histories, AreUnmoved}
use Rattle.gcs_session.specs.declared.coming.Coming.{Coming}
use Rattle.gcs_session.specs.declared.session.Session.{Session}
use Rattle.gcs_session.specs.declared.session.Fed.{Fed}
use Rattle.gcs_session.specs.declared.session.Event.{Event}
use Rattle.gcs_session.specs.declared.session.Event.TheVariants as event
use Rattle.gcs_session.specs.declared.session.Want.{Want}
use Rattle.gcs_session.specs.declared.session.Want.TheVariants.{More, Drain, Close}
use Rattle.gcs_session.specs.Coming.{IsComing}
use Rattle.gcs_session.specs.Running.{GoesOn, lengths}
use Rattle.gcs_session.specs.Unsent.{unsent_bytes}
use Rattle.gcs_session.specs.Served.{Answers, Serves}

-- the bytes of the reply that wait to be written
abbrev pub waiting_in : Session → List ℕ
waiting_in s = unsent_bytes s.unsent

-- the limits of a session
abbrev pub limits_in : Session → Limits
limits_in s = limits_of s.framer

-- a message under way is the one that the session gathers
abbrev pub IsUnderWay : Limits → List Message → Option Current → Option Coming → Type 0
IsUnderWay limits messages None None = Unit {0}
IsUnderWay limits messages None (Some coming) = ⊥
IsUnderWay limits messages (Some it) None = ⊥
IsUnderWay limits messages (Some it) (Some coming) =
    IsComing limits it.head it.content (stays it.head && not (1 + length messages == limits.requests)) coming

-- the connection is closed by the last message, or all of them keep it
abbrev pub IsClosedBy : Bool → List Message → Type 0
IsClosedBy true messages = AllKeep messages → ⊥
IsClosedBy false messages = AllKeep messages

-- the session took these bytes, which spell these messages and the front of one more; its replies to them are the text, of
-- which this much was drained
pub record IsReading (s : Session) (bytes : List ℕ) (messages : List Message) (text drained : List ℕ) : Type 0 where
  pub current : Option Current
  pub stands : Stands s.framer bytes messages current
  pub under_way : IsUnderWay (limits_of s.framer) messages current s.coming
  pub closed : IsClosedBy s.closed messages
  pub waits : text ≡ drained ++ unsent_bytes s.unsent

-- the same, and no end of a message waits to be told
abbrev pub IsSession : Session → List ℕ → List Message → List ℕ → List ℕ → Type 0
IsSession s bytes messages text drained = IsReading s bytes messages text drained × (IsWaiting s.framer → ⊥)

-- the session has read something, if only nothing
abbrev pub IsRunning : Session → Type 0
IsRunning s = (bytes : List ℕ) × (messages : List Message) × (text : List ℕ) × (drained : List ℕ) × IsSession s bytes messages text drained

-- what the session wants is that what waits is written; where nothing waits, that the connection is closed, or more bytes
abbrev pub IsWantOf : List ℕ → Bool → Want → Type 0
IsWantOf waiting closed Drain = waiting ≢ []
IsWantOf waiting closed Close = (waiting ≡ []) × (closed ≡ true)
IsWantOf waiting closed More = (waiting ≡ []) × (closed ≡ false)

-- after a call of `feed`: what it wants is what waits, and it wants more only once it took the whole piece. It takes nothing while
-- bytes wait to be written, nor once the connection is closed
pub record IsWanted (old s : Session) (piece : List ℕ) (fed : Fed) : Type 0 where
  pub within : fed.taken ≤ length piece
  pub want : IsWantOf (waiting_in s) s.closed fed.want
  pub whole : fed.want ≡ More → fed.taken ≡ length piece
  pub waits : waiting_in old ≢ [] → fed.taken ≡ 0
  pub shut : old.closed ≡ true → fed.taken ≡ 0

-- what the desk and the clock tell at one moment
pub record Seen : Type 0 where
  pub given : Option (List ℕ)
  pub saw : Histories
  pub own : Histories

-- a call took the front of the piece: it read at most one message more, answered it and added its reply, which waits alone: all
-- replies before it were given out. Where it read none, the lists and the readings stay
pub record IsFed (caller : ℕ) (a b : Seen) (s : Session) (piece : List ℕ) (fed : Fed) (bytes : List ℕ) (messages : List Message) (text drained : List ℕ) : Type 0 where
  pub told : List Message
  pub one : length told ≤ 1
  pub moments : List ℕ
  pub reply : List ℕ
  pub clocked : Gains a.given b.given moments
  pub goes_on : GoesOn caller a.saw a.own b.saw b.own
  pub alone : (told ≡ [] → ⊥) → drained ≡ text
  pub quiet : told ≡ [] → AreUnmoved a.saw a.own b.saw b.own
  pub served : Serves (limits_in s) told moments b.saw caller (lengths a.own) reply (lengths b.own)
  pub session : IsSession s (bytes ++ take fed.taken piece) (messages ++ told) (text ++ reply) drained

-- the bytes end with the last of these messages
pub record IsEndedBy (s : Session) (bytes : List ℕ) (messages : List Message) (text drained : List ℕ) : Type 0 where
  pub stands : Stands s.framer bytes messages None
  pub waits : text ≡ drained ++ unsent_bytes s.unsent

-- the message that is whole is the one that the session gathers
abbrev pub IsWholeIn : Limits → Head → List ℕ → Bool → Option Coming → Type 0
IsWholeIn limits head content keeps None = ⊥
IsWholeIn limits head content keeps (Some coming) = IsComing limits head content keeps coming

-- a message was answered: its reply waits, whole
pub record IsReplied (caller : ℕ) (a b : Seen) (s : Session) (m : Message) : Type 0 where
  pub moments : List ℕ
  pub clocked : Gains a.given b.given moments
  pub goes_on : GoesOn caller a.saw a.own b.saw b.own
  pub answers : Answers (limits_in s) m moments b.saw caller (lengths a.own) (unsent_bytes s.unsent) (lengths b.own)
  pub coming : s.coming ≡ None
  pub closed : s.closed ≡ not (keeps_of m)

-- all that waited was given out
pub record IsDrained (old new : Session) : Type 0 where
  pub limits : limits_in new ≡ limits_in old
  pub closed : new.closed ≡ old.closed
  pub session : (bytes : List ℕ) (messages : List Message) (text drained : List ℕ) → IsSession old bytes messages text drained → IsSession new bytes messages text text

-- where gathering stopped: at the end of the bytes, or at the end of a message, which is whole or refused
abbrev pub IsGatheredTo : Event → Session → List ℕ → List Message → List ℕ → List ℕ → Type 0
IsGatheredTo event.More s bytes messages text drained = IsSession s bytes messages text drained
IsGatheredTo event.End s bytes messages text drained =
    (it : Current) × (keeps : Bool) × IsWholeIn (limits_in s) it.head it.content keeps s.coming × IsEndedBy s bytes (messages ++ whole it.head it.content keeps ∷ []) text drained
IsGatheredTo (event.Fault fault) s bytes messages text drained = IsEndedBy s bytes (messages ++ refused fault ∷ []) text drained
