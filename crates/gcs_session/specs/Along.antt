-- A connection under way.
use Rattle.std.specs.Prelude.{◌≡◌, ◌≤◌, ℕ, List, [], ◌++◌, length, Bool, false, Option, Some, None}
use Rattle.gcs_http_in.specs.declared.limits.Limits.{Limits}
use Rattle.gcs_http_in.specs.Message.{Message}
use Rattle.gcs_http_in.specs.Usual.{IsAllowed}
use Rattle.gcs_session.specs.declared.ends.SessionEnd.{SessionEnd}
use Rattle.gcs_session.specs.declared.ends.SessionEnd.TheVariants.{Ended, Closed, Cut, ReadFault, WriteFault, NoMemory}
use Rattle.gcs_session.specs.declared.session.Session.{Session}
use Rattle.gcs_session.specs.Connection.{Outside, Moved, IsServed}
use Rattle.gcs_session.specs.Running.{lengths}
use Rattle.gcs_session.specs.Served.{Serves}
use Rattle.gcs_session.specs.Session.{IsSession, limits_in}

-- the session took the bytes that were read, but for these last ones; all messages in them were answered, and all replies
-- written
pub record IsAlong (limits : Limits) (caller : ℕ) (a b : Outside) (s : Session) (last : List ℕ) : Type 0 where
  pub allowed : IsAllowed limits
  pub limits_are : limits_in s ≡ limits
  pub fed : List ℕ
  pub moments : List ℕ
  pub messages : List Message
  pub text : List ℕ
  pub moved : Moved caller a b (fed ++ last) text moments
  pub session : IsSession s fed messages text text
  pub served : Serves limits messages moments b.saw caller (lengths a.own) text (lengths b.own)

-- what a piece leaves: the connection goes on, with at least this many bytes taken, or has ended
abbrev pub AlongTo : Option SessionEnd → ℕ → Limits → ℕ → Outside → Outside → Session → Type 0
AlongTo None taken limits caller a b s = (x : IsAlong limits caller a b s []) × (s.closed ≡ false) × (taken ≤ length x.fed)
AlongTo (Some Closed) taken limits caller a b s = (ended : Bool) → IsServed limits caller a b ended Closed
AlongTo (Some WriteFault) taken limits caller a b s = IsServed limits caller a b false WriteFault
AlongTo (Some Ended) taken limits caller a b s = ⊥
AlongTo (Some Cut) taken limits caller a b s = ⊥
AlongTo (Some ReadFault) taken limits caller a b s = ⊥
AlongTo (Some NoMemory) taken limits caller a b s = ⊥
