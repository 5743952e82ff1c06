-- Which contents of a session lie in which chunks.
use Rattle.std.specs.Prelude.{IfSome}
use Rattle.gcs_chunks.specs.Content.{ChunksValue, ContentLiesIn}
use Rattle.gcs_rewrite.specs.Contents.{ReplyLiesIn}
use Rattle.gcs_reply.specs.Outgoing.{OutgoingLiesIn}
use Rattle.gcs_session.specs.declared.answering.Ran.{Ran}
use Rattle.gcs_session.specs.declared.answering.Ran.TheVariants.{Said, Wanting}
use Rattle.gcs_session.specs.declared.body.Body.{Body}
use Rattle.gcs_session.specs.declared.body.Body.TheVariants as body
use Rattle.gcs_session.specs.declared.coming.Coming.{Coming}
use Rattle.gcs_session.specs.declared.hashing.Hashing.{Hashing}
use Rattle.gcs_session.specs.declared.kept.Kept.{Kept}
use Rattle.gcs_session.specs.declared.session.Session.{Session}
use Rattle.gcs_session.specs.declared.two_parts.PartsKept.{PartsKept}
use Rattle.gcs_session.specs.declared.two_parts.PartsKept.TheVariants as kept
use Rattle.gcs_session.specs.declared.two_parts.TwoParts.{TwoParts}
use Rattle.gcs_session.specs.declared.unsent.Unsent.{Unsent}

-- what is kept of a content
abbrev pub KeptLiesIn : ChunksValue → Kept → Type 0
KeptLiesIn chunks k = ContentLiesIn chunks k.content

-- the same, where its bytes are digested as they come
abbrev pub HashingLiesIn : ChunksValue → Hashing → Type 0
HashingLiesIn chunks hashing = KeptLiesIn chunks hashing.kept

-- what is kept of parts: of two of them the content
abbrev pub PartsKeptLieIn : ChunksValue → PartsKept → Type 0
PartsKeptLieIn chunks kept.Nothing = Unit {0}
PartsKeptLieIn chunks (kept.One text) = Unit {0}
PartsKeptLieIn chunks (kept.Two text kind content) = HashingLiesIn chunks content
PartsKeptLieIn chunks kept.TooLong = Unit {0}
PartsKeptLieIn chunks kept.Others = Unit {0}

-- what has come of a body of two parts
abbrev pub TwoPartsLieIn : ChunksValue → TwoParts → Type 0
TwoPartsLieIn chunks two = PartsKeptLieIn chunks two.kept

-- what has come of a body
abbrev pub BodyLiesIn : ChunksValue → Body → Type 0
BodyLiesIn chunks body.PassedOver = Unit {0}
BodyLiesIn chunks (body.Content content) = IfSome content (HashingLiesIn chunks)
BodyLiesIn chunks (body.Piece piece) = IfSome piece (KeptLiesIn chunks)
BodyLiesIn chunks (body.Text text) = Unit {0}
BodyLiesIn chunks (body.Parts parts) = IfSome parts (TwoPartsLieIn chunks)

-- a message whose head has come
abbrev pub ComingLiesIn : ChunksValue → Coming → Type 0
ComingLiesIn chunks coming = BodyLiesIn chunks coming.body

-- what a script says
abbrev pub RanLiesIn : ChunksValue → Ran → Type 0
RanLiesIn chunks (Said reply stepped) = ReplyLiesIn chunks reply
RanLiesIn chunks (Wanting stepped) = Unit {0}

-- what waits to be written
abbrev pub UnsentLiesIn : ChunksValue → Unsent → Type 0
UnsentLiesIn chunks unsent = OutgoingLiesIn chunks unsent.text

-- a session: the message under way, and what waits
pub record SessionLiesIn (chunks : ChunksValue) (s : Session) : Type 0 where
  pub coming : IfSome s.coming (ComingLiesIn chunks)
  pub unsent : UnsentLiesIn chunks s.unsent
