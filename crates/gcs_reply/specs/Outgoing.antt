-- The bytes of a text that is written, and the chunks in which they lie.
use Rattle.std.specs.Prelude.{ℕ, List, ◌++◌}
use Rattle.gcs_chunks.specs.Content.{ChunksValue, ContentLiesIn}
use Rattle.gcs_reply.specs.declared.outgoing.Outgoing.{Outgoing}
use Rattle.gcs_reply.specs.declared.outgoing.Outgoing.TheVariants.{Text, Turned, Fixed, Media}
use Rattle.gcs_reply.specs.Excerpt.{cut_bytes}

-- the bytes of a text that is written
abbrev pub outgoing_bytes : Outgoing → List ℕ
outgoing_bytes (Text bytes) = bytes.items
outgoing_bytes (Turned text) = text
outgoing_bytes (Fixed bytes) = bytes.now
outgoing_bytes (Media head body) = head.items ++ cut_bytes body

-- the content behind a head, where there is one, lies in these chunks
abbrev pub OutgoingLiesIn : ChunksValue → Outgoing → Type 0
OutgoingLiesIn chunks (Media head body) = ContentLiesIn chunks body.content
OutgoingLiesIn chunks _ = Unit {0}
