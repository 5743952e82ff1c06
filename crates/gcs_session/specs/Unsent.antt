-- The bytes of a reply that wait to be written.
use Rattle.std.specs.Prelude.{ℕ, List, drop}
use Rattle.gcs_session.specs.declared.unsent.Unsent.{Unsent}
use Rattle.gcs_reply.specs.Outgoing.{outgoing_bytes}

-- what was not given out yet
abbrev pub unsent_bytes : Unsent → List ℕ
unsent_bytes u = drop u.sent (outgoing_bytes u.text)
