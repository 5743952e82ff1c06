-- How many bytes a connection may have (RFC 9112, 6 and 7.1).
use Rattle.std.specs.Prelude.{ℕ, ◌+◌, ◌*◌}
use Rattle.gcs_http_in.specs.declared.limits.Limits.{Limits}
use Rattle.gcs_http_in.specs.Chunks.{line_room, trailer_room}

-- no body has more bytes: each byte of content may be a chunk of its own, with a line and CR LF, and then come the last line and the trailer
abbrev pub most_body : Limits → ℕ
most_body limits = (line_room + 3) * limits.body + (line_room + trailer_room)

-- no message has more bytes
abbrev pub most_message : Limits → ℕ
most_message limits = limits.head + most_body limits

-- no messages that all keep the connection have more bytes, with what has come of the next one
unfoldable pub most_bytes : Limits → ℕ
most_bytes limits = limits.requests * most_message limits
