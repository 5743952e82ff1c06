-- What a writer has written.
use Rattle.gcs_render.specs.Shown.{Sent}
use Rattle.gcs_render.specs.declared.writing.FieldWriter.{FieldWriter}

-- the bytes before it began, and its tokens
abbrev pub sent : FieldWriter → Sent
sent fields = (fields.out.before, fields.out.tokens)
