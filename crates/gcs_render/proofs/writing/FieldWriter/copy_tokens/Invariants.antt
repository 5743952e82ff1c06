use Rattle.std.proofs.Common.{◌≡◌, length}
use Rattle.json.specs.Lex.{tokens}
use Rattle.gcs_render.specs.Shown.{AreGood, with_tokens}
use Rattle.gcs_render.specs.Writing.{sent}
use Rattle.gcs_render.proofs.writing.FieldWriter.copy_tokens.Given as goal

-- the tokens that are left are good, and make the same of what is written
abbrev pub invariant-loop-token : goal.invariant-loop-token
invariant-loop-token l = AreGood l.reader × (with_tokens l.reader (sent l.self) ≡ with_tokens (tokens l.fn.text) (sent l.fn.self))

abbrev pub decreases-loop-token : goal.decreases-loop-token
decreases-loop-token l = length l.reader
