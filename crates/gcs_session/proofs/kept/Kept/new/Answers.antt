-- No bytes have come.
use Rattle.std.proofs.Common.{◌++◌, ap, ap₂, sym, ◌∙◌}
use Rattle.gcs_chunks.specs.Content.{bytes_of}
use Rattle.gcs_chunks.proofs.Words.{bytes_of-no_content}
use Rattle.gcs_session.proofs.kept.Kept.new.Goals as goal

pub returns-clause-held : goal.returns-clause-held
returns-clause-held c = sym (ap₂ (λ a b. a ++ b) (ap bytes_of c.empty.ensures.none ∙ bytes_of-no_content) c.new.ensures)
