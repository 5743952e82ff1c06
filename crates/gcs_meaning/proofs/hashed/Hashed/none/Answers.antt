use Rattle.std.proofs.Common.{[], refl, sym, ap, ◌∙◌}
use Rattle.gcs_chunks.specs.Content.{bytes_of}
use Rattle.gcs_chunks.proofs.Words.{bytes_of-no_content}
use Rattle.gcs_crc.specs.Crc.{crc}
use Rattle.gcs_meaning.proofs.hashed.Hashed.none.Goals as goal

pub invariant_of-result : goal.invariant_of-result
invariant_of-result c = (c.value.ensures [] c.new.ensures ∙ ap crc (sym (ap bytes_of c.empty.ensures.none ∙ bytes_of-no_content)), refl)
