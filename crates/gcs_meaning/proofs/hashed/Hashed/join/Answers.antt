use Rattle.std.proofs.Common.{refl, sym, ap, ◌∙◌}
use Rattle.gcs_chunks.specs.Content.{bytes_of}
use Rattle.gcs_crc.specs.Crc.{crc}
use Rattle.gcs_meaning.proofs.hashed.Hashed.join.Goals as goal

pub invariant_of-self-2 : goal.invariant_of-self-2
invariant_of-self-2 c =
    let a = bytes_of c.self.inside.content in
    let b = bytes_of c.other.inside.content in
    (c.combine-crc32c.ensures a b c.self.invariant.0 c.other.invariant.0 c.len.ensures.length ∙ ap crc (sym c.in_ok-join.ensures.bytes), refl)
