use Rattle.std.proofs.Common.{List, ℕ, sym, subst}
use Rattle.gcs_chunks.specs.Content.{bytes_of}
use Rattle.gcs_crc.specs.Digests.{StandsAfter}
use Rattle.gcs_meaning.proofs.Slices.{slice_next, slice_within}
use Rattle.gcs_meaning.proofs.hashed.digests_of.Goals as goal

pub loop-at-preserved : goal.loop-at-preserved
loop-at-preserved c =
    let bytes : List ℕ = bytes_of c.args.content.now in
    let part : List ℕ = c.slice_at-part.result.now in (
      slice_within bytes part c.loop-at.at c.loop-at.invariant.0 c.slice_at-part.ensures.bytes,
      subst (StandsAfter c.update.new.self) (sym (slice_next bytes part c.loop-at.at c.loop-at.invariant.0 c.slice_at-part.ensures.bytes)) (c.update.ensures _ c.loop-at.invariant.1),
    )
