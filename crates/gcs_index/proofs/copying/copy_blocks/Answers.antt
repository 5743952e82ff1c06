use Rattle.std.proofs.Common.{◌+◌, List, sym, subst, refl, take}
use Rattle.gcs_index.specs.declared.blocks.Block.{Block}
use Rattle.gcs_index.specs.Blocks.{AreCopies}
use Rattle.gcs_index.proofs.CopyLemmas.{copies_next}
use Rattle.gcs_index.proofs.copying.copy_blocks.Goals as goal

pub loop-block-preserved : goal.loop-block-preserved
loop-block-preserved g c =
    let bs = c.deref-block-items.result.now in
    let i = c.loop-block.block-index in
    let b = c.block-item.result in
    let m = c.in_ok-copy_block.field-0 in
    let same = c.in_ok-copy_block.ensures.entries in
    subst (λ (l : List (Block g.row.K.Denot g.row.V.Denot)). AreCopies l (take (i + 1) bs)) (sym c.in_ok-push.ensures.items)
    (copies_next c.loop-block.copies.items bs i (i + 1) m b refl c.loop-block.invariant c.loop-block-test.true c.block-item.is same c.in_ok-copy_block.ensures.room)
