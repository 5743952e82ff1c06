use Rattle.std.proofs.Common.{sym, arith, length}
use Rattle.std.proofs.lemmas.Bool.{eqb-false}
use Rattle.gcs_index.proofs.PlaceLemmas.{size_is, some_in}
use Rattle.gcs_index.proofs.seeking.first_in.Goals as goal

pub returns-else-is_empty-clause-good : goal.returns-else-is_empty-clause-good
returns-else-is_empty-clause-good g c =
    let bs = c.args.blocks.now in
    let apart = eqb-false (length bs) 0 (sym c.if-is_empty.ensures) in
    omega (arith, size_is bs 0, some_in bs 0 c.requires.blocks.sizes (omega arith))
