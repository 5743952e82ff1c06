use Rattle.std.proofs.Common.{◌<◌, ◌-◌, sym, ap, arith, length}
use Rattle.std.specs.Vec.{vec_len}
use Rattle.std.proofs.lemmas.Bool.{eqb-false}
use Rattle.gcs_index.specs.declared.blocks.Block.{Block}
use Rattle.gcs_index.proofs.EditLemmas.{at_is}
use Rattle.gcs_index.proofs.PlaceLemmas.{before_is, size_is, before_next, before_all, some_in}
use Rattle.gcs_index.proofs.seeking.last_in.Goals as goal

pub returns-clause-good : goal.returns-clause-good
returns-clause-good g c =
    let bs = c.args.blocks.now in
    let k = length bs - 1 in
    let b = c.index-blocks-block.result in
    let apart = eqb-false (length bs) 0 (sym c.if-is_empty.ensures) in
    let within : k < length bs = omega arith in
    let same = at_is bs k b within c.index-blocks-block.is in
    let len = ap (λ (x : Block g.row.K.Denot g.row.V.Denot). vec_len x.entries) c.index-blocks-block.is in
    omega (arith, c.len-at.ensures, size_is bs k, ap length same, len, b.entries.ok.0, some_in bs k c.requires.blocks.sizes within)

pub returns-clause-last : goal.returns-clause-last
returns-clause-last g c =
    let bs = c.args.blocks.now in
    let k = length bs - 1 in
    let b = c.index-blocks-block.result in
    let apart = eqb-false (length bs) 0 (sym c.if-is_empty.ensures) in
    let within : k < length bs = omega arith in
    let same = at_is bs k b within c.index-blocks-block.is in
    let len = ap (λ (x : Block g.row.K.Denot g.row.V.Denot). vec_len x.entries) c.index-blocks-block.is in
    omega (
      arith,
      c.len-at.ensures,
      before_is bs k,
      ap length same,
      len,
      b.entries.ok.0,
      some_in bs k c.requires.blocks.sizes within,
      before_next bs k (length bs) within (omega arith),
      before_all bs (length bs) (omega arith),
    )
