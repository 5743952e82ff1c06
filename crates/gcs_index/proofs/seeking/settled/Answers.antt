use Rattle.std.proofs.Common.{◌≡◌, ◌<◌, ◌≤◌, ◌+◌, sym, ap, arith, length}
use Rattle.std.specs.Vec.{vec_len}
use Rattle.std.proofs.lemmas.Bool.{eqb-false}
use Rattle.gcs_index.specs.declared.blocks.Block.{Block}
use Rattle.gcs_index.specs.Blocks.{entries_at}
use Rattle.gcs_index.proofs.EditLemmas.{at_is, place_within, place_inside}
use Rattle.gcs_index.proofs.PlaceLemmas.{before_is, size_is, before_next, before_all, some_in}
use Rattle.gcs_index.proofs.seeking.settled.Goals as goal

pub returns-then-place-len-clause-good : goal.returns-then-place-len-clause-good
returns-then-place-len-clause-good g c =
    let bs = c.args.blocks.now in
    let k = c.args.place.block in
    let b = c.index-blocks-place.result in
    let apart = eqb-false (length bs) 0 (sym c.if-is_empty.ensures) in
    let within : k < length bs = place_within bs k c.args.place.at c.requires.place (omega arith) in
    let same = at_is bs k b within c.index-blocks-place.is in
    let len = ap (λ (x : Block g.row.K.Denot g.row.V.Denot). vec_len x.entries) c.index-blocks-place.is in
    omega (arith, c.if-place-len.true, c.len.ensures, size_is bs k, ap length same, len, b.entries.ok.0)

pub returns-then-place-len-clause-same : goal.returns-then-place-len-clause-same
returns-then-place-len-clause-same g c = ap (λ n. n + c.args.place.at) (before_is c.args.blocks.now c.args.place.block)

pub returns-then-block-blocks-clause-good : goal.returns-then-block-blocks-clause-good
returns-then-block-blocks-clause-good g c =
    let bs = c.args.blocks.now in
    let next = c.args.place.block + 1 in
    omega (arith, size_is bs next, some_in bs next c.requires.blocks.sizes c.if-block-blocks.true)

pub returns-then-block-blocks-clause-same : goal.returns-then-block-blocks-clause-same
returns-then-block-blocks-clause-same g c =
    let bs = c.args.blocks.now in
    let k = c.args.place.block in
    let b = c.index-blocks-place.result in
    let apart = eqb-false (length bs) 0 (sym c.if-is_empty.ensures) in
    let some : 1 ≤ length bs = omega arith in
    let within : k < length bs = place_within bs k c.args.place.at c.requires.place some in
    let same = at_is bs k b within c.index-blocks-place.is in
    let len = ap (λ (x : Block g.row.K.Denot g.row.V.Denot). vec_len x.entries) c.index-blocks-place.is in
    let end : c.args.place.at ≡ length (entries_at k bs) = omega (arith, c.if-place-len.false, c.len.ensures, ap length same, len, b.entries.ok.0, place_inside bs k c.args.place.at c.requires.place some) in
    omega (arith, before_is bs (k + 1), before_next bs k (k + 1) within (omega arith), end)

pub returns-else-block-blocks-clause-same : goal.returns-else-block-blocks-clause-same
returns-else-block-blocks-clause-same g c =
    let bs = c.args.blocks.now in
    let k = c.args.place.block in
    let b = c.index-blocks-place.result in
    let apart = eqb-false (length bs) 0 (sym c.if-is_empty.ensures) in
    let some : 1 ≤ length bs = omega arith in
    let within : k < length bs = place_within bs k c.args.place.at c.requires.place some in
    let same = at_is bs k b within c.index-blocks-place.is in
    let len = ap (λ (x : Block g.row.K.Denot g.row.V.Denot). vec_len x.entries) c.index-blocks-place.is in
    let end : c.args.place.at ≡ length (entries_at k bs) = omega (arith, c.if-place-len.false, c.len.ensures, ap length same, len, b.entries.ok.0, place_inside bs k c.args.place.at c.requires.place some) in
    omega (arith, before_all bs (k + 1) (omega (arith, c.if-block-blocks.false)), before_next bs k (k + 1) within (omega arith), end)
