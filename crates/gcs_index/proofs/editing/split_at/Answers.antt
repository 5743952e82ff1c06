use Rattle.std.proofs.Common.{◌≡◌, ◌∙◌, ◌<◌, ◌+◌, ◌++◌, List, sym, ap, subst, refl, length, arith, length-append}
use Rattle.gcs_index.specs.declared.blocks.Block.{Block}
use Rattle.gcs_index.specs.Blocks.{entries_at, AreBlocks, HaveRoom, IsHalved}
use Rattle.gcs_index.proofs.EditLemmas.{at_is, room_at, halves_at, halves, is_halved, blocks_halved, room_halved}
use Rattle.gcs_index.proofs.editing.split_at.Goals as goal

pub halve-requires-clause-full : goal.halve-requires-clause-full
halve-requires-clause-full g c =
    let bs = c.args.blocks.now.items in
    let within : c.args.block < length bs = omega (arith, c.args.blocks.now.ok.0, c.requires.block) in
    ap length (sym (at_is bs c.args.block c.index_mut.result.now within c.index_mut.ensures.value)) ∙ c.requires.full

pub returns : goal.returns
returns g c =
    let bs = c.args.blocks.now.items in
    let k = c.args.block in
    let b = c.index_mut.result.now in
    let f = c.halve.new.full in
    let h = c.halve.new.empty in
    let within : k < length bs = omega (arith, c.args.blocks.now.ok.0, c.requires.block) in
    let same = at_is bs k b within c.index_mut.ensures.value in
    let is : c.insert_block.new.blocks.items ≡ halves_at bs k f h = c.insert_block.ensures.items ∙ halves bs k (k + 1) f h within refl in
    let all : f.entries.items ++ h.entries.items ≡ entries_at k bs = c.halve.ensures.entries ∙ sym same in
    let first : length f.entries.items ≡ 256 = omega (arith, ap length all, length-append f.entries.items h.entries.items, c.requires.full, c.halve.ensures.half) in
    let room = room_at bs k b c.requires.room within c.index_mut.ensures.value in
    record {
      halved = subst (λ (l : List (Block g.row.K.Denot g.row.V.Denot)). IsHalved bs l k) (sym is) (is_halved bs k f h within all first c.halve.ensures.half);
      blocks = subst (λ (l : List (Block g.row.K.Denot g.row.V.Denot)). AreBlocks l) (sym is) (blocks_halved bs k f h c.requires.blocks first c.halve.ensures.half);
      room = subst (λ (l : List (Block g.row.K.Denot g.row.V.Denot)). HaveRoom l) (sym is) (room_halved bs k f h c.requires.room (omega (arith, c.halve.ensures.capacity, room)) (omega (arith, c.halve.ensures.empty_capacity, c.requires.half)));
      len = c.insert_block.ensures.len;
      capacity = c.insert_block.ensures.capacity;
    }
