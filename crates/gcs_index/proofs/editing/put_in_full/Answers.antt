use Rattle.std.proofs.Common.{◌+◌, ◌-◌, refl, arith}
use Rattle.gcs_index.proofs.EditLemmas.{into_second}
use Rattle.gcs_index.proofs.editing.put_in_full.Goals as goal

pub returns-else-at-le-HALF_BLOCK-clause-inserted : goal.returns-else-at-le-HALF_BLOCK-clause-inserted
returns-else-at-le-HALF_BLOCK-clause-inserted g c =
    let done = c.put_at-else-at-le-HALF_BLOCK.ensures in
    record {
      entries = into_second c.args.blocks.now.items c.split_at.new.blocks.items c.put_at-else-at-le-HALF_BLOCK.new.blocks.items c.args.block c.args.at c.args.entry c.split_at.ensures.halved (c.args.block + 1) (c.args.at - 256) refl refl (omega arith) done.entries;
      blocks = done.blocks;
      room = done.room;
    }
