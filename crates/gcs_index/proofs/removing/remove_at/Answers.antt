use Rattle.std.proofs.Common.{◌∙◌, ◌<◌, List, ap, arith, length}
use Rattle.std.proofs.lemmas.List.Edits.{length-remove}
use Rattle.gcs_index.specs.declared.blocks.Block.{Block}
use Rattle.gcs_index.specs.Blocks.{entries_at, entries_of}
use Rattle.gcs_index.proofs.EditLemmas.{in_block}
use Rattle.gcs_index.proofs.RemovalLemmas.{entries_taken}
use Rattle.gcs_index.proofs.removing.remove_at.Goals as goal

pub mend-requires-clause-short : goal.mend-requires-clause-short
mend-requires-clause-short g c =
    let bs = c.args.blocks.now.items in
    let k = c.args.block in
    let taken = c.take_at-entry.ensures.taken in
    record {
      whole = bs;
      block = taken.block;
      are = c.requires.blocks;
      within = omega (arith, c.args.blocks.now.ok.0, c.requires.block);
      is = taken.is;
      size = omega (arith, length-remove (entries_at k bs) c.args.at c.requires.within, ap length taken.left);
    }

pub returns-clause-removed : goal.returns-clause-removed
returns-clause-removed g c =
    let bs = c.args.blocks.now.items in
    let k = c.args.block in
    let taken = c.take_at-entry.ensures.taken in
    let within : k < length bs = omega (arith, c.args.blocks.now.ok.0, c.requires.block) in
    record {
      entries = c.mend.ensures.entries ∙ ap (λ (l : List (Block g.row.K.Denot g.row.V.Denot)). entries_of l) taken.is ∙ entries_taken bs k c.args.at taken.block within c.requires.within taken.left;
      was = in_block bs k c.args.at c.requires.within ∙ taken.entry_is;
      blocks = c.mend.ensures.blocks;
      room = c.mend.ensures.room;
    }
