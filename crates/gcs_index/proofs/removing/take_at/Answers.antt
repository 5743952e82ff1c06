use Rattle.std.proofs.Common.{◌≡◌, ◌∙◌, ◌<◌, List, sym, ap, subst, refl, arith, length, get_or}
use Rattle.std.specs.List.{remove}
use Rattle.gcs_index.specs.declared.blocks.Entry.{Entry}
use Rattle.gcs_index.specs.Blocks.{entries_at}
use Rattle.gcs_index.proofs.EditLemmas.{at_is, room_at, some_at}
use Rattle.gcs_index.proofs.removing.take_at.Goals as goal

pub remove-requires : goal.remove-requires
remove-requires g c =
    let bs = c.args.blocks.now.items in
    let b = c.index_mut.result.now in
    let within : c.args.block < length bs = omega (arith, c.args.blocks.now.ok.0, c.requires.block) in
    omega (arith, c.requires.within, ap length (at_is bs c.args.block b within c.index_mut.ensures.value), b.entries.ok.0)

pub returns-clause-taken : goal.returns-clause-taken
returns-clause-taken g c =
    let bs = c.args.blocks.now.items in
    let k = c.args.block in
    let at = c.args.at in
    let b = c.index_mut.result.now in
    let within : k < length bs = omega (arith, c.args.blocks.now.ok.0, c.requires.block) in
    let same = at_is bs k b within c.index_mut.ensures.value in
    record {
      block = record { entries = c.remove.new.self };
      is = refl;
      left = c.remove.ensures.items ∙ ap (λ (l : List (Entry g.row.K.Denot g.row.V.Denot)). remove l at) (sym same);
      entry_is = sym (some_at (entries_at k bs) at c.remove.result c.requires.within
          (subst (λ (l : List (Entry g.row.K.Denot g.row.V.Denot)). c.remove.result ≡ get_or l at c.remove.result) (sym same) c.remove.ensures.value));
      room = omega (arith, c.remove.ensures.capacity, room_at bs k b c.requires.room within c.index_mut.ensures.value);
    }
