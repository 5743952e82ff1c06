use Rattle.std.proofs.Common.{◌∙◌, List, sym, ap, subst, arith}
use Rattle.gcs_index.specs.declared.blocks.Block.{Block}
use Rattle.gcs_index.specs.Blocks.{AreSpare}
use Rattle.gcs_index.specs.Entries.{Rises, Shelf}
use Rattle.gcs_index.proofs.CopyLemmas.{copies_entries, copies_blocks, copies_room}
use Rattle.gcs_index.proofs.index.Index.copy.Goals as goal

pub invariant_of-result : goal.invariant_of-result
invariant_of-result g c =
    let ms = c.in_ok-blocks.blocks.items in
    let bs = c.self.inside.blocks.items in
    let copies = c.in_ok-blocks.ensures in
    record {
      whole = copies_blocks ms bs copies c.self.invariant.whole;
      room = copies_room ms bs copies;
      spares = subst (λ (l : List (Block g.row.K.Denot g.row.V.Denot)). AreSpare l) (sym (c.reserve.ensures.items ∙ c.new-spare.ensures.items)) tt;
      rises = subst (Rises g.K.Ord.cmp) (sym (copies_entries ms bs copies)) c.self.invariant.rises;
      blocks_fit = omega (arith, c.reserve.ensures.len, c.new-spare.ensures.len, c.in_ok-blocks.blocks.ok.1);
      spares_fit = omega (arith, c.in_ok-reserve.ensures.ok, c.reserve.ensures.len, c.new-spare.ensures.len, c.len.ensures);
    }

pub returns : goal.returns
returns g c =
    copies_entries c.in_ok-blocks.blocks.items c.self.inside.blocks.items c.in_ok-blocks.ensures
    ∙ ap (λ (s : Shelf g.row.K.Denot g.row.V.Denot). s.entries) c.self.view_is
