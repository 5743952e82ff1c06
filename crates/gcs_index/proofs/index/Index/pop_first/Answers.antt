use Rattle.std.proofs.Common.{◌∙◌, ◌∷◌, ◌+◌, sym, ap, subst, arith}
use Rattle.std.proofs.lemmas.Bool.{eqb-false}
use Rattle.std.specs.Vec.{vec_len}
use Rattle.gcs_index.specs.Blocks.{entries_of, entries_before}
use Rattle.gcs_index.specs.Entries.{Rises, Shelf}
use Rattle.gcs_index.proofs.PlaceLemmas.{some_in}
use Rattle.gcs_index.proofs.RemovalLemmas.{first_taken, rises_less}
use Rattle.gcs_index.proofs.index.Index.pop_first.Goals as goal

pub remove_at-entry-requires-clause-block : goal.remove_at-entry-requires-clause-block
remove_at-entry-requires-clause-block g c = omega (arith, eqb-false (vec_len c.self.inside.blocks) 0 (sym c.if-is_empty.ensures))

pub remove_at-entry-requires-clause-within : goal.remove_at-entry-requires-clause-within
remove_at-entry-requires-clause-within g c =
    let bs = c.self.inside.blocks.items in
    some_in bs 0 c.self.invariant.whole.sizes (omega (arith, eqb-false (vec_len c.self.inside.blocks) 0 (sym c.if-is_empty.ensures), c.self.inside.blocks.ok.0))

pub invariant_of-self : goal.invariant_of-self
invariant_of-self g c =
    let old = c.self.inside.blocks.items in
    let removed = c.remove_at-entry.ensures.removed in
    record {
      whole = removed.blocks;
      room = removed.room;
      spares = c.remove_at-entry.ensures.spares;
      rises = subst (Rises g.K.Ord.cmp) (sym removed.entries) (rises_less g.met.K.Ord.total (entries_of old) (entries_before 0 old + 0) c.self.invariant.rises);
      blocks_fit = omega (arith, c.remove_at-entry.ensures.fits, c.remove_at-entry.ensures.capacity, c.self.invariant.blocks_fit);
      spares_fit = omega (arith, c.remove_at-entry.ensures.fits, c.remove_at-entry.ensures.spare_capacity, c.self.invariant.spares_fit);
    }

pub returns-clause-some : goal.returns-clause-some
returns-clause-some g c =
    let removed = c.remove_at-entry.ensures.removed in
    ap (λ (s : Shelf g.row.K.Denot g.row.V.Denot). s.entries) (sym c.self.view_is)
    ∙ first_taken (entries_of c.self.inside.blocks.items) c.remove_at-entry.result removed.was
    ∙ ap (λ l. c.remove_at-entry.result ∷ l) (sym removed.entries)
