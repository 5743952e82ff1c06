use Rattle.std.proofs.Common.{◌≡◌, ◌∙◌, ◌+◌, List, sym, ap, subst, arith}
use Rattle.std.specs.Prelude.{false}
use Rattle.std.specs.List.{AllByRecursion}
use Rattle.std.specs.Ordering.{is_eq}
use Rattle.gcs_index.specs.declared.blocks.Block.{Block}
use Rattle.gcs_index.specs.declared.blocks.Entry.{Entry}
use Rattle.gcs_index.specs.Ranked.{Ranked}
use Rattle.gcs_index.specs.Blocks.{entries_of, entries_before}
use Rattle.gcs_index.specs.Entries.{entry_of, with_entry, IsSplit, Rises, Shelf}
use Rattle.gcs_index.proofs.BlockLemmas.{ranked_from, rises_put}
use Rattle.gcs_index.proofs.PlaceLemmas.{absent_is, put_is}
use Rattle.gcs_index.specs.Probing.{own_stays}
use Rattle.gcs_index.proofs.index.Index.insert_on.Goals as goal

pub seek_in-place-requires-clause-ranked : goal.seek_in-place-requires-clause-ranked
seek_in-place-requires-clause-ranked g c =
    let cmp = g.K.Ord.cmp in
    let e : Entry g.row.K.Denot g.row.V.Denot = entry_of c.args.key c.args.value in
    subst (λ (l : List (Block g.row.K.Denot g.row.V.Denot)). Ranked (λ (x : Entry g.row.K.Denot g.row.V.Denot). cmp c.args.key x.key) (entries_of l)) (sym c.as_slice.ensures.value)
    (ranked_from cmp (cmp c.args.key) (own_stays g.met.K.Ord.total c.args.key) (entries_of c.self.inside.blocks.items) c.self.invariant.rises)

pub invariant_of-self : goal.invariant_of-self
invariant_of-self g c =
    let cmp = g.K.Ord.cmp in
    let e : Entry g.row.K.Denot g.row.V.Denot = entry_of c.args.key c.args.value in
    let old = c.self.inside.blocks.items in
    let place = c.seek_in-place.result in
    let split = subst (λ (l : List (Block g.row.K.Denot g.row.V.Denot)). IsSplit (λ (x : Entry g.row.K.Denot g.row.V.Denot). cmp c.args.key x.key) (entries_of l) (entries_before place.block l + place.at)) c.as_slice.ensures.value c.seek_in-place.ensures.split in
    let absent = subst (λ (s : Shelf g.row.K.Denot g.row.V.Denot). AllByRecursion (λ x. is_eq (cmp c.args.key x.key) ≡ false) s.entries) (sym c.self.view_is)
    (absent_is (λ (x : Entry g.row.K.Denot g.row.V.Denot). is_eq (cmp c.args.key x.key)) c.args.self.now.entries c.requires.absent) in
    let inserted = c.insert_at.ensures.inserted in
    record {
      whole = inserted.blocks;
      room = inserted.room;
      spares = c.insert_at.ensures.spares;
      rises = subst (Rises cmp) (sym inserted.entries) (rises_put g.met.K.Ord.total e (entries_of old) (entries_before place.block old + place.at) c.self.invariant.rises split absent);
      blocks_fit = omega (arith, c.insert_at.ensures.fits, c.insert_at.ensures.capacity, c.self.invariant.blocks_fit);
      spares_fit = omega (arith, c.insert_at.ensures.fits, c.insert_at.ensures.spare_capacity, c.self.invariant.spares_fit);
    }

pub returns-clause-entries : goal.returns-clause-entries
returns-clause-entries g c =
    let cmp = g.K.Ord.cmp in
    let e : Entry g.row.K.Denot g.row.V.Denot = entry_of c.args.key c.args.value in
    let old = c.self.inside.blocks.items in
    let place = c.seek_in-place.result in
    let split = subst (λ (l : List (Block g.row.K.Denot g.row.V.Denot)). IsSplit (λ (x : Entry g.row.K.Denot g.row.V.Denot). cmp c.args.key x.key) (entries_of l) (entries_before place.block l + place.at)) c.as_slice.ensures.value c.seek_in-place.ensures.split in
    c.insert_at.ensures.inserted.entries ∙ put_is cmp e (entries_of old) (entries_before place.block old + place.at) split
    ∙ ap (λ (s : Shelf g.row.K.Denot g.row.V.Denot). with_entry cmp e s.entries) c.self.view_is
