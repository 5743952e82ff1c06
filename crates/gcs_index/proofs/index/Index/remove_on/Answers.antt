use Rattle.std.proofs.Common.{◌≡◌, ◌∙◌, ◌+◌, List, sym, ap, subst, arith, slice_get, Option, None}
use Rattle.std.specs.List.{find}
use Rattle.std.specs.Ordering.{is_eq}
use Rattle.gcs_index.specs.declared.blocks.Block.{Block}
use Rattle.gcs_index.specs.declared.blocks.Entry.{Entry}
use Rattle.gcs_index.specs.Probing.{own_stays, own_ends}
use Rattle.gcs_index.specs.Ranked.{Ends, Ranked}
use Rattle.gcs_index.specs.Blocks.{entries_of, entries_before, sizes_of}
use Rattle.gcs_index.specs.Entries.{position, value_in, without_key, IsGood, IsSplit, Rises, Shelf}
use Rattle.gcs_index.proofs.BlockLemmas.{ranked_from}
use Rattle.gcs_index.proofs.PlaceLemmas.{before_is, size_is, good_within, ends_from}
use Rattle.gcs_index.proofs.RemovalLemmas.{find_holds, none_taken, rises_less, taken_is}
use Rattle.gcs_index.proofs.index.Index.remove_on.Given as given
use Rattle.gcs_index.proofs.index.Index.remove_on.Goals as goal

pub find_in-requires-clause-ranked : goal.find_in-requires-clause-ranked
find_in-requires-clause-ranked g c =
    let cmp = g.K.Ord.cmp in
    let key = c.args.key.now in
    subst (λ (l : List (Block g.row.K.Denot g.row.V.Denot)). Ranked (λ (x : Entry g.row.K.Denot g.row.V.Denot). cmp key x.key) (entries_of l)) (sym c.as_slice.ensures.value)
    (ranked_from cmp (cmp key) (own_stays g.met.K.Ord.total key) (entries_of c.self.inside.blocks.items) c.self.invariant.rises)

pub find_in-requires-clause-ends : goal.find_in-requires-clause-ends
find_in-requires-clause-ends g c =
    let cmp = g.K.Ord.cmp in
    let key = c.args.key.now in
    subst (λ (l : List (Block g.row.K.Denot g.row.V.Denot)). Ends (λ (x : Entry g.row.K.Denot g.row.V.Denot). cmp key x.key) (entries_of l)) (sym c.as_slice.ensures.value)
    (ends_from cmp (cmp key) (own_ends g.met.K.Ord.total key) (entries_of c.self.inside.blocks.items) c.self.invariant.rises)

pub returns-in_err-place-clause-entries : goal.returns-in_err-place-clause-entries
returns-in_err-place-clause-entries g c =
    let cmp = g.K.Ord.cmp in
    let key = c.args.key.now in
    let none = subst (λ (l : List (Block g.row.K.Denot g.row.V.Denot)). find (λ (e : Entry g.row.K.Denot g.row.V.Denot). is_eq (cmp key e.key)) (entries_of l) ≡ None) c.as_slice.ensures.value c.in_err-place.ensures.none in
    subst (λ (s : Shelf g.row.K.Denot g.row.V.Denot). s.entries ≡ without_key cmp key s.entries) c.self.view_is
    (none_taken g.met.K.Ord.total key (entries_of c.self.inside.blocks.items) none)

pub remove_at-entry-requires-clause-block : goal.remove_at-entry-requires-clause-block
remove_at-entry-requires-clause-block g c =
    let bs = c.self.inside.blocks.items in
    let place = c.in_ok-place.place in
    let good = subst (λ (l : List (Block g.row.K.Denot g.row.V.Denot)). IsGood (sizes_of l) place) c.as_slice.ensures.value c.in_ok-place.ensures.good in
    omega (arith, good_within bs place.block place.at good, c.self.inside.blocks.ok.0)

pub remove_at-entry-requires-clause-within : goal.remove_at-entry-requires-clause-within
remove_at-entry-requires-clause-within g c =
    let bs = c.self.inside.blocks.items in
    let place = c.in_ok-place.place in
    let good = subst (λ (l : List (Block g.row.K.Denot g.row.V.Denot)). IsGood (sizes_of l) place) c.as_slice.ensures.value c.in_ok-place.ensures.good in
    omega (arith, good, size_is bs place.block)

pub invariant_of-self : goal.invariant_of-self
invariant_of-self g c =
    let cmp = g.K.Ord.cmp in
    let old = c.self.inside.blocks.items in
    let place = c.in_ok-place.place in
    let removed = c.remove_at-entry.ensures.removed in
    record {
      whole = removed.blocks;
      room = removed.room;
      spares = c.remove_at-entry.ensures.spares;
      rises = subst (Rises cmp) (sym removed.entries) (rises_less g.met.K.Ord.total (entries_of old) (entries_before place.block old + place.at) c.self.invariant.rises);
      blocks_fit = omega (arith, c.remove_at-entry.ensures.fits, c.remove_at-entry.ensures.capacity, c.self.invariant.blocks_fit);
      spares_fit = omega (arith, c.remove_at-entry.ensures.fits, c.remove_at-entry.ensures.spare_capacity, c.self.invariant.spares_fit);
    }

-- the entry at the place is the one that was sought
found : (g : given.Over) (c : goal.After-drop-steps-inside-3 g) →
    slice_get (entries_of c.self.inside.blocks.items) (entries_before c.in_ok-place.place.block c.self.inside.blocks.items + c.in_ok-place.place.at)
    ≡ find (λ (e : Entry g.row.K.Denot g.row.V.Denot). is_eq (g.K.Ord.cmp c.args.key.now e.key)) (entries_of c.self.inside.blocks.items)
found g c =
    let es = entries_of c.self.inside.blocks.items in
    let place = c.in_ok-place.place in
    ap (λ n. slice_get es (n + place.at)) (sym (before_is c.self.inside.blocks.items place.block))
    ∙ subst (λ (l : List (Block g.row.K.Denot g.row.V.Denot)). slice_get (entries_of l) (position (sizes_of l) place) ≡ find (λ (e : Entry g.row.K.Denot g.row.V.Denot). is_eq (g.K.Ord.cmp c.args.key.now e.key)) (entries_of l))
    c.as_slice.ensures.value c.in_ok-place.ensures.found

pub returns-clause-value : goal.returns-clause-value
returns-clause-value g c =
    let key = c.args.key.now in
    ap (λ (o : Option (Entry g.row.K.Denot g.row.V.Denot)). value_in o) (sym c.remove_at-entry.ensures.removed.was ∙ found g c)
    ∙ ap (λ (s : Shelf g.row.K.Denot g.row.V.Denot). value_in (find (λ (e : Entry g.row.K.Denot g.row.V.Denot). is_eq (g.K.Ord.cmp key e.key)) s.entries)) c.self.view_is

pub returns-clause-entries : goal.returns-clause-entries
returns-clause-entries g c =
    let cmp = g.K.Ord.cmp in
    let key = c.args.key.now in
    let old = c.self.inside.blocks.items in
    let es = entries_of old in
    let place = c.in_ok-place.place in
    let n = entries_before place.block old + place.at in
    let good = subst (λ (l : List (Block g.row.K.Denot g.row.V.Denot)). IsGood (sizes_of l) place) c.as_slice.ensures.value c.in_ok-place.ensures.good in
    let at = subst (λ (l : List (Block g.row.K.Denot g.row.V.Denot)). IsSplit (λ (x : Entry g.row.K.Denot g.row.V.Denot). cmp key x.key) (entries_of l) (position (sizes_of l) place)) c.as_slice.ensures.value c.in_ok-place.ensures.split in
    let split = subst (λ m. IsSplit (λ (x : Entry g.row.K.Denot g.row.V.Denot). cmp key x.key) es (m + place.at)) (before_is old place.block) at in
    c.remove_at-entry.ensures.removed.entries
    ∙ taken_is g.met.K.Ord.total key es n c.self.invariant.rises split (λ y h. find_holds (λ (e : Entry g.row.K.Denot g.row.V.Denot). is_eq (cmp key e.key)) es y (sym (found g c) ∙ h))
    ∙ ap (λ (s : Shelf g.row.K.Denot g.row.V.Denot). without_key cmp key s.entries) c.self.view_is
