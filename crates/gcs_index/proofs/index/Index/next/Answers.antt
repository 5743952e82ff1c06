use Rattle.std.proofs.Common.{◌≡◌, ◌<◌, ◌+◌, List, sym, arith, length, rules, subst}
use Rattle.gcs_index.specs.declared.blocks.Block.{Block}
use Rattle.gcs_index.specs.Blocks.{entries_of, sizes_of}
use Rattle.gcs_index.specs.Entries.{number_of, position, position_or, IsGood, Shelf}
use Rattle.gcs_index.proofs.EditLemmas as edit
use Rattle.gcs_index.proofs.PlaceLemmas.{before_is, size_is, good_within}
use Rattle.gcs_index.proofs.index.Index.next.Goals as goal

pub overflow_add-behind : goal.overflow_add-behind
overflow_add-behind g c =
    let bs = c.self.inside.blocks.items in
    let k = c.args.place.block in
    let good = subst (λ (s : Shelf g.row.K.Denot g.row.V.Denot). IsGood s.sizes c.args.place) (sym c.self.view_is) c.requires.good in
    let few = edit.size_at bs k c.self.invariant.whole (good_within bs k c.args.place.at good) in
    let small : c.args.place.at < 512 = omega (arith, size_is bs k, good, few) in
    search rules

pub settled-requires-clause-place : goal.settled-requires-clause-place
settled-requires-clause-place g c =
    let bs = c.as_slice-blocks.result.now in
    let k = c.args.place.block in
    let inside = subst (λ (s : Shelf g.row.K.Denot g.row.V.Denot). IsGood s.sizes c.args.place) (sym c.self.view_is) c.requires.good in
    let good = subst (λ (l : List (Block g.row.K.Denot g.row.V.Denot)). IsGood (sizes_of l) c.args.place) (sym c.as_slice-blocks.ensures.value) inside in
    edit.place_of bs k (c.args.place.at + 1) (good_within bs k c.args.place.at good) (omega (arith, size_is bs k, good))

pub returns-clause-next : goal.returns-clause-next
returns-clause-next g c =
    let bs = c.as_slice-blocks.result.now in
    let k = c.args.place.block in
    let same : position_or (sizes_of bs) (length (entries_of bs)) c.settled.result ≡ position (sizes_of bs) c.args.place + 1 = omega (arith, c.settled.ensures.same, before_is bs k) in
    let inside = subst (λ (l : List (Block g.row.K.Denot g.row.V.Denot)). position_or (sizes_of l) (length (entries_of l)) c.settled.result ≡ position (sizes_of l) c.args.place + 1) c.as_slice-blocks.ensures.value same in
    subst (λ (s : Shelf g.row.K.Denot g.row.V.Denot). number_of s c.settled.result ≡ position s.sizes c.args.place + 1) c.self.view_is inside
