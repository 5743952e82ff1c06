use Rattle.std.proofs.Common.{◌≡◌, ◌∙◌, ◌<◌, ◌+◌, List, sym, ap, subst, arith, length, get_or, rules, slice_get}
use Rattle.std.specs.Vec.{vec_len}
use Rattle.gcs_index.specs.declared.blocks.Block.{Block}
use Rattle.gcs_index.specs.declared.blocks.Entry.{Entry}
use Rattle.gcs_index.specs.Blocks.{entries_at, entries_of}
use Rattle.gcs_index.proofs.EditLemmas.{at_is, some_at, in_block}
use Rattle.gcs_index.proofs.PlaceLemmas.{before_is, size_is, good_within}
use Rattle.gcs_index.proofs.seeking.entry_in.Goals as goal

pub offset_bounds-blocks-place : goal.offset_bounds-blocks-place
offset_bounds-blocks-place g c = let within = good_within c.args.blocks.now c.args.place.block c.args.place.at c.requires.good in search rules

pub bounds-blocks-place : goal.bounds-blocks-place
bounds-blocks-place g c = good_within c.args.blocks.now c.args.place.block c.args.place.at c.requires.good

pub index-requires : goal.index-requires
index-requires g c =
    let bs = c.args.blocks.now in
    let k = c.args.place.block in
    let b = c.index-blocks-place.result in
    let same = at_is bs k b (good_within bs k c.args.place.at c.requires.good) c.index-blocks-place.is in
    let len = ap (λ (x : Block g.row.K.Denot g.row.V.Denot). vec_len x.entries) c.index-blocks-place.is in
    omega (arith, c.requires.good, size_is bs k, ap length same, len, b.entries.ok.0)

pub returns : goal.returns
returns g c =
    let bs = c.args.blocks.now in
    let k = c.args.place.block in
    let at = c.args.place.at in
    let b = c.index-blocks-place.result in
    let same = at_is bs k b (good_within bs k at c.requires.good) c.index-blocks-place.is in
    let inside : at < length (entries_at k bs) = omega (arith, c.requires.good, size_is bs k) in
    let is = same ∙ ap (λ (x : Block g.row.K.Denot g.row.V.Denot). x.entries.items) c.index-blocks-place.is in
    ap (λ n. slice_get (entries_of bs) (n + at)) (before_is bs k)
    ∙ in_block bs k at inside
    ∙ sym (some_at (entries_at k bs) at c.index.result.now inside
    (subst (λ (l : List (Entry g.row.K.Denot g.row.V.Denot)). c.index.result.now ≡ get_or l at c.index.result.now) (sym is) c.index.ensures))
