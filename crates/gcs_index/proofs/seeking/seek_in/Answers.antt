use Rattle.std.proofs.Common.{◌<◌, ◌∙◌, ◌+◌, ◌-◌, ◌*◌, ◌^◌, ◌≤◌, List, ap, sym, subst, arith, length}
use Rattle.gcs_index.specs.Ranked.{IsRank, IsRanked, head_stands}
use Rattle.gcs_index.specs.Entries.{stands_at}
use Rattle.gcs_index.specs.declared.blocks.Entry.{Entry}
use Rattle.gcs_index.specs.declared.blocks.Block.{Block}
use Rattle.gcs_index.proofs.BlockLemmas.{is_ranked, heads_ranked, split_none, split_two, block_ranked, cost_none, cost_two}
use Rattle.gcs_index.proofs.EditLemmas.{at_is, place_of}
use Rattle.gcs_index.proofs.seeking.seek_in.Goals as goal

pub rank-found-requires-clause-ranked : goal.rank-found-requires-clause-ranked
rank-found-requires-clause-ranked g c = heads_ranked (stands_at g.Q.Probe.stands c.args.probe.now) c.args.blocks.now c.requires.blocks.sizes c.requires.ranked

pub returns-then-found-eq0-clause-split : goal.returns-then-found-eq0-clause-split
returns-then-found-eq0-clause-split g c =
    let st = stands_at {V = g.row.V.Denot} g.Q.Probe.stands c.args.probe.now in
    split_none st c.args.blocks.now c.requires.blocks.sizes c.requires.ranked (subst (IsRank (λ b. head_stands st b.entries.items) c.args.blocks.now) c.if-found-eq0.true c.rank-found.ensures.rank)

pub returns-then-found-eq0-clause-cost : goal.returns-then-found-eq0-clause-cost
returns-then-found-eq0-clause-cost g c =
    cost_none c.args.blocks.now (c.rank-found.new.steps - c.args.steps.now) (c.rank-found.new.steps - c.args.steps.now + 1) c.requires.blocks (omega (arith, c.rank-found.ensures.counted)) c.rank-found.ensures.cost

pub rank-at-requires-clause-ranked : goal.rank-at-requires-clause-ranked
rank-at-requires-clause-ranked g c =
    let st = stands_at {V = g.row.V.Denot} g.Q.Probe.stands c.args.probe.now in
    subst (λ (l : List (Entry g.row.K.Denot g.row.V.Denot)). IsRanked st l) (sym (c.as_slice.ensures.value ∙ ap (λ (b : Block g.row.K.Denot g.row.V.Denot). b.entries.items) (sym c.index-blocks-block.is)))
    (is_ranked st c.index-blocks-block.result.entries.items (block_ranked st c.args.blocks.now (c.rank-found.result - 1) c.index-blocks-block.result c.requires.ranked (omega (arith, c.rank-found.ensures.rank.within)) c.index-blocks-block.is))

pub returns-clause-split : goal.returns-clause-split
returns-clause-split g c =
    let st = stands_at {V = g.row.V.Denot} g.Q.Probe.stands c.args.probe.now in
    split_two st c.args.blocks.now (c.rank-found.result - 1) c.rank-at.result c.index-blocks-block.result c.requires.blocks.sizes c.requires.ranked
    (subst (IsRank (λ b. head_stands st b.entries.items) c.args.blocks.now) {x = c.rank-found.result} (omega arith) c.rank-found.ensures.rank)
    c.index-blocks-block.is
    (subst (λ (l : List (Entry g.row.K.Denot g.row.V.Denot)). IsRank st l c.rank-at.result) (c.as_slice.ensures.value ∙ ap (λ (b : Block g.row.K.Denot g.row.V.Denot). b.entries.items) (sym c.index-blocks-block.is)) c.rank-at.ensures.rank)

pub returns-clause-cost : goal.returns-clause-cost
returns-clause-cost g c =
    cost_two c.args.blocks.now (c.rank-found.result - 1) c.index-blocks-block.result (c.rank-found.new.steps - c.args.steps.now) (c.rank-at.new.steps - c.rank-found.new.steps) (c.rank-at.new.steps - c.args.steps.now + 1) c.requires.blocks
    (omega (arith, c.rank-found.ensures.rank.within)) c.index-blocks-block.is (omega (arith, c.rank-found.ensures.counted, c.rank-at.ensures.counted)) c.rank-found.ensures.cost
    (subst (λ (l : List (Entry g.row.K.Denot g.row.V.Denot)). 2 ^ (c.rank-at.new.steps - c.rank-found.new.steps) ≤ 2 * length l + 1) (c.as_slice.ensures.value ∙ ap (λ (b : Block g.row.K.Denot g.row.V.Denot). b.entries.items) (sym c.index-blocks-block.is)) c.rank-at.ensures.cost)

pub returns-clause-place : goal.returns-clause-place
returns-clause-place g c =
    let bs = c.args.blocks.now in
    let k = c.rank-found.result - 1 in
    let b = c.index-blocks-block.result in
    let within : k < length bs = omega (arith, c.rank-found.ensures.rank.within) in
    let same = at_is bs k b within c.index-blocks-block.is in
    let slice = c.as_slice.ensures.value ∙ ap (λ (x : Block g.row.K.Denot g.row.V.Denot). x.entries.items) (sym c.index-blocks-block.is) in
    place_of bs k c.rank-at.result within (omega (arith, c.rank-at.ensures.rank.within, ap length same, ap length slice))
