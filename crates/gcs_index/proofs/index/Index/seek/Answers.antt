use Rattle.std.proofs.Common.{◌∙◌, ◌+◌, ◌-◌, List, ap, arith, sym, subst, length}
use Rattle.std.proofs.Math.Pow.{pow_mono}
use Rattle.gcs_index.specs.declared.blocks.Block.{Block}
use Rattle.gcs_index.specs.Ranked.{Ranked}
use Rattle.gcs_index.specs.Blocks.{entries_of, sizes_of}
use Rattle.gcs_index.specs.Entries.{stands_at, number_of, position_or, IsSplit, Shelf}
use Rattle.gcs_index.proofs.BlockLemmas.{looks_seen, ranked_from, find_split}
use Rattle.gcs_index.proofs.index.Index.seek.Goals as goal

pub seek_in-requires-clause-ranked : goal.seek_in-requires-clause-ranked
seek_in-requires-clause-ranked g c =
    let st = stands_at {V = g.row.V.Denot} g.Q.Probe.stands c.args.bound.now in
    subst (λ (l : List (Block g.row.K.Denot g.row.V.Denot)). Ranked st (entries_of l)) (sym c.as_slice-blocks.ensures.value)
    (ranked_from g.K.Ord.cmp (g.Q.Probe.stands c.args.bound.now) (g.met.Q.Probe.stays c.args.bound.now) (entries_of c.self.inside.blocks.items) c.self.invariant.rises)

pub returns-clause-split : goal.returns-clause-split
returns-clause-split g c =
    let st = stands_at {V = g.row.V.Denot} g.Q.Probe.stands c.args.bound.now in
    let place = c.settled.result in
    let split = subst (IsSplit st (entries_of c.as_slice-blocks.result.now)) (sym c.settled.ensures.same) c.seek_in.ensures.split in
    subst (λ (s : Shelf g.row.K.Denot g.row.V.Denot). IsSplit st s.entries (number_of s place)) c.self.view_is
    (subst (λ (l : List (Block g.row.K.Denot g.row.V.Denot)). IsSplit st (entries_of l) (position_or (sizes_of l) (length (entries_of l)) place)) c.as_slice-blocks.ensures.value split)

pub returns-clause-found : goal.returns-clause-found
returns-clause-found g c =
    let st = stands_at {V = g.row.V.Denot} g.Q.Probe.stands c.args.bound.now in
    find_split st c.args.self.now.entries (number_of c.args.self.now c.settled.result) (returns-clause-split g c)

pub returns-clause-looks : goal.returns-clause-looks
returns-clause-looks g c =
    let old = c.args.steps.now in
    let new = c.seek_in.new.steps in
    looks_seen c.args.self.now.entries (entries_of c.as_slice-blocks.result.now) old new
    (ap entries_of c.as_slice-blocks.ensures.value ∙ ap (λ (s : Shelf g.row.K.Denot g.row.V.Denot). s.entries) c.self.view_is)
    (omega (arith, c.seek_in.ensures.cost, pow_mono {i = new - old} {j = new - old + 1} (omega arith)))
