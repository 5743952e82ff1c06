use Rattle.std.proofs.Common.{◌∙◌, List, ap, sym, subst}
use Rattle.gcs_index.specs.declared.blocks.Block.{Block}
use Rattle.gcs_index.specs.Ranked.{Ends, Ranked}
use Rattle.gcs_index.specs.Blocks.{entries_of}
use Rattle.gcs_index.specs.Entries.{stands_at, Shelf}
use Rattle.gcs_index.proofs.BlockLemmas.{looks_seen, ranked_from}
use Rattle.gcs_index.proofs.PlaceLemmas.{ends_from}
use Rattle.gcs_index.proofs.index.Index.find.Goals as goal

pub find_in-requires-clause-ranked : goal.find_in-requires-clause-ranked
find_in-requires-clause-ranked g c =
    let st = stands_at {V = g.row.V.Denot} g.Q.Probe.stands c.args.key.now in
    subst (λ (l : List (Block g.row.K.Denot g.row.V.Denot)). Ranked st (entries_of l)) (sym c.as_slice-blocks.ensures.value)
    (ranked_from g.K.Ord.cmp (g.Q.Probe.stands c.args.key.now) (g.met.Q.Probe.stays c.args.key.now) (entries_of c.self.inside.blocks.items) c.self.invariant.rises)

pub find_in-requires-clause-ends : goal.find_in-requires-clause-ends
find_in-requires-clause-ends g c =
    let st = stands_at {V = g.row.V.Denot} g.Q.Probe.stands c.args.key.now in
    subst (λ (l : List (Block g.row.K.Denot g.row.V.Denot)). Ends st (entries_of l)) (sym c.as_slice-blocks.ensures.value)
    (ends_from g.K.Ord.cmp (g.Q.Probe.stands c.args.key.now) (g.met.Q.Probe.ends c.args.key.now) (entries_of c.self.inside.blocks.items) c.self.invariant.rises)

pub returns-in_err-place-clause-looks : goal.returns-in_err-place-clause-looks
returns-in_err-place-clause-looks g c =
    looks_seen c.args.self.now.entries (entries_of c.as_slice-blocks.result.now) c.args.steps.now c.find_in.new.steps
    (ap entries_of c.as_slice-blocks.ensures.value ∙ ap (λ (s : Shelf g.row.K.Denot g.row.V.Denot). s.entries) c.self.view_is) c.find_in.ensures.cost

pub returns-clause-looks : goal.returns-clause-looks
returns-clause-looks g c =
    looks_seen c.args.self.now.entries (entries_of c.as_slice-blocks.result.now) c.args.steps.now c.find_in.new.steps
    (ap entries_of c.as_slice-blocks.ensures.value ∙ ap (λ (s : Shelf g.row.K.Denot g.row.V.Denot). s.entries) c.self.view_is) c.find_in.ensures.cost
