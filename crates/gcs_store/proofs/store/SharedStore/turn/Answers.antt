use Rattle.std.proofs.Common.{ap, ◌∙◌, arith}
use Rattle.atomic_table.proofs.Lists.{at_index, at_map}
use Rattle.gcs_store.specs.Store.{table_of}
use Rattle.gcs_store.proofs.store.SharedStore.turn.Goals as goal

pub returns-clause-table : goal.returns-clause-table
returns-clause-table c = rw (← c.self.view_is) (at_map table_of c.self.inside.turns.items c.args.shard c.index.result.now (at_index c.self.inside.turns.items c.args.shard c.index.result.now (omega (arith, c.self.invariant.sixteen, c.requires)) c.index.ensures))

pub returns-clause-home : goal.returns-clause-home
returns-clause-home c = (c.self.invariant.each c.args.shard c.index.result.now (at_index c.self.inside.turns.items c.args.shard c.index.result.now (omega (arith, c.self.invariant.sixteen, c.requires)) c.index.ensures)).0 ∙ ap (λ s. s.chunks) c.self.view_is

pub returns-clause-callers : goal.returns-clause-callers
returns-clause-callers c = (c.self.invariant.each c.args.shard c.index.result.now (at_index c.self.inside.turns.items c.args.shard c.index.result.now (omega (arith, c.self.invariant.sixteen, c.requires)) c.index.ensures)).1 ∙ ap (λ s. s.callers) c.self.view_is
