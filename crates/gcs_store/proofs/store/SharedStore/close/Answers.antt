use Rattle.std.proofs.Common.{sym, subst}
use Rattle.gcs_store.specs.Closed.{AreClosed}
use Rattle.gcs_store.specs.Passes.{AreAllAt, AreAllPassesOf, AreGathered}
use Rattle.gcs_store.proofs.Closed.{all_at, closed, has_all}
use Rattle.gcs_store.proofs.store.SharedStore.close.Goals as goal

pub gather-firsts-requires-clause-each : goal.gather-firsts-requires-clause-each
gather-firsts-requires-clause-each c = let all = c.args.passes.items in
    subst (λ turns. AreAllAt turns all) (sym c.deref.ensures.value)
    (all_at c.self.inside.chunks.now c.self.inside.callers c.self.inside.turns.items all c.self.invariant (subst (λ store. AreAllPassesOf store all) (sym c.self.view_is) c.requires.passes))

pub close_turns-requires-clause-each : goal.close_turns-requires-clause-each
close_turns-requires-clause-each c = let all = c.args.passes.items in let firsts = c.gather-firsts.result.items in
    has_all c.self.inside.chunks.now c.self.inside.callers c.self.inside.turns.items all firsts c.self.invariant (subst (λ store. AreAllPassesOf store all) (sym c.self.view_is) c.requires.passes)
    (subst (λ turns. AreGathered turns all firsts) c.deref.ensures.value c.gather-firsts.ensures)

pub returns : goal.returns
returns c = let all = c.args.passes.items in let firsts = c.gather-firsts.result.items in let shards = c.close_turns.result.items in
    subst (λ store. AreClosed store all shards) c.self.view_is
    (closed c.self.inside.chunks.now c.self.inside.callers c.self.inside.turns.items all firsts c.self.invariant (subst (λ store. AreAllPassesOf store all) (sym c.self.view_is) c.requires.passes)
    (subst (λ turns. AreGathered turns all firsts) c.deref.ensures.value c.gather-firsts.ensures) shards c.close_turns.ensures.as_many c.close_turns.ensures.each)
