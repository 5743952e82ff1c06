-- The last of the passes, the others, and all of them again.
use Rattle.std.proofs.Common.{◌≡◌, List, ◌++◌, ◌∷◌, [], length, refl, subst, sym, arith}
use mathlib.Core.Option.{some}
use lib.ListN.{get_elem?}
use Rattle.atomic_table.proofs.Lists.{at_last, at_longer}
use Rattle.gcs_store.specs.declared.passes.Passes.{Passes}
use Rattle.gcs_workers.specs.Working.{HaveWorked}
use Rattle.gcs_workers.proofs.WorkedLemmas.{as_many, worked_append}
use Rattle.gcs_workers.proofs.serving.+workers.Goals as goal

pub serve_beside-serve_both-requires-clause-own : goal.serve_beside-serve_both-requires-clause-own
serve_beside-serve_both-requires-clause-own g t c κs within =
    let left = c.pop.new.self.items in
    let last = c.in-Some.last in
    c.requires.own (length left) last (subst (λ (l : List Passes). get_elem? l (length left) ≡ some last) (sym c.in-Some.ensures.items) (at_last left last (length left) refl))

pub serve_beside-serve_both-requires-clause-others : goal.serve_beside-serve_both-requires-clause-others
serve_beside-serve_both-requires-clause-others g t c κs within = λ i p at.
    c.requires.own i p (subst (λ (l : List Passes). get_elem? l i ≡ some p) (sym c.in-Some.ensures.items) (at_longer c.pop.new.self.items (c.in-Some.last ∷ []) i p at))

pub serve_beside-push_reserved-requires : goal.serve_beside-push_reserved-requires
serve_beside-push_reserved-requires g t c =
    let w = c.args.workers.now in
    let same = as_many w.limits.now w.store.now c.pop.new.self.items c.serve_both.new.others.items c.serve_both.ensures.worked in
    omega (arith, same, c.serve_both.ensures.room, c.in-Some.ensures.len, c.in-Some.ensures.capacity, c.args.passes.now.ok.0, c.args.passes.now.ok.1, c.pop.new.self.ok.0, c.serve_both.new.others.ok.0)

pub serve_beside-returns-clause-worked : goal.serve_beside-returns-clause-worked
serve_beside-returns-clause-worked g t c =
    let w = c.args.workers.now in
    let left = c.pop.new.self.items in
    let last = c.in-Some.last in
    let others = c.serve_both.new.others.items in
    let done = worked_append w.limits.now w.store.now left others last c.serve_both.new.one c.serve_both.ensures.worked c.serve_both.ensures.one in
    subst (λ (l : List Passes). HaveWorked w.limits.now w.store.now l c.push_reserved.new.self.items) (sym c.in-Some.ensures.items)
    (subst (HaveWorked w.limits.now w.store.now (left ++ last ∷ [])) (sym c.push_reserved.ensures.items) done)
