-- The workers begin, and begin again.
use Rattle.gcs_workers.proofs.WorkedLemmas.{all_none, all_on, worked_all, worked_own}
use Rattle.gcs_workers.proofs.serving.serve_all.Goals as goal

pub loop-init : goal.loop-init
loop-init g c = record {
  can = tt;
  finite = tt;
  worked = all_none c.args.limits.now c.args.store.now c.args.passes.items c.requires.own;
}

pub serve_beside-requires-clause-own : goal.serve_beside-requires-clause-own
serve_beside-requires-clause-own g c κs within = worked_own c.args.limits.now c.args.store.now c.args.passes.items c.loop.passes.items c.loop.invariant.worked

pub loop-preserved : goal.loop-preserved
loop-preserved g c = record {
  can = tt;
  finite = tt;
  worked = all_on c.args.limits.now c.args.store.now c.args.passes.items c.loop.passes.items c.serve_beside.new.passes.items c.loop.invariant.worked c.serve_beside.ensures.worked;
}

pub returns-then-rose-clause-worked : goal.returns-then-rose-clause-worked
returns-then-rose-clause-worked g c =
    all_on c.args.limits.now c.args.store.now c.args.passes.items c.loop.passes.items c.serve_beside.new.passes.items c.loop.invariant.worked c.serve_beside.ensures.worked

pub returns-then-rose-2-clause-worked : goal.returns-then-rose-2-clause-worked
returns-then-rose-2-clause-worked g c =
    all_on c.args.limits.now c.args.store.now c.args.passes.items c.loop.passes.items c.serve_beside.new.passes.items c.loop.invariant.worked c.serve_beside.ensures.worked

pub returns-then-rose-clause-all : goal.returns-then-rose-clause-all
returns-then-rose-clause-all g c =
    let worked = all_on c.args.limits.now c.args.store.now c.args.passes.items c.loop.passes.items c.serve_beside.new.passes.items c.loop.invariant.worked c.serve_beside.ensures.worked in
    worked_all c.args.limits.now c.args.store.now c.args.passes.items c.serve_beside.new.passes.items worked

pub returns-then-rose-2-clause-all : goal.returns-then-rose-2-clause-all
returns-then-rose-2-clause-all g c =
    let worked = all_on c.args.limits.now c.args.store.now c.args.passes.items c.loop.passes.items c.serve_beside.new.passes.items c.loop.invariant.worked c.serve_beside.ensures.worked in
    worked_all c.args.limits.now c.args.store.now c.args.passes.items c.serve_beside.new.passes.items worked
