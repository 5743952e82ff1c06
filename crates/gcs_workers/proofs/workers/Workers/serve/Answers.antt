-- One more connection of a worker.
use Rattle.std.proofs.Common.{◌∙◌, ◌++◌, ◌∷◌, [], ℕ, subst}
use Rattle.gcs_session.specs.Connection.{IsServed}
use Rattle.gcs_store.specs.Store.{mine_in, seen_in}
use Rattle.gcs_workers.specs.Serving.{Served}
use Rattle.gcs_workers.specs.Told.{outside_of, told}
use Rattle.gcs_workers.proofs.ServingLemmas.{served-grows, served-more}
use Rattle.gcs_workers.proofs.workers.Workers.serve.Goals as goal

pub loop-preserved : goal.loop-preserved
loop-preserved g c =
    let i = c.loop.invariant in
    let a = c.args.desk.now in
    let b = c.loop.desk in
    let d = c.serve-pair.new.desk in
    let p = c.in-Ok-Some.link in
    let q = c.serve-pair.result.1 in
    let r = g.L.Reader.Source in
    let w = g.L.Writer.Sink in
    let t = g.L.Time.Clock in
    let first = told (r.rest p.source) (r.taken p.source) (w.written p.sink) (t.given p.clock) in
    let last = told (r.rest q.source) (r.taken q.source) (w.written q.sink) (t.given q.clock) in
    let one : Served = record { first = first; last = last; ended = r.ended q.source; end = c.serve-pair.result.0 } in
    let P : ℕ → Type 0 = λ n. IsServed c.args.self.now.limits.now n (outside_of first (seen_in b.rows) (mine_in b.rows))
    (outside_of last (seen_in d.rows) (mine_in d.rows)) one.ended one.end in
    record {
      can = tt;
      finite = tt;
      home = c.serve-pair.ensures.home ∙ i.home;
      caller = c.serve-pair.ensures.caller ∙ i.caller;
      done = (
        i.done.0 ++ one ∷ [],
        served-more c.args.self.now.limits.now a.caller i.done.0 one (seen_in a.rows) (mine_in a.rows) (seen_in b.rows) (mine_in b.rows) (seen_in d.rows) (mine_in d.rows)
            i.done.1 (subst P i.caller c.serve-pair.ensures.served),
      );
    }

pub returns-in-Ok-None-clause-seen : goal.returns-in-Ok-None-clause-seen
returns-in-Ok-None-clause-seen g c =
    let a = c.args.desk.now in
    let b = c.loop.desk in
    served-grows c.args.self.now.limits.now a.caller c.loop.invariant.done.0 (seen_in a.rows) (mine_in a.rows) (seen_in b.rows) (mine_in b.rows) c.loop.invariant.done.1
