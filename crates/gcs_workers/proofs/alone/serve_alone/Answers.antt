-- A connection over the desk that the bucket was made at.
use Rattle.std.proofs.Common.{◌∙◌, ap, inl, subst}
use Rattle.gcs_store.specs.Desk.{history_at}
use Rattle.gcs_http_in.specs.declared.limits.Limits.{Limits}
use Rattle.gcs_session.specs.Connection.{IsServed}
use Rattle.gcs_workers.specs.Status.{status_number}
use Rattle.gcs_workers.specs.Told.{outside_of}
use Rattle.gcs_workers.proofs.Opened.{opened_lists}
use Rattle.gcs_workers.proofs.alone.serve_alone.Goals as goal

pub returns-clause-served : goal.returns-clause-served
returns-clause-served g c =
    let i = g.I.Source in
    let o = g.O.Sink in
    let k = g.C.Clock in
    let start = history_at c.open_bucket.new.desk in
    let last = history_at c.serve_connection-end.new.desk in
    let opened = c.in-Ok-open_bucket.ensures.opened in
    let Q : Limits → Type 0 = λ l. IsServed l 0
    (outside_of (record { left = i.rest c.args.input.now; taken = i.taken c.args.input.now; written = o.written c.args.output.now; given = k.given c.open_bucket.new.clock }) start start)
    (outside_of (record { left = i.rest c.serve_connection-end.new.source; taken = i.taken c.serve_connection-end.new.source; written = o.written c.serve_connection-end.new.sink; given = k.given c.serve_connection-end.new.clock }) last last)
    (i.ended c.serve_connection-end.new.source) c.serve_connection-end.result in
    inl (record {
      opening = opened.0;
      mid = k.given c.open_bucket.new.clock;
      clocked = opened.1;
      start = start;
      opened = opened.2;
      begun = opened_lists c.args.bucket opened.0 start opened.2;
      last = last;
      end = c.serve_connection-end.result;
      served = subst Q c.usual-limits.ensures c.serve_connection-end.ensures.served;
      status_is = c.number-2.ensures ∙ ap status_number c.status_of_session.ensures;
    })

pub serve_connection-end-requires-clause-chunks : goal.serve_connection-end-requires-clause-chunks
serve_connection-end-requires-clause-chunks g c = c.open_bucket.ensures.chunks ∙ c.in-Ok-new.ensures.chunks
