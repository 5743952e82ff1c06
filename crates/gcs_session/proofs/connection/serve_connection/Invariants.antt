use Rattle.std.proofs.Common.{◌≡◌, ◌≤◌, [], false, length}
use Rattle.gcs_session.specs.Along.{IsAlong}
use Rattle.gcs_session.specs.Connection.{Outside}
use Rattle.gcs_session.specs.Contents.{SessionLiesIn}
use Rattle.gcs_session.proofs.connection.serve_connection.Given as goal

abbrev pub invariant-pieces : goal.invariant-pieces
invariant-pieces g l =
    let s = g.S.Source in
    let k = g.K.Sink in
    let t = g.C.Clock in
    let d = g.D.Desk in
    let before : Outside = record { left = s.rest l.fn.source; taken = s.taken l.fn.source; written = k.written l.fn.sink; given = t.given l.fn.clock; saw = d.seen l.fn.desk; own = d.mine l.fn.desk } in
    let here : Outside = record { left = s.rest l.source; taken = s.taken l.source; written = k.written l.sink; given = t.given l.clock; saw = d.seen l.desk; own = d.mine l.desk } in
    record {
      reads : length l.wire.reads.items ≡ 65536;
      writes : length l.wire.writes.items ≡ 65536;
      stays : l.wire.session.closed ≡ false;
      stands : d.stands l.desk ≡ d.stands l.fn.desk;
      lies : SessionLiesIn l.chunks l.wire.session;
      along : (x : IsAlong l.limits (d.stands l.fn.desk).caller before here l.wire.session []) × (l.turn ≤ length x.fed);
      source_faults : s.faults l.fn.source ≤ s.faults l.source;
      sink_faults : k.faults l.fn.sink ≤ k.faults l.sink;
    }
