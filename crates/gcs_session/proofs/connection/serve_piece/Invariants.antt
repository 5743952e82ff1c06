use Rattle.std.proofs.Common.{◌≡◌, ◌≤◌, ◌<◌, ◌+◌, ℕ, List, Option, length}
use Rattle.gcs_http_in.specs.declared.limits.Limits.{Limits}
use Rattle.gcs_session.specs.Along.{IsAlong}
use Rattle.gcs_session.specs.Connection.{Outside}
use Rattle.gcs_session.specs.Contents.{SessionLiesIn}
use Rattle.gcs_session.proofs.connection.serve_piece.Given as goal

abbrev pub invariant-messages : goal.invariant-messages
invariant-messages g l =
    let k = g.K.Sink in
    let t = g.C.Clock in
    let d = g.D.Desk in
    let own : ℕ = (d.stands l.fn.desk).caller in
    record {
      block : 0 < length l.block;
      stands : d.stands l.desk ≡ d.stands l.fn.desk;
      lies : SessionLiesIn l.chunks l.session;
      faults : k.faults l.fn.sink ≤ k.faults l.sink;
      some : (limits : Limits) × (a : Outside) × (left : Option (List ℕ)) × (taken : Option (List ℕ))
          × (x : IsAlong limits own a (record { left = left; taken = taken; written = k.written l.sink; given = t.given l.clock; saw = d.seen l.desk; own = d.mine l.desk }) l.session l.rest)
          × (l.turn ≤ length x.messages);
      along : (limits : Limits) (a : Outside) (left taken : Option (List ℕ))
          → (x : IsAlong limits own a (record { left = left; taken = taken; written = k.written l.fn.sink; given = t.given l.fn.clock; saw = d.seen l.fn.desk; own = d.mine l.fn.desk }) l.fn.session l.piece)
          → (z : IsAlong limits own a (record { left = left; taken = taken; written = k.written l.sink; given = t.given l.clock; saw = d.seen l.desk; own = d.mine l.desk }) l.session l.rest)
          × (length x.fed + length l.piece ≤ length z.fed + length l.rest);
    }
