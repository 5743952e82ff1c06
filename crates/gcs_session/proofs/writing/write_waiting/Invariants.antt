use Rattle.std.proofs.Common.{◌≡◌, ◌≤◌, ◌<◌, ◌++◌, ℕ, List, length}
use Rattle.gcs_io.specs.Told.{Gains}
use Rattle.gcs_http_in.specs.Message.{Message}
use Rattle.gcs_session.specs.Contents.{SessionLiesIn}
use Rattle.gcs_session.specs.Session.{IsSession, limits_in, waiting_in}
use Rattle.gcs_session.proofs.writing.write_waiting.Given as goal

abbrev pub invariant-waiting : goal.invariant-waiting
invariant-waiting g l =
    let k = g.K.Sink in
    record {
      block : 0 < length l.block;
      lies : SessionLiesIn l.chunks l.session;
      limits : limits_in l.session ≡ limits_in l.fn.session;
      closed : l.session.closed ≡ l.fn.session.closed;
      session : (bytes : List ℕ) (messages : List Message) (text drained : List ℕ) → IsSession l.fn.session bytes messages text drained
          → (given : List ℕ) × IsSession l.session bytes messages text given;
      written : (w : List ℕ) × Gains (k.written l.fn.sink) (k.written l.sink) w × (waiting_in l.fn.session ≡ w ++ waiting_in l.session);
      faults : k.faults l.fn.sink ≤ k.faults l.sink;
    }

abbrev pub decreases-waiting : goal.decreases-waiting
decreases-waiting g l = length (waiting_in l.session)
