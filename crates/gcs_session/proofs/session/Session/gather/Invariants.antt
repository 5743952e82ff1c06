use Rattle.std.proofs.Common.{◌≡◌, ◌≤◌, ◌-◌, ◌++◌, ℕ, List, length, take}
use Rattle.std.specs.Prelude.{IfSome}
use Rattle.gcs_http_in.specs.Message.{Message}
use Rattle.gcs_http_in.specs.Stands.{limits_of}
use Rattle.gcs_meaning.specs.Desk.{AreUnmoved}
use Rattle.gcs_session.specs.Contents.{ComingLiesIn}
use Rattle.gcs_session.specs.Session.{IsReading}
use Rattle.gcs_session.proofs.session.Session.gather.Given as goal

abbrev pub invariant-events : goal.invariant-events
invariant-events g l =
    let d = g.D.Desk in
    record {
      within : l.at ≤ length l.piece;
      limits : limits_of l.self.framer ≡ limits_of l.fn.self.framer;
      unsent : l.self.unsent ≡ l.fn.self.unsent;
      closed : l.self.closed ≡ l.fn.self.closed;
      stands : d.stands l.desk ≡ d.stands l.fn.desk;
      lists : AreUnmoved (d.seen l.fn.desk) (d.mine l.fn.desk) (d.seen l.desk) (d.mine l.desk);
      reading : (bytes : List ℕ) (messages : List Message) (text drained : List ℕ) → IsReading l.fn.self bytes messages text drained
          → IsReading l.self (bytes ++ take l.at l.piece) messages text drained;
      lies : IfSome l.fn.self.coming (ComingLiesIn (d.stands l.fn.desk).chunks) → IfSome l.self.coming (ComingLiesIn (d.stands l.fn.desk).chunks);
    }

abbrev pub decreases-events : goal.decreases-events
decreases-events g l = length l.piece - l.at
