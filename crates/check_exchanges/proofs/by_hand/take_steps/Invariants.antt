use Rattle.std.proofs.Common.{◌≡◌}
use Rattle.gcs_session.specs.Contents.{SessionLiesIn}
use Rattle.gcs_session.specs.Session.{IsRunning}
use Rattle.check_exchanges.proofs.by_hand.take_steps.Given as goal

-- the session goes on over the same chunks
abbrev pub invariant-loop-step : goal.invariant-loop-step
invariant-loop-step l = record {
  chunks : l.desk.chunks ≡ l.chunks;
  running : IsRunning l.session;
  lies : SessionLiesIn l.chunks l.session;
}
