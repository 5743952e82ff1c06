use Rattle.std.proofs.Common.{true, subst}
use Rattle.std.specs.Prelude.{if◌then◌else◌}
use Rattle.gcs_session.specs.declared.ends.SessionEnd.TheVariants.{Cut, Ended}
use Rattle.gcs_session.specs.Connection.{IsServed}
use Rattle.gcs_session.proofs.Closings.{along-ended}
use Rattle.gcs_session.proofs.connection.end_of.Goals as goal

pub returns-then-at_start-clause-served : goal.returns-then-at_start-clause-served
returns-then-at_start-clause-served c = λ limits caller a b x stays.
    subst (λ s. IsServed limits caller a b true (if s then Ended else Cut)) c.if-at_start.true (along-ended limits caller a b c.args.session.now c.at_start.result x stays c.at_start.ensures)

pub returns-else-at_start-clause-served : goal.returns-else-at_start-clause-served
returns-else-at_start-clause-served c = λ limits caller a b x stays.
    subst (λ s. IsServed limits caller a b true (if s then Ended else Cut)) c.if-at_start.false (along-ended limits caller a b c.args.session.now c.at_start.result x stays c.at_start.ensures)
