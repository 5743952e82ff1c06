-- A call of the desk leaves its chunks.
use Rattle.gcs_session.proofs.Standings.{same_chunks}
use Rattle.check_exchanges.proofs.store.call.Goals as goal

pub returns-in-Ok : goal.returns-in-Ok
returns-in-Ok c = same_chunks c.call.ensures.stands

pub returns-in-Err : goal.returns-in-Err
returns-in-Err c = same_chunks c.call.ensures.stands
