-- A call of the desk leaves its chunks.
use Rattle.gcs_session.proofs.Standings.{same_chunks}
use Rattle.gcs_workers.proofs.alone.open_bucket.Goals as goal

pub returns-in-Ok-clause-chunks : goal.returns-in-Ok-clause-chunks
returns-in-Ok-clause-chunks g c = same_chunks c.call.ensures.stands

pub returns-in-Err-clause-chunks : goal.returns-in-Err-clause-chunks
returns-in-Err-clause-chunks g c = same_chunks c.call.ensures.stands
