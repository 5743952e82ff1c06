-- A connection leaves the desk's chunks.
use Rattle.gcs_session.proofs.Standings.{same_chunks}
use Rattle.check_exchanges.proofs.serving.serve.Goals as goal

pub returns : goal.returns
returns c = same_chunks c.serve_connection-end.ensures.stands
