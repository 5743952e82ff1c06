use Rattle.gcs_route.proofs.Queries.{query_passes}
use Rattle.gcs_route.proofs.pairs.read_pairs.Goals as goal

-- the query is text
pub returns-in-Ok-clause-right : goal.returns-in-Ok-clause-right
returns-in-Ok-clause-right c = query_passes c.args.text.now c.in-Ok.ensures.texts
