-- A session that has taken nothing has no content.
use Rattle.gcs_session.proofs.session.Session.new.Goals as goal

pub returns-clause-lies : goal.returns-clause-lies
returns-clause-lies c = λ chunks. record { coming = tt; unsent = c.new-2.ensures.lies chunks tt }
