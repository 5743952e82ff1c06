-- The reply of a fault has no content.
use Rattle.gcs_session.proofs.session.Session.refuse.Goals as goal

pub returns-clause-lies : goal.returns-clause-lies
returns-clause-lies c = λ chunks. record { coming = tt; unsent = c.new.ensures.lies chunks (c.fault_reply.ensures.lies chunks) }
