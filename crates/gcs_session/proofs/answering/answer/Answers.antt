-- A reply lies where what is said lies, and want of memory has no content.
use Rattle.gcs_session.proofs.answering.answer.Goals as goal

pub returns-in-Wanting-clause-lies : goal.returns-in-Wanting-clause-lies
returns-in-Wanting-clause-lies g c = c.memory_reply.ensures.lies c.args.chunks.now

pub returns-in-Ok-clause-lies : goal.returns-in-Ok-clause-lies
returns-in-Ok-clause-lies g c = c.in-Ok.ensures.lies c.args.chunks.now c.in-Said.ensures.lies

pub returns-in-Err-clause-lies : goal.returns-in-Err-clause-lies
returns-in-Err-clause-lies g c = c.memory_reply-in-Err.ensures.lies c.args.chunks.now
