-- Of such parts nothing is kept.
use Rattle.gcs_session.proofs.PartsRead.{idle-grows}
use Rattle.gcs_session.proofs.two_parts.PartsKept.add.Goals as goal

pub returns-in-Nothing-2-clause-kept : goal.returns-in-Nothing-2-clause-kept
returns-in-Nothing-2-clause-kept g c = λ most head content parts kept. idle-grows most c.args.self.now head content c.args.part.now parts c.in-Nothing.is kept
