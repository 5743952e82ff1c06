use Rattle.gcs_bucket.specs.Slot.{value_of}
use Rattle.gcs_bucket.proofs.Sound.{soon}
use Rattle.gcs_bucket.proofs.slot.Slot.restore.Goals as goal

pub put_at-requires-clause-moment : goal.put_at-requires-clause-moment
put_at-requires-clause-moment g c = soon (value_of c.args.self.now) _ c.args.reading c.requires.ready c.effective-moment.ensures
