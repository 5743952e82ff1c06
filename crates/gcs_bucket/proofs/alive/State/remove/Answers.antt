use Rattle.std.proofs.Common.{ap}
use Rattle.gcs_bucket.specs.Alive.{state_of}
use Rattle.gcs_bucket.proofs.Removed.{chosen_there, removed}
use Rattle.gcs_bucket.proofs.alive.State.remove.Goals as goal

pub retire-requires-clause-there : goal.retire-requires-clause-there
retire-requires-clause-there c = chosen_there c.args.name.now c.args.asked c.args.found _ c.known.ensures.rise c.requires.found

pub returns-clause-state : goal.returns-clause-state
returns-clause-state c =
    removed (state_of c.args.self.now) _ c.args.moment c.args.name.now c.args.asked c.args.found c.retire-to.result c.known.ensures.rise c.requires.found (rw c.is_some.ensures at c.retire-to.ensures)
    (ap (λ rows. record (state_of c.args.self.now) { rows = rows }) c.retire.ensures.rows)
