use Rattle.gcs_store.proofs.Seats.{known_lists}
use Rattle.gcs_store.proofs.shared_desk.SharedDesk.known.Goals as goal

pub returns : goal.returns
returns g c = rw (← c.self.view_is) (known_lists c.self.inside.store.now c.self.inside.passes.caller c.self.inside.passes.seats.items c.self.invariant)
