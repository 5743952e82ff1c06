use Rattle.std.proofs.Common.{◌≤◌, subst, sym}
use Rattle.gcs_uploads.specs.Earliest.{begun}
use Rattle.gcs_uploads.proofs.Earliest.{earliest_called}
use Rattle.gcs_uploads.proofs.uploads.Uploads.done.Goals as goal

pub invariant_of-self : goal.invariant_of-self
invariant_of-self c =
    earliest_called c.args.number c.self.inside.earliest c.in-Some.upload.now c.set_state.new.upload c.self.inside.by_number.entries (c.get_mut.follows.lender c.set_state.new.upload).entries
    (sym c.in-Some.ensures.value) (c.get_mut.follows.holds c.set_state.new.upload).0
    (λ within last. subst (λ u. c.self.inside.earliest ≤ begun u) (sym c.set_state.ensures) last)
    c.self.invariant
