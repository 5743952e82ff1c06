use Rattle.std.proofs.Common.{◌≤◌, arith, subst, sym}
use Rattle.gcs_uploads.specs.Earliest.{begun, earliest_start}
use Rattle.gcs_uploads.proofs.Earliest.{earliest_more}
use Rattle.gcs_uploads.proofs.uploads.Uploads.start.Goals as goal

pub invariant_of-self-2 : goal.invariant_of-self-2
invariant_of-self-2 c =
    let first : c.min-self-inside.result ≤ c.self.inside.earliest = omega (arith, c.min-self-inside.ensures) in
    let new : c.min-self-inside.result ≤ begun c.args.upload = omega (arith, c.min-self-inside.ensures, c.begun-begun.ensures) in
    subst (λ uploads. c.min-self-inside.result ≤ earliest_start uploads) (sym c.in_ok-add.ensures.added)
    (earliest_more c.args.number c.min-self-inside.result c.args.upload c.self.inside.by_number.entries new (omega (arith, c.self.invariant)))
