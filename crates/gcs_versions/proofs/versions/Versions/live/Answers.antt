use Rattle.std.proofs.Common.{◌∙◌, ap, Some, None, length}
use Rattle.gcs_index.specs.Looks.{AreLooks}
use Rattle.gcs_meaning.specs.Choosing.{is_live}
use Rattle.gcs_versions.specs.Kept.{Kept}
use Rattle.gcs_versions.proofs.Seen.{live_seen, looks_placed}
use Rattle.gcs_versions.proofs.versions.Versions.live.Given as given
use Rattle.gcs_versions.proofs.versions.Versions.live.Goals as goal
use Rattle.gcs_versions.proofs.versions.Versions.live.Goals.{After-find}

-- one search among the live versions
one_search : (g : given.Over) (c : After-find g) → AreLooks 1 (length c.args.self.now.rows) c.args.steps.now c.find.new.steps
one_search g c =
    looks_placed c.self.invariant.indexes (ap (λ (k : Kept). k.rows) c.self.view_is)
    is_live c.self.inside.live.entries c.args.steps.now c.find.new.steps c.self.invariant.indexes.live_are c.find.ensures.looks

pub returns-in_err-slot-clause-found : goal.returns-in_err-slot-clause-found
returns-in_err-slot-clause-found g c =
    rw c.from_residual.ensures
    (live_seen c.self.invariant.indexes (ap (λ (k : Kept). k.rows) c.self.view_is)
    c.args.name.now c.as_bytes-name.result.now None c.as_bytes-name.ensures c.in_err-slot.ensures.found)

pub returns-in_err-slot-clause-looks : goal.returns-in_err-slot-clause-looks
returns-in_err-slot-clause-looks g c = one_search g (goal.at.returns-in_err-slot-clause-looks g c).After-find

pub returns-clause-found : goal.returns-clause-found
returns-clause-found g c =
    c.row_in.ensures
    ∙ live_seen c.self.invariant.indexes (ap (λ (k : Kept). k.rows) c.self.view_is)
    c.args.name.now c.as_bytes-name.result.now (Some c.in_ok-slot.slot.now) c.as_bytes-name.ensures c.in_ok-slot.ensures.found

pub returns-clause-looks : goal.returns-clause-looks
returns-clause-looks g c = one_search g (goal.at.returns-clause-looks g c).After-find
