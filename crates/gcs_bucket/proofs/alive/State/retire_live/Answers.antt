use Rattle.std.proofs.Common.{◌≡◌, ◌∙◌, None, sym, subst}
use Rattle.gcs_meaning.specs.Choosing.{live_row}
use Rattle.gcs_meaning.specs.Slot.{State}
use Rattle.gcs_bucket.specs.Alive.{state_of}
use Rattle.gcs_bucket.proofs.Removed.{none_found_live, none_live, none_removed}
use Rattle.gcs_bucket.proofs.alive.State.retire_live.Goals as goal

pub returns-in_default-clause-state : goal.returns-in_default-clause-state
returns-in_default-clause-state c =
    none_removed (state_of c.args.self.now) c.args.moment c.args.name.now (none_found_live _ (sym c.in_default.is ∙ c.requires.live))

pub returns-in_default-clause-none : goal.returns-in_default-clause-none
returns-in_default-clause-none c = none_found_live _ (sym c.in_default.is ∙ c.requires.live)

pub returns-clause-none : goal.returns-clause-none
returns-clause-none c =
    subst (λ (s : State). live_row c.args.name.now s.rows ≡ None) (sym c.remove.ensures.state)
    (none_live (state_of c.args.self.now) c.args.moment c.args.name.now c.known.ensures.single)
