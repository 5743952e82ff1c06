use Rattle.std.proofs.Common.{◌<◌, ap, refl, sym, subst}
use Rattle.std.specs.List.{AllByRecursion}
use Rattle.gcs_meaning.specs.declared.version.Row.{Row}
use Rattle.gcs_meaning.specs.Choosing.{is_live}
use Rattle.gcs_meaning.specs.Order.{IsNumbered}
use Rattle.gcs_bucket.specs.Alive.{alive_of, state_of}
use Rattle.gcs_bucket.specs.Slot.{value_of}
use Rattle.gcs_bucket.proofs.Commands.{put_dead, put_made, put_tested, tested_err, tested_ok}
use Rattle.gcs_bucket.proofs.Removed.{next_aged}
use Rattle.gcs_bucket.proofs.Sound.{above_counted, more_than, one_more}
use Rattle.gcs_bucket.proofs.slot.Slot.decide_put.Goals as goal

pub returns-in_default-clause-decided : goal.returns-in_default-clause-decided
returns-in_default-clause-decided g c = put_dead (value_of c.args.self.now) _ _ _ _ _ _ _ (ap alive_of c.in_default.is)

pub returns-in-Err-clause-decided : goal.returns-in-Err-clause-decided
returns-in-Err-clause-decided g c =
    put_tested (value_of c.args.self.now) _ _ _ _ _ _ _ (state_of c.in-Some.state) c.in-Err.reason (ap alive_of c.in-Some.is) (tested_err _ _ _ c.in-Err.ensures.tested)

pub returns-clause-decided : goal.returns-clause-decided
returns-clause-decided g c =
    put_made (value_of c.args.self.now) c.args.moment c.max-generation.result _ _ _ _ _ _ (state_of c.in-Some.state) c.in_ok-row.row
    (record { row = c.in_ok-row.row; shown = c.in_ok-shown.shown; settings = c.in_ok-settings.settings; live = c.in-Ok.live }) (ap alive_of c.in-Some.is)
    (tested_ok _ _ _ c.in-Ok.ensures.tested).0 c.max-generation.ensures c.in_ok-row.ensures refl c.in_ok-shown.ensures c.in_ok-settings.ensures

pub returns-clause-next : goal.returns-clause-next
returns-clause-next g c =
    next_aged c.args.moment c.args.name.now c.in-Ok.live c.in_ok-row.row _ (value_of c.args.self.now) (state_of c.in-Some.state) (ap alive_of c.in-Some.is) refl refl
    (ap (λ (row : Row). row.name) c.in_ok-row.ensures)
    (ap (λ (row : Row). is_live row.kind) c.in_ok-row.ensures)
    (subst IsNumbered (sym c.in_ok-row.ensures) (one_more _ _ _ c.max-generation.ensures, c.max-generation.type_inv))
    (subst (λ (row : Row). AllByRecursion (λ other. other.generation < row.generation) c.in-Some.state.rows.rows) (sym c.in_ok-row.ensures)
    (above_counted c.args.self.now.last_object c.max-generation.result (alive_of c.args.self.now.alive) (state_of c.in-Some.state) (ap alive_of c.in-Some.is) (more_than _ _ _ c.max-generation.ensures) c.requires.ready.counted))
    (tested_ok _ _ _ c.in-Ok.ensures.tested).1
