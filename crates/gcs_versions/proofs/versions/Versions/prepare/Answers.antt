use Rattle.std.proofs.Common.{◌∙◌, ap}
use Rattle.gcs_versions.specs.Kept.{Kept}
use Rattle.gcs_versions.proofs.Growing.{kept_grown, kept_with, rows_grown, same}
use Rattle.gcs_versions.proofs.versions.Versions.prepare.Goals as goal

pub invariant_of-self : goal.invariant_of-self
invariant_of-self c = kept_grown (record { slots = c.reserve.ensures.rest_kept; capacity = c.reserve.ensures.capacity }) (same c.self.inside.all) (same c.self.inside.readable) (same c.self.inside.live) (same c.self.inside.soft) (same c.self.inside.due) c.self.inside.to_put c.self.inside.to_retire c.self.invariant

pub invariant_of-self-in_err-reserve_one : goal.invariant_of-self-in_err-reserve_one
invariant_of-self-in_err-reserve_one c =
    kept_grown (record { slots = c.reserve.ensures.rest_kept; capacity = c.reserve.ensures.capacity }) (record { entries = c.reserve_one.ensures.entries; spare = c.reserve_one.ensures.spare }) (same c.self.inside.readable) (same c.self.inside.live) (same c.self.inside.soft) (same c.self.inside.due) c.self.inside.to_put c.self.inside.to_retire c.self.invariant

pub invariant_of-self-in_err-reserve_one-2 : goal.invariant_of-self-in_err-reserve_one-2
invariant_of-self-in_err-reserve_one-2 c =
    kept_grown (record { slots = c.reserve.ensures.rest_kept; capacity = c.reserve.ensures.capacity }) (record { entries = c.reserve_one.ensures.entries; spare = c.reserve_one.ensures.spare }) (record { entries = c.reserve_one-2.ensures.entries; spare = c.reserve_one-2.ensures.spare }) (same c.self.inside.live) (same c.self.inside.soft) (same c.self.inside.due) c.self.inside.to_put c.self.inside.to_retire c.self.invariant

pub invariant_of-self-in_err-reserve_one-3 : goal.invariant_of-self-in_err-reserve_one-3
invariant_of-self-in_err-reserve_one-3 c =
    kept_grown (record { slots = c.reserve.ensures.rest_kept; capacity = c.reserve.ensures.capacity }) (record { entries = c.reserve_one.ensures.entries; spare = c.reserve_one.ensures.spare }) (record { entries = c.reserve_one-2.ensures.entries; spare = c.reserve_one-2.ensures.spare }) (record { entries = c.reserve_one-3.ensures.entries; spare = c.reserve_one-3.ensures.spare }) (same c.self.inside.soft) (same c.self.inside.due) c.self.inside.to_put c.self.inside.to_retire c.self.invariant

pub invariant_of-self-in_err-reserve_one-4 : goal.invariant_of-self-in_err-reserve_one-4
invariant_of-self-in_err-reserve_one-4 c =
    kept_grown (record { slots = c.reserve.ensures.rest_kept; capacity = c.reserve.ensures.capacity }) (record { entries = c.reserve_one.ensures.entries; spare = c.reserve_one.ensures.spare }) (record { entries = c.reserve_one-2.ensures.entries; spare = c.reserve_one-2.ensures.spare }) (record { entries = c.reserve_one-3.ensures.entries; spare = c.reserve_one-3.ensures.spare }) (record { entries = c.reserve_one-4.ensures.entries; spare = c.reserve_one-4.ensures.spare }) (same c.self.inside.due) c.self.inside.to_put c.self.inside.to_retire c.self.invariant

pub invariant_of-self-in_err-reserve_one-5 : goal.invariant_of-self-in_err-reserve_one-5
invariant_of-self-in_err-reserve_one-5 c =
    kept_grown (record { slots = c.reserve.ensures.rest_kept; capacity = c.reserve.ensures.capacity }) (record { entries = c.reserve_one.ensures.entries; spare = c.reserve_one.ensures.spare }) (record { entries = c.reserve_one-2.ensures.entries; spare = c.reserve_one-2.ensures.spare }) (record { entries = c.reserve_one-3.ensures.entries; spare = c.reserve_one-3.ensures.spare }) (record { entries = c.reserve_one-4.ensures.entries; spare = c.reserve_one-4.ensures.spare }) (record { entries = c.reserve_one-5.ensures.entries; spare = c.reserve_one-5.ensures.spare }) c.self.inside.to_put c.self.inside.to_retire c.self.invariant

pub invariant_of-self-in_err-to_put : goal.invariant_of-self-in_err-to_put
invariant_of-self-in_err-to_put c =
    kept_grown (record { slots = c.reserve.ensures.rest_kept; capacity = c.reserve.ensures.capacity }) (record { entries = c.reserve_one.ensures.entries; spare = c.reserve_one.ensures.spare }) (record { entries = c.reserve_one-2.ensures.entries; spare = c.reserve_one-2.ensures.spare }) (record { entries = c.reserve_one-3.ensures.entries; spare = c.reserve_one-3.ensures.spare }) (record { entries = c.reserve_one-4.ensures.entries; spare = c.reserve_one-4.ensures.spare }) (record { entries = c.reserve_one-5.ensures.entries; spare = c.reserve_one-5.ensures.spare }) c.self.inside.to_put c.self.inside.to_retire c.self.invariant

pub invariant_of-self-2 : goal.invariant_of-self-2
invariant_of-self-2 c =
    kept_with c.args.name.now c.in_ok-to_put.to_put c.in_ok-to_put.to_retire
    (kept_grown (record { slots = c.reserve.ensures.rest_kept; capacity = c.reserve.ensures.capacity }) (record { entries = c.reserve_one.ensures.entries; spare = c.reserve_one.ensures.spare }) (record { entries = c.reserve_one-2.ensures.entries; spare = c.reserve_one-2.ensures.spare }) (record { entries = c.reserve_one-3.ensures.entries; spare = c.reserve_one-3.ensures.spare }) (record { entries = c.reserve_one-4.ensures.entries; spare = c.reserve_one-4.ensures.spare }) (record { entries = c.reserve_one-5.ensures.entries; spare = c.reserve_one-5.ensures.spare }) c.self.inside.to_put c.self.inside.to_retire c.self.invariant)
    record {
      free_slot = c.in_ok-reserve.ensures.room;
      in_all = c.in_ok-reserve_one.ensures.ok;
      in_readable = c.in_ok-reserve_one-2.ensures.ok;
      in_live = c.in_ok-reserve_one-3.ensures.ok;
    }
    record { in_soft = c.in_ok-reserve_one-4.ensures.ok; in_due = c.in_ok-reserve_one-5.ensures.ok }
    c.in_ok-to_put.ensures.put c.in_ok-to_put.ensures.retirement

pub returns-clause-rows : goal.returns-clause-rows
returns-clause-rows c =
    rows_grown c.self.inside.all c.reserve_one.new.self (record { slots = c.reserve.ensures.rest_kept; capacity = c.reserve.ensures.capacity }) (record { entries = c.reserve_one.ensures.entries; spare = c.reserve_one.ensures.spare }) ∙ ap (λ (k : Kept). k.rows) c.self.view_is
