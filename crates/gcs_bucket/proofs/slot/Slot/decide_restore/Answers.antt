use Rattle.std.proofs.Common.{sym}
use Rattle.gcs_bucket.specs.Slot.{value_of}
use Rattle.gcs_bucket.proofs.Buried.{not_alive, restore_made, restore_none, restore_taken, some_alive}
use Rattle.gcs_bucket.proofs.Sound.{grave_changed_of}
use Rattle.gcs_bucket.proofs.slot.Slot.decide_restore.Goals as goal

pub returns-in_default : goal.returns-in_default
returns-in_default c = restore_none (value_of c.args.self.now) _ _ _ (rw c.deref.ensures.value at c.in_default.ensures)

pub returns-then-is_some : goal.returns-then-is_some
returns-then-is_some c =
    let alive = some_alive c.args.self.now.alive (sym c.if-is_some.ensures) in
    restore_taken (value_of c.args.self.now) _ _ _ c.in-Some.grave.now alive.0 (rw c.deref.ensures.value at c.in-Some.ensures) alive.1

pub show_restored-requires : goal.show_restored-requires
show_restored-requires c = grave_changed_of (value_of c.args.self.now) _ c.in-Some.grave.now (sym (rw c.deref.ensures.value at c.in-Some.ensures)) c.requires.ready

pub returns : goal.returns
returns c =
    restore_made (value_of c.args.self.now) _ _ _ c.in-Some.grave.now c.in_ok-show_restored.field-0 (rw c.deref.ensures.value at c.in-Some.ensures) (not_alive c.args.self.now.alive (sym c.if-is_some.ensures)) c.in_ok-show_restored.ensures
