use Rattle.gcs_bucket.specs.Slot.{value_of}
use Rattle.gcs_bucket.proofs.Uploading.{free_next, none_alive, some_alive, start_dead, start_made}
use Rattle.gcs_bucket.proofs.slot.Slot.start_at.Goals as goal

pub returns-then-is_none-clause-done : goal.returns-then-is_none-clause-done
returns-then-is_none-clause-done c =
    start_dead (value_of c.args.self.now) c.args.moment c.args.name.now c.args.pre.now c.args.meta.now c.args.expect.now c.args.total (none_alive c.args.self.now.alive c.if-is_none.ensures)

pub add_upload-requires : goal.add_upload-requires
add_upload-requires c = record { free = free_next (value_of c.args.self.now) c.requires.ready.below }

pub returns-clause-done : goal.returns-clause-done
returns-clause-done c =
    let lives = some_alive c.args.self.now.alive c.if-is_none.ensures in
    start_made (value_of c.args.self.now) (value_of c.add_upload.new.self) c.args.moment c.args.name.now c.args.pre.now c.args.meta.now c.args.expect.now c.args.total
    lives.0 c.in_ok-upload.upload lives.1 c.in_ok-upload.ensures c.in_ok-add_upload.ensures.added
