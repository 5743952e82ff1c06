-- Each worker that is begun leaves fewer passes.
use Rattle.std.proofs.Common.{◌*◌, ◌+◌, length}
use Rattle.gcs_workers.proofs.serving.+workers.Given as goal

abbrev pub decreases-serve_beside : goal.decreases-serve_beside
decreases-serve_beside g l = 3 * length l.passes.now.items

abbrev pub decreases-serve_both : goal.decreases-serve_both
decreases-serve_both g l = 3 * length l.others.now.items + 2

abbrev pub decreases-serve_both-join_mut+arg2 : goal.decreases-serve_both-join_mut+arg2
decreases-serve_both-join_mut+arg2 g l = 3 * length l.others.now.items + 1
