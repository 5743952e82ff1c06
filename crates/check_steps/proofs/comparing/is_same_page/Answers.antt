use Rattle.std.proofs.Common.{subst}
use Rattle.std.specs.List.{AllByRecursion}
use Rattle.gcs_meaning.specs.Contents.{RowLiesIn}
use Rattle.check_steps.proofs.comparing.is_same_page.Goals as goal

pub is_same_version-requires : goal.is_same_version-requires
is_same_version-requires c = (subst (AllByRecursion (RowLiesIn c.args.chunks.now)) c.in-Some.ensures.steps.0 c.loop-row.invariant).0
