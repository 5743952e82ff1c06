use Rattle.std.specs.List.{AllByRecursion}
use Rattle.gcs_meaning.specs.Contents.{RowLiesIn}
use Rattle.check_steps.proofs.comparing.is_same_page.Given as goal

-- the rows that are left lie in the chunks
abbrev pub invariant-loop-row : goal.invariant-loop-row
invariant-loop-row l = AllByRecursion (RowLiesIn l.chunks) l.row-iterator.a.rest.now
