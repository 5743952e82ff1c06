use Rattle.std.proofs.Common.{◌≡◌, ◌≤◌, length}
use Rattle.gcs_rewrite.specs.Contents.{AnswersLieIn}
use Rattle.gcs_session.proofs.Steps.{IsRun}
use Rattle.gcs_session.proofs.answering.run_script.Given as goal

abbrev pub invariant-loop : goal.invariant-loop
invariant-loop g l =
    let d = g.D.Desk in
    record {
      stands : d.stands l.desk ≡ d.stands l.fn.desk;
      lies : AnswersLieIn l.chunks l.answers.items;
      run : IsRun l.request l.moment (d.stands l.fn.desk).caller (d.seen l.fn.desk) (d.mine l.fn.desk) (d.seen l.desk) (d.mine l.desk) l.answers.items;
      count : length l.answers.items ≡ l.counter;
      few : length l.answers.items ≤ 16;
    }
