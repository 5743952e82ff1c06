use Rattle.std.proofs.Common.{arith, refl}
use Rattle.gcs_rewrite.proofs.Lines.{cut_more, cut_last}
use Rattle.gcs_rewrite.proofs.token_lines.lines_of.Goals as goal

pub loop-at-preserved : goal.loop-at-preserved
loop-at-preserved c =
    let cut = c.loop-at.invariant in
    (cut_more (λ s. s.now) c.args.text.now c.loop-at.lines.items c.push.new.self.items c.around.result.0 c.loop-at.rest.now c.around.result.1.now c.loop-at.at cut.0 cut.1 c.loop-at-test.true c.around.ensures.0 c.around.ensures.1 c.in_ok-push.ensures.items, c.first_length-at-in-loop-at.ensures)

pub returns : goal.returns
returns c =
    let cut = c.loop-at.invariant in
    cut_last (λ s. s.now) c.args.text.now c.loop-at.lines.items c.push-2.new.self.items c.loop-at.rest c.loop-at.rest.now c.loop-at.at cut.0 cut.1 (omega (arith, c.loop-at-test.false)) refl c.in_ok-push-2.ensures.items
