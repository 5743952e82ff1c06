use Rattle.std.proofs.Common.{rules, ◌++◌, ap₂, subst, sym, ◌∙◌, arith}
use Rattle.gcs_chunks.specs.Content.{PieceLiesIn, Placed}
use Rattle.gcs_chunks.proofs.Ends.{bytes-to, span_lies}
use Rattle.gcs_chunks.proofs.content.are_same.Goals as goal

pub loop-place-preserved : goal.loop-place-preserved
loop-place-preserved c =
    let i = c.loop-place.place in
    bytes-to c.args.spans.now i c.index-spans-place.result c.loop-place-test.true c.index-spans-place.is
    ∙ ap₂ (λ a b. a ++ b) c.loop-place.invariant (c.is_same.ensures (search rules))
    ∙ sym (bytes-to c.args.others.now i c.index-others-place.result (omega (arith, c.loop-place-test.true, c.if-spans-others.false)) c.index-others-place.is)

pub is_same-requires-clause-mine : goal.is_same-requires-clause-mine
is_same-requires-clause-mine c =
    subst (λ (s : Placed). PieceLiesIn c.args.chunks.now s.part.chunk) (sym c.index-spans-place.is)
    (span_lies c.args.chunks.now c.args.spans.now c.loop-place.place c.index-spans-place.result c.requires.mine c.loop-place-test.true)

pub is_same-requires-clause-theirs : goal.is_same-requires-clause-theirs
is_same-requires-clause-theirs c =
    subst (λ (s : Placed). PieceLiesIn c.args.chunks.now s.part.chunk) (sym c.index-others-place.is)
    (span_lies c.args.chunks.now c.args.others.now c.loop-place.place c.index-others-place.result c.requires.theirs (omega (arith, c.loop-place-test.true, c.if-spans-others.false)))
