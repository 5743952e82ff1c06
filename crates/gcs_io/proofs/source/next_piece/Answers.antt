use Rattle.std.proofs.Common.{arith, ◌∙◌, ◌≡◌, ◌<◌, ℕ, length, subst}
use Rattle.std.specs.Global.{Vec}
use Rattle.gcs_io.proofs.PieceLemmas.{left-next, passed-next, next_bytes-next, left-over, same_item}
use Rattle.gcs_io.proofs.source.next_piece.Goals as goal

pub loop-index-preserved : goal.loop-index-preserved
loop-index-preserved c =
    record {
      left = left-next _ _ _ c.index-pieces-index.result c.loop-index-test.true c.index-pieces-index.is (omega (arith, c.index-pieces-index.result.ok.0)) ∙ c.loop-index.invariant.left;
      passed = passed-next _ _ _ c.index-pieces-index.result c.loop-index-test.true c.index-pieces-index.is (omega (arith, c.index-pieces-index.result.ok.0)) ∙ c.loop-index.invariant.passed;
      next = next_bytes-next _ _ _ c.index-pieces-index.result c.loop-index-test.true c.index-pieces-index.is (omega (arith, c.index-pieces-index.result.ok.0)) ∙ c.loop-index.invariant.next;
    }

pub returns-after-loop-index-clause-over : goal.returns-after-loop-index-clause-over
returns-after-loop-index-clause-over c h = left-over _ _ _ h

pub returns-then-at-len-clause-found : goal.returns-then-at-len-clause-found
returns-then-at-len-clause-found c h p e =
    let same : c.index-pieces-index.result ≡ p = same_item _ _ c.index-pieces-index.result p h c.index-pieces-index.is e in
    let P : Vec ℕ → Type 0 = λ v. c.loop-index.at < length v.items in
    subst P same (omega (arith, c.index-pieces-index.result.ok.0))
