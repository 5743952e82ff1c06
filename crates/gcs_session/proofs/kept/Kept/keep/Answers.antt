-- What is kept of the part grows by what the next piece has room for.
use Rattle.std.proofs.Common.{List, ℕ, ◌++◌, subst, ◌∙◌, append_assoc}
use Rattle.gcs_session.specs.Contents.{KeptLiesIn}
use Rattle.gcs_session.specs.Holding.{IsHeld}
use Rattle.gcs_session.proofs.Pieces.{kept_more}
use Rattle.gcs_session.proofs.Standings.{same_chunks, stay_along}
use Rattle.gcs_session.proofs.kept.Kept.keep.Goals as goal

pub loop-rest-preserved : goal.loop-rest-preserved
loop-rest-preserved g c =
    let i = c.loop-rest.invariant in
    let next : List ℕ = c.split_at.result.0.now in
    record {
      front = i.front ++ next;
      part_is = kept_more c.args.part.now i.front c.loop-rest.rest.now next c.split_at.result.1.now c.min.result i.part_is c.split_at.ensures.front c.split_at.ensures.back;
      kept = λ bytes held. subst (IsHeld c.fill.new.self) (append_assoc bytes i.front next) (c.in_ok-fill.ensures.kept (bytes ++ i.front) (i.kept bytes held));
      lies = λ old. stay_along (λ k. KeptLiesIn k c.loop-rest.self) (λ k. KeptLiesIn k c.fill.new.self) (same_chunks i.stands) c.fill.ensures.lies (i.lies old);
      stands = c.fill.ensures.stands ∙ i.stands;
      lists = record {
        seen = λ s. c.fill.ensures.lists.seen s ∙ i.lists.seen s;
        mine = λ s. c.fill.ensures.lists.mine s ∙ i.lists.mine s;
      };
    }

pub returns-in_err-fill-clause-lies : goal.returns-in_err-fill-clause-lies
returns-in_err-fill-clause-lies g c = λ old.
    let i = c.loop-rest.invariant in
    stay_along (λ k. KeptLiesIn k c.loop-rest.self) (λ k. KeptLiesIn k c.fill.new.self) (same_chunks i.stands) c.fill.ensures.lies (i.lies old)
