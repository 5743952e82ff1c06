-- What is read of the piece grows by what an event takes.
use Rattle.std.proofs.Common.{List, ℕ, ◌++◌, take, refl, subst, ◌∙◌, append_assoc}
use Rattle.gcs_session.specs.Contents.{TwoPartsLieIn}
use Rattle.gcs_session.specs.TwoParts.{AreRead}
use Rattle.gcs_session.proofs.Drops.{rest-whole}
use Rattle.gcs_session.proofs.Pieces.{kept_more}
use Rattle.gcs_session.proofs.Standings.{same_chunks, stay_along}
use Rattle.gcs_session.proofs.two_parts.TwoParts.take.Goals as goal

pub loop-rest-preserved : goal.loop-rest-preserved
loop-rest-preserved g c =
    let i = c.loop-rest.invariant in
    let rest : List ℕ = c.loop-rest.rest.now in
    let n : ℕ = c.in_ok-taken.taken in
    let next : List ℕ = take n rest in
    record {
      front = i.front ++ next;
      piece_is = kept_more c.args.piece.now i.front rest next _ n i.piece_is refl (rest-whole rest n);
      read = λ most boundary bytes read. subst (AreRead most boundary c.take_event.new.self) (append_assoc bytes i.front next) (c.in_ok-taken.ensures.read most boundary (bytes ++ i.front) (i.read most boundary bytes read));
      lies = λ old. stay_along (λ k. TwoPartsLieIn k c.loop-rest.self) (λ k. TwoPartsLieIn k c.take_event.new.self) (same_chunks i.stands) c.take_event.ensures.lies (i.lies old);
      stands = c.take_event.ensures.stands ∙ i.stands;
      lists = record {
        seen = λ s. c.take_event.ensures.lists.seen s ∙ i.lists.seen s;
        mine = λ s. c.take_event.ensures.lists.mine s ∙ i.lists.mine s;
      };
    }

pub returns-in_err-taken-clause-lies : goal.returns-in_err-taken-clause-lies
returns-in_err-taken-clause-lies g c = λ old.
    let i = c.loop-rest.invariant in
    stay_along (λ k. TwoPartsLieIn k c.loop-rest.self) (λ k. TwoPartsLieIn k c.take_event.new.self) (same_chunks i.stands) c.take_event.ensures.lies (i.lies old)
