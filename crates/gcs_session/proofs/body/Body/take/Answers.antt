-- More bytes of each kind of body.
use Rattle.std.proofs.Common.{ℕ, List, ◌++◌, subst, sym}
use Rattle.gcs_session.specs.Bodies.{IsGathered}
use Rattle.gcs_session.specs.Contents.{BodyLiesIn}
use Rattle.gcs_session.proofs.Gathered.{content-more, parts-more, passed-more, piece-more, text-more}
use Rattle.gcs_session.proofs.body.Body.take.Goals as goal

pub returns-in-PassedOver-clause-gathered : goal.returns-in-PassedOver-clause-gathered
returns-in-PassedOver-clause-gathered g c = λ most part bytes come.
    let more : List ℕ = bytes ++ c.args.piece.now in
    subst (λ body. IsGathered most part body more) (sym c.in-PassedOver.is) (passed-more most part bytes more (subst (λ body. IsGathered most part body bytes) c.in-PassedOver.is come))

pub returns-in-Content-clause-gathered : goal.returns-in-Content-clause-gathered
returns-in-Content-clause-gathered g c = λ most part bytes come.
    content-more most part _ _ bytes _ (c.hash_more.ensures.held bytes) (subst (λ body. IsGathered most part body bytes) c.in-Content.is come)

pub returns-in-Piece-clause-gathered : goal.returns-in-Piece-clause-gathered
returns-in-Piece-clause-gathered g c = λ most part bytes come.
    piece-more most part _ _ bytes _ (c.keep_more.ensures.held bytes) (subst (λ body. IsGathered most part body bytes) c.in-Piece.is come)

pub returns-in-Text-clause-gathered : goal.returns-in-Text-clause-gathered
returns-in-Text-clause-gathered g c = λ most part bytes come.
    text-more most part _ _ bytes _ (c.gather_more.ensures most bytes) (subst (λ body. IsGathered most part body bytes) c.in-Text.is come)

pub returns-in-Parts-clause-gathered : goal.returns-in-Parts-clause-gathered
returns-in-Parts-clause-gathered g c = λ most part bytes come.
    parts-more most part _ _ bytes _ (λ boundary. c.read_more.ensures.read most boundary bytes) (subst (λ body. IsGathered most part body bytes) c.in-Parts.is come)

pub returns-in-Content-clause-lies : goal.returns-in-Content-clause-lies
returns-in-Content-clause-lies g c = λ old. c.hash_more.ensures.lies (subst (BodyLiesIn (g.D.Desk.stands c.args.desk.now).chunks) c.in-Content.is old)

pub returns-in-Piece-clause-lies : goal.returns-in-Piece-clause-lies
returns-in-Piece-clause-lies g c = λ old. c.keep_more.ensures.lies (subst (BodyLiesIn (g.D.Desk.stands c.args.desk.now).chunks) c.in-Piece.is old)

pub returns-in-Parts-clause-lies : goal.returns-in-Parts-clause-lies
returns-in-Parts-clause-lies g c = λ old. c.read_more.ensures.lies (subst (BodyLiesIn (g.D.Desk.stands c.args.desk.now).chunks) c.in-Parts.is old)
