-- What has come of two parts.
use Rattle.std.proofs.Common.{Option, subst}
use Rattle.std.specs.Prelude.{IfSome}
use Rattle.std.proofs.lemmas.Result.{IfOk-weaker}
use Rattle.gcs_chunks.specs.Content.{ChunksValue}
use Rattle.gcs_session.specs.declared.two_parts.TwoParts.{TwoParts}
use Rattle.gcs_session.specs.Bodies.{AreReadIf, IsGathered}
use Rattle.gcs_session.specs.Contents.{BodyLiesIn, TwoPartsLieIn}
use Rattle.gcs_session.proofs.Gathered.{parts-come}
use Rattle.gcs_session.proofs.body.Body.finish.Goals as goal

pub returns-in-Parts-Some-clause-come : goal.returns-in-Parts-Some-clause-come
returns-in-Parts-Some-clause-come g c =
    IfOk-weaker c.finish-in-Parts-Some.result _ _
    (λ come is most part bytes gathered.
    parts-come most part c.in-Parts-Some.field-0 come bytes
    (λ boundary encoded read. is most boundary bytes encoded (subst (λ parts. AreReadIf most boundary parts bytes) c.in-Parts-Some.field-0-is read))
    (subst (λ body. IsGathered most part body bytes) c.in-Parts-Some.is gathered))
    c.finish-in-Parts-Some.ensures.come

pub returns-in-Parts-Some-clause-lies : goal.returns-in-Parts-Some-clause-lies
returns-in-Parts-Some-clause-lies g c =
    let chunks : ChunksValue = (g.D.Desk.stands c.args.desk.now).chunks in
    IfOk-weaker c.finish-in-Parts-Some.result _ _
    (λ come stays lies. stays (subst (λ (parts : Option TwoParts). IfSome parts (TwoPartsLieIn chunks)) c.in-Parts-Some.field-0-is (subst (BodyLiesIn chunks) c.in-Parts-Some.is lies)))
    c.finish-in-Parts-Some.ensures.lies
