use Rattle.std.proofs.Common.{ℕ, List, subst, ◌∙◌}
use Rattle.gcs_chunks.specs.Content.{ChunksValue}
use Rattle.gcs_request.specs.Bodies.{IsCome}
use Rattle.gcs_request.specs.Contents.{AskedLiesIn, ComeLiesIn}
use Rattle.gcs_request.specs.Heading.{part_with, IsHeading}
use Rattle.gcs_request.specs.Requests.{IsAsked, IsAskedFit, IsCall, IsRefusal}
use Rattle.gcs_reply.specs.Outgoing.{outgoing_bytes}
use Rattle.gcs_session.specs.Bodies.{part_in, IsGathered}
use Rattle.gcs_session.specs.Coming.{IsHeadingIf}
use Rattle.gcs_session.specs.Contents.{BodyLiesIn}
use Rattle.gcs_session.specs.Running.{lengths, GoesOn}
use Rattle.gcs_session.specs.Served.{IsAnswered}
use Rattle.gcs_session.proofs.Answered.{answered-from, replies-answered, replies-refused}
use Rattle.gcs_session.proofs.Steps.{goes_on-same, goes_on-trans, same-lengths}
use Rattle.gcs_session.proofs.Standings.{same_caller, same_chunks, stay_along}
use Rattle.gcs_session.proofs.answering.respond.Goals as goal

pub request_of-requires : goal.request_of-requires
request_of-requires g c =
    let limits = c.requires.coming.0 in
    let bytes : List ℕ = c.requires.coming.2 in
    let part = part_with c.in-Some.heading in
    (limits.json, bytes, c.in-Ok.ensures.come limits.json part bytes (subst (λ h. IsGathered limits.json (part_in h) c.args.coming.body bytes) c.in-Some.is c.requires.coming.4.body))

pub returns-in-Ok-Refused-clause-reply : goal.returns-in-Ok-Refused-clause-reply
returns-in-Ok-Refused-clause-reply g c =
    let d = g.D.Desk in (
      c.now-moment.result,
      c.now-moment.ensures,
      λ limits head body keeps coming.
          let heading : IsHeading head c.in-Some.heading = subst (IsHeadingIf head) c.in-Some.is coming.heading in
          let come : IsCome limits.json (part_with c.in-Some.heading) body c.in-Ok.body = c.in-Ok.ensures.come limits.json (part_with c.in-Some.heading) body (subst (λ h. IsGathered limits.json (part_in h) c.args.coming.body body) c.in-Some.is coming.body) in
          let refusal : IsRefusal limits head body c.in-Ok-Refused.reason = subst (IsAsked limits head body) c.in-Ok-Refused.field-0-is (c.in-Ok-Refused.ensures.asked limits head body heading come) in
          replies-refused limits head body keeps c.args.coming.form c.in-Ok-Refused.reason c.now-moment.result (d.seen c.finish.new.desk) (d.stands c.args.desk.now).caller (lengths (d.mine c.args.desk.now))
          (outgoing_bytes c.refuse.result) (lengths (d.mine c.finish.new.desk)) coming.form refusal
          (same-lengths (d.mine c.args.desk.now) (d.mine c.finish.new.desk) c.finish.ensures.lists.mine) c.refuse.ensures.text,
    )

pub answer-outgoing-requires-clause-fits : goal.answer-outgoing-requires-clause-fits
answer-outgoing-requires-clause-fits g c =
    let coming = c.requires.coming.4 in
    let heading : IsHeading c.requires.coming.1 c.in-Some.heading = subst (IsHeadingIf c.requires.coming.1) c.in-Some.is coming.heading in
    subst IsAskedFit c.in-Ok-Asks.field-0-is (c.in-Ok-Asks.ensures.fits c.requires.coming.1 heading)

pub answer-outgoing-requires-clause-chunks : goal.answer-outgoing-requires-clause-chunks
answer-outgoing-requires-clause-chunks g c = same_chunks c.finish.ensures.stands ∙ c.requires.chunks

pub answer-outgoing-requires-clause-contents : goal.answer-outgoing-requires-clause-contents
answer-outgoing-requires-clause-contents g c =
    let chunks : ChunksValue = c.args.chunks.now in
    let come : ComeLiesIn chunks c.in-Ok.body = stay_along (λ k. BodyLiesIn k c.args.coming.body) (λ k. ComeLiesIn k c.in-Ok.body) c.requires.chunks c.in-Ok.ensures.lies c.requires.lies in
    subst (AskedLiesIn chunks) c.in-Ok-Asks.field-0-is (c.in-Ok-Asks.ensures.lies chunks come)

pub returns-in-Ok-Asks-clause-goes_on : goal.returns-in-Ok-Asks-clause-goes_on
returns-in-Ok-Asks-clause-goes_on g c =
    let d = g.D.Desk in
    let k : ℕ = (d.stands c.args.desk.now).caller in
    let P : ℕ → Type 0 = λ n. GoesOn n (d.seen c.finish.new.desk) (d.mine c.finish.new.desk) (d.seen c.answer-outgoing.new.desk) (d.mine c.answer-outgoing.new.desk) in
    goes_on-trans k (d.seen c.args.desk.now) (d.mine c.args.desk.now) (d.seen c.finish.new.desk) (d.mine c.finish.new.desk) (d.seen c.answer-outgoing.new.desk) (d.mine c.answer-outgoing.new.desk)
    (goes_on-same k (d.seen c.args.desk.now) (d.mine c.args.desk.now) (d.seen c.finish.new.desk) (d.mine c.finish.new.desk) c.finish.ensures.lists)
    (subst P (same_caller c.finish.ensures.stands) c.answer-outgoing.ensures.goes_on)

pub returns-in-Ok-Asks-clause-reply : goal.returns-in-Ok-Asks-clause-reply
returns-in-Ok-Asks-clause-reply g c =
    let d = g.D.Desk in (
      c.now-moment.result,
      c.now-moment.ensures,
      λ limits head body keeps coming.
          let heading : IsHeading head c.in-Some.heading = subst (IsHeadingIf head) c.in-Some.is coming.heading in
          let come : IsCome limits.json (part_with c.in-Some.heading) body c.in-Ok.body = c.in-Ok.ensures.come limits.json (part_with c.in-Some.heading) body (subst (λ h. IsGathered limits.json (part_in h) c.args.coming.body body) c.in-Some.is coming.body) in
          let call : IsCall limits head body c.in-Ok-Asks.request = subst (IsAsked limits head body) c.in-Ok-Asks.field-0-is (c.in-Ok-Asks.ensures.asked limits head body heading come) in
          let P : ℕ → Type 0 = λ n. IsAnswered c.args.coming.form c.in-Ok-Asks.request c.now-moment.result (d.seen c.answer-outgoing.new.desk) n (lengths (d.mine c.finish.new.desk)) (outgoing_bytes c.answer-outgoing.result) (lengths (d.mine c.answer-outgoing.new.desk)) in
          replies-answered limits head body keeps c.args.coming.form c.in-Ok-Asks.request c.now-moment.result _ (d.stands c.args.desk.now).caller _ _ _ coming.form call
          (answered-from _ _ _ _ _ (lengths (d.mine c.args.desk.now)) (lengths (d.mine c.finish.new.desk)) _ _
          (same-lengths (d.mine c.args.desk.now) (d.mine c.finish.new.desk) c.finish.ensures.lists.mine) (subst P (same_caller c.finish.ensures.stands) c.answer-outgoing.ensures.said)),
    )

-- want of memory and a refusal have no content
pub returns-in_default-clause-lies : goal.returns-in_default-clause-lies
returns-in_default-clause-lies g c = c.memory_reply.ensures.lies c.args.chunks.now

pub returns-in_default-finish-clause-lies : goal.returns-in_default-finish-clause-lies
returns-in_default-finish-clause-lies g c = c.memory_reply-in_default-finish.ensures.lies c.args.chunks.now

pub returns-in-Err-clause-lies : goal.returns-in-Err-clause-lies
returns-in-Err-clause-lies g c = c.memory_reply-in-Err.ensures.lies c.args.chunks.now

pub returns-in-Ok-Refused-clause-lies : goal.returns-in-Ok-Refused-clause-lies
returns-in-Ok-Refused-clause-lies g c = c.refuse.ensures.lies c.args.chunks.now
