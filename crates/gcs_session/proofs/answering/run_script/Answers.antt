use Rattle.std.proofs.Common.{◌≡◌, ◌<◌, ◌∙◌, ◌++◌, ◌∷◌, [], ◌+◌, ℕ, ap, sym, subst, length, arith, length-append, not, nat_eq}
use Rattle.gcs_chunks.specs.Content.{ChunksValue}
use Rattle.gcs_meaning.specs.Contents.{AnswerLiesIn, CommandLiesIn}
use Rattle.gcs_meaning.specs.Desk.{IsStepped}
use Rattle.gcs_meaning.proofs.Listed.{all-append}
use Rattle.gcs_rewrite.specs.declared.moves.Move.TheVariants.{Ask}
use Rattle.gcs_rewrite.specs.Contents.{AnswersLieIn, MoveLiesIn}
use Rattle.gcs_rewrite.specs.Scripts.{script, MayFollow}
use Rattle.gcs_session.proofs.Steps.{IsRun, run-step, run-same, some_more, none_yet}
use Rattle.gcs_session.proofs.Standings.{same_caller, same_chunks}
use Rattle.gcs_session.proofs.answering.run_script.Goals as goal

pub returns-in-Err-call-clause-goes_on : goal.returns-in-Err-call-clause-goes_on
returns-in-Err-call-clause-goes_on g c =
    let d = g.D.Desk in
    (run-same _ _ _ _ _ _ _ (d.seen c.call.new.self) (d.mine c.call.new.self) _ c.loop.invariant.run c.in-Err-call.ensures.lists.0).goes_on

pub returns-in-Err-call-clause-ran : goal.returns-in-Err-call-clause-ran
returns-in-Err-call-clause-ran g c =
    let d = g.D.Desk in (
      c.loop.answers.items,
      (run-same _ _ _ _ _ _ _ (d.seen c.call.new.self) (d.mine c.call.new.self) _ c.loop.invariant.run c.in-Err-call.ensures.lists.0).asked,
      ap not c.is_empty-stepped.ensures ∙ ap (λ (n : ℕ). not (nat_eq n 0)) c.loop.answers.ok.0 ∙ none_yet c.loop.answers.items,
    )

pub returns-in-Err-push-clause-goes_on : goal.returns-in-Err-push-clause-goes_on
returns-in-Err-push-clause-goes_on g c =
    let d = g.D.Desk in
    let k = (d.stands c.args.desk.now).caller in
    let asks : script c.args.request.now c.loop.answers.items ≡ Ask c.in-Ok-Ask.shard c.in-Ok-Ask.command = ap (script c.args.request.now) (sym c.deref.ensures.value) ∙ sym c.in-Ok-Ask.ensures.next ∙ c.in-Ok-Ask.field-0-is in
    let P : ℕ → Type 0 = λ n. IsStepped n (d.seen c.loop.desk) (d.mine c.loop.desk) (d.seen c.call.new.self) (d.mine c.call.new.self) c.in-Ok-Ask.shard c.args.moment c.in-Ok-Ask.command c.in-Ok.answer in
    (run-step _ _ k _ _ _ _ (d.seen c.call.new.self) (d.mine c.call.new.self) _ _ _ c.in-Ok.answer c.loop.invariant.run asks (subst P (same_caller c.loop.invariant.stands) c.in-Ok.ensures.lists)).goes_on

pub returns-in-Err-push-clause-ran : goal.returns-in-Err-push-clause-ran
returns-in-Err-push-clause-ran g c =
    let d = g.D.Desk in
    let k = (d.stands c.args.desk.now).caller in
    let asks : script c.args.request.now c.loop.answers.items ≡ Ask c.in-Ok-Ask.shard c.in-Ok-Ask.command = ap (script c.args.request.now) (sym c.deref.ensures.value) ∙ sym c.in-Ok-Ask.ensures.next ∙ c.in-Ok-Ask.field-0-is in
    let P : ℕ → Type 0 = λ n. IsStepped n (d.seen c.loop.desk) (d.mine c.loop.desk) (d.seen c.call.new.self) (d.mine c.call.new.self) c.in-Ok-Ask.shard c.args.moment c.in-Ok-Ask.command c.in-Ok.answer in
    let now = run-step _ _ k _ _ _ _ (d.seen c.call.new.self) (d.mine c.call.new.self) _ _ _ c.in-Ok.answer c.loop.invariant.run asks (subst P (same_caller c.loop.invariant.stands) c.in-Ok.ensures.lists) in
    (c.loop.answers.items ++ c.in-Ok.answer ∷ [], now.asked, some_more c.loop.answers.items c.in-Ok.answer)

pub loop-preserved : goal.loop-preserved
loop-preserved g c =
    let d = g.D.Desk in
    let k = (d.stands c.args.desk.now).caller in
    let asks : script c.args.request.now c.loop.answers.items ≡ Ask c.in-Ok-Ask.shard c.in-Ok-Ask.command = ap (script c.args.request.now) (sym c.deref.ensures.value) ∙ sym c.in-Ok-Ask.ensures.next ∙ c.in-Ok-Ask.field-0-is in
    let P : ℕ → Type 0 = λ n. IsStepped n (d.seen c.loop.desk) (d.mine c.loop.desk) (d.seen c.call.new.self) (d.mine c.call.new.self) c.in-Ok-Ask.shard c.args.moment c.in-Ok-Ask.command c.in-Ok.answer in
    let now = run-step _ _ k _ _ _ _ (d.seen c.call.new.self) (d.mine c.call.new.self) _ _ _ c.in-Ok.answer c.loop.invariant.run asks (subst P (same_caller c.loop.invariant.stands) c.in-Ok.ensures.lists) in
    let shown : AnswerLiesIn c.args.chunks.now c.in-Ok.answer = subst (λ (k : ChunksValue). AnswerLiesIn k c.in-Ok.answer) (same_chunks c.loop.invariant.stands ∙ c.requires.chunks) c.in-Ok.ensures.contents in
    let few : length c.deref.result.now < 16 = (subst (MayFollow (length c.deref.result.now)) c.in-Ok-Ask.field-0-is c.in-Ok-Ask.ensures.allowed).1 in
    let same : length c.deref.result.now ≡ length c.loop.answers.items = ap length c.deref.ensures.value in
    let one : length c.push.new.self.items ≡ length c.loop.answers.items + 1 = ap length c.in-Ok-push.ensures.items ∙ length-append c.loop.answers.items (c.in-Ok.answer ∷ []) in
    record {
      stands = c.call.ensures.stands ∙ c.loop.invariant.stands;
      lies = subst (AnswersLieIn c.args.chunks.now) (sym c.in-Ok-push.ensures.items) (all-append (AnswerLiesIn c.args.chunks.now) c.loop.answers.items (c.in-Ok.answer ∷ []) c.loop.invariant.lies (shown, tt));
      run = subst (IsRun c.args.request.now c.args.moment k (d.seen c.args.desk.now) (d.mine c.args.desk.now) (d.seen c.call.new.self) (d.mine c.call.new.self)) (sym c.in-Ok-push.ensures.items) now;
      count = one ∙ ap (λ n. n + 1) c.loop.invariant.count;
      few = omega (arith, few, same, one);
    }

pub call-requires-clause-shard : goal.call-requires-clause-shard
call-requires-clause-shard g c = (subst (MayFollow (length c.deref.result.now)) c.in-Ok-Ask.field-0-is c.in-Ok-Ask.ensures.allowed).0.within

pub call-requires-clause-belongs : goal.call-requires-clause-belongs
call-requires-clause-belongs g c = (subst (MayFollow (length c.deref.result.now)) c.in-Ok-Ask.field-0-is c.in-Ok-Ask.ensures.allowed).0.belongs

pub call-requires-clause-in_range : goal.call-requires-clause-in_range
call-requires-clause-in_range g c = (subst (MayFollow (length c.deref.result.now)) c.in-Ok-Ask.field-0-is c.in-Ok-Ask.ensures.allowed).0.in_range

pub call-requires-clause-contents : goal.call-requires-clause-contents
call-requires-clause-contents g c =
    subst (λ (k : ChunksValue). CommandLiesIn k c.in-Ok-Ask.command) (sym (same_chunks c.loop.invariant.stands ∙ c.requires.chunks))
    (subst (MoveLiesIn c.args.chunks.now) c.in-Ok-Ask.field-0-is c.in-Ok-Ask.ensures.lies)

pub next-requires-clause-answers : goal.next-requires-clause-answers
next-requires-clause-answers g c = subst (AnswersLieIn c.args.chunks.now) (sym c.deref.ensures.value) c.loop.invariant.lies

pub returns-in-Ok-Say-clause-lies : goal.returns-in-Ok-Say-clause-lies
returns-in-Ok-Say-clause-lies g c = subst (MoveLiesIn c.args.chunks.now) c.in-Ok-Say.field-0-is c.in-Ok-Say.ensures.lies
