use Rattle.std.proofs.Common.{◌∙◌, ap, sym, subst, None}
use Rattle.std.specs.Prelude.{IfOk}
use Rattle.gcs_meaning.specs.declared.command.Answer.TheVariants.{Kept}
use Rattle.gcs_meaning.specs.Aging.{aged}
use Rattle.gcs_meaning.specs.Put.{put_step}
use Rattle.gcs_bucket.specs.Alive.{alive_of, state_of}
use Rattle.gcs_bucket.specs.Put.{decided_put, IsNextAlive}
use Rattle.gcs_bucket.specs.Slot.{value_of}
use Rattle.gcs_bucket.proofs.Contents.{kept_lies}
use Rattle.gcs_bucket.proofs.Finishing.{finish_dead, finish_ended, finish_made, finish_missing, finish_partial, finish_refused, finishing_of}
use Rattle.gcs_bucket.proofs.slot.Slot.decide_finish.Goals as goal

pub returns-in_default-clause-decided : goal.returns-in_default-clause-decided
returns-in_default-clause-decided g c = finish_dead (value_of c.args.self.now) c.args.moment c.args.number (ap alive_of c.in_default.is)

pub returns-in_default-get-clause-decided : goal.returns-in_default-get-clause-decided
returns-in_default-get-clause-decided g c =
    finish_missing (value_of c.args.self.now) c.args.moment c.args.number (state_of c.in-Some.state) (ap alive_of c.in-Some.is) (sym c.in_default-get.ensures)

pub returns-in-Some-2-clause-decided : goal.returns-in-Some-2-clause-decided
returns-in-Some-2-clause-decided g c =
    finish_ended (value_of c.args.self.now) c.args.moment c.args.number (state_of c.in-Some.state) c.in-Some-get.upload.now c.in-Some-2.answer (ap alive_of c.in-Some.is) (sym c.in-Some-get.ensures)
    (sym c.in_ok-answer.ensures ∙ c.in-Some-2.is)

pub returns-then-not-is_whole-clause-decided : goal.returns-then-not-is_whole-clause-decided
returns-then-not-is_whole-clause-decided g c =
    finish_partial (value_of c.args.self.now) c.args.moment c.args.number (state_of c.in-Some.state) c.in-Some-get.upload.now (ap alive_of c.in-Some.is) (sym c.in-Some-get.ensures)
    (sym c.in_ok-answer.ensures ∙ c.in_default-2.is) (sym c.if-not-is_whole.ensures)
    ∙ ap (λ n. (Kept n, aged (value_of c.args.self.now) c.args.moment)) (sym c.len.ensures.length)

pub digest-requires-clause-kept : goal.digest-requires-clause-kept
digest-requires-clause-kept g c =
    kept_lies _ (value_of c.args.self.now) (state_of c.in-Some.state) c.args.number c.in-Some-get.upload.now (ap alive_of c.in-Some.is) (sym c.in-Some-get.ensures) c.requires.lies

pub returns-in-Ok-clause-decided : goal.returns-in-Ok-clause-decided
returns-in-Ok-clause-decided g c =
    (finish_made (value_of c.args.self.now) c.args.moment c.args.number (state_of c.in-Some.state) c.in-Some-get.upload.now (record { made = c.in-Ok.made; kept = c.in_ok-kept-in-Ok.kept }) (ap alive_of c.in-Some.is) (sym c.in-Some-get.ensures)
    (sym c.in_ok-answer.ensures ∙ c.in_default-2.is) (sym c.if-not-is_whole.ensures)
    (ap (λ hashed. put_step (aged (value_of c.args.self.now) c.args.moment) c.args.moment c.in-Some-get.upload.now.name c.in-Some-get.upload.now.pre c.in-Some-get.upload.now.meta hashed None c.in-Some-get.upload.now.expect) (sym c.in_ok-digested.ensures)
    ∙ c.in_ok-decision.ensures.decided ∙ ap (λ d. decided_put d c.args.moment (aged (value_of c.args.self.now) c.args.moment)) c.in-Ok.is)
    c.in_ok-kept-in-Ok.ensures).0

pub returns-in-Ok-clause-next : goal.returns-in-Ok-clause-next
returns-in-Ok-clause-next g c =
    finishing_of (value_of c.args.self.now) c.args.moment c.args.number (state_of c.in-Some.state) c.in-Some-get.upload.now (record { made = c.in-Ok.made; kept = c.in_ok-kept-in-Ok.kept }) (ap alive_of c.in-Some.is) (sym c.in-Some-get.ensures)
    (sym c.in_ok-answer.ensures ∙ c.in_default-2.is) (sym c.if-not-is_whole.ensures)
    (finish_made (value_of c.args.self.now) c.args.moment c.args.number (state_of c.in-Some.state) c.in-Some-get.upload.now (record { made = c.in-Ok.made; kept = c.in_ok-kept-in-Ok.kept }) (ap alive_of c.in-Some.is) (sym c.in-Some-get.ensures)
    (sym c.in_ok-answer.ensures ∙ c.in_default-2.is) (sym c.if-not-is_whole.ensures)
    (ap (λ hashed. put_step (aged (value_of c.args.self.now) c.args.moment) c.args.moment c.in-Some-get.upload.now.name c.in-Some-get.upload.now.pre c.in-Some-get.upload.now.meta hashed None c.in-Some-get.upload.now.expect) (sym c.in_ok-digested.ensures)
    ∙ c.in_ok-decision.ensures.decided ∙ ap (λ d. decided_put d c.args.moment (aged (value_of c.args.self.now) c.args.moment)) c.in-Ok.is)
    c.in_ok-kept-in-Ok.ensures).1
    (subst (λ d. IfOk d (λ made. IsNextAlive made c.in-Some-get.upload.now.name (aged (value_of c.args.self.now) c.args.moment))) c.in-Ok.is c.in_ok-decision.ensures.next)

pub returns-clause-decided : goal.returns-clause-decided
returns-clause-decided g c =
    finish_refused (value_of c.args.self.now) c.args.moment c.args.number (state_of c.in-Some.state) c.in-Some-get.upload.now c.in-Err.reason (ap alive_of c.in-Some.is) (sym c.in-Some-get.ensures)
    (sym c.in_ok-answer.ensures ∙ c.in_default-2.is) (sym c.if-not-is_whole.ensures)
    (ap (λ hashed. put_step (aged (value_of c.args.self.now) c.args.moment) c.args.moment c.in-Some-get.upload.now.name c.in-Some-get.upload.now.pre c.in-Some-get.upload.now.meta hashed None c.in-Some-get.upload.now.expect) (sym c.in_ok-digested.ensures)
    ∙ c.in_ok-decision.ensures.decided ∙ ap (λ d. decided_put d c.args.moment (aged (value_of c.args.self.now) c.args.moment)) c.in-Err.is)
