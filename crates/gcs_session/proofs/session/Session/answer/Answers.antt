use Rattle.std.proofs.Common.{◌∙◌, [], ◌∷◌, ℕ, List, Option, refl, ap, sym, subst}
use Rattle.std.specs.Prelude.{IfSome}
use Rattle.gcs_http_in.specs.declared.limits.Limits.{Limits}
use Rattle.gcs_session.specs.declared.coming.Coming.{Coming}
use Rattle.gcs_session.specs.Coming.{IsComing}
use Rattle.gcs_session.specs.Contents.{ComingLiesIn}
use Rattle.gcs_reply.specs.Form.{is_closing}
use Rattle.gcs_session.specs.Running.{lengths}
use Rattle.gcs_session.specs.Served.{Replies}
use Rattle.gcs_session.specs.Session.{IsWholeIn, limits_in}
use Rattle.gcs_reply.proofs.Endings.{closing-ending}
use Rattle.gcs_session.proofs.session.Session.answer.Goals as goal

pub returns-clause-answered : goal.returns-clause-answered
returns-clause-answered g c = λ head content keeps whole.
    let d = g.D.Desk in
    let limits : Limits = limits_in c.args.self.now in
    let coming : IsComing limits head content keeps c.in-Some.coming = subst (IsWholeIn limits head content keeps) (sym c.take.ensures.value ∙ c.in-Some.is) whole in
    let reply = c.respond.ensures.reply in
    let P : List ℕ → Type 0 = λ text. Replies limits head content keeps reply.0 (d.seen c.respond.new.desk) (d.stands c.args.desk.now).caller (lengths (d.mine c.args.desk.now)) text (lengths (d.mine c.respond.new.desk)) in
    record {
      moments = reply.0 ∷ [];
      clocked = reply.1;
      goes_on = c.respond.ensures.goes_on;
      answers = (reply.0, refl, subst P (sym c.new.ensures.bytes) (reply.2 limits head content keeps coming));
      coming = c.take.ensures.after;
      closed = c.closes-self.ensures ∙ ap (λ form. is_closing form.ending) coming.form ∙ closing-ending head.minor keeps;
    }

pub respond-requires-clause-lies : goal.respond-requires-clause-lies
respond-requires-clause-lies g c = subst (λ (o : Option Coming). IfSome o (ComingLiesIn c.args.chunks.now)) (sym c.take.ensures.value ∙ c.in-Some.is) c.requires.lies.coming

pub returns-clause-lies : goal.returns-clause-lies
returns-clause-lies g c = record {
  coming = subst (λ (o : Option Coming). IfSome o (ComingLiesIn c.args.chunks.now)) (sym c.take.ensures.after) tt;
  unsent = c.new.ensures.lies c.args.chunks.now c.respond.ensures.lies;
}
