use Rattle.std.proofs.Common.{Bool, ◌+◌, [], length, not, ap, sym, subst}
use Rattle.std.specs.Prelude.{◌==◌, ◌&&◌}
use Rattle.gcs_http_in.specs.declared.limits.Limits.{Limits}
use Rattle.gcs_http_in.specs.Message.{stays}
use Rattle.gcs_http_in.specs.Stands.{limits_of}
use Rattle.gcs_session.specs.Coming.{IsComing}
use Rattle.gcs_session.proofs.session.Session.begin.Goals as goal

pub returns-clause-coming : goal.returns-clause-coming
returns-clause-coming c = λ bytes messages it stands empty.
    let limits = limits_of c.args.self.now.framer in
    let coming = c.new-coming.ensures.coming limits it.head (ap (λ (l : Limits). l.json) (sym c.limits.ensures))
    (c.read-fields.ensures bytes messages it stands)
    (sym (c.minor.ensures bytes messages it stands)) in
    let keeps : Bool = stays it.head && not (1 + length messages == limits.requests) in
    subst (λ content. IsComing limits it.head content keeps c.new-coming.result) (sym empty)
    (subst (λ k. IsComing limits it.head [] k c.new-coming.result) (c.keeps.ensures bytes messages it stands) coming)
