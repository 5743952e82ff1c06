use Rattle.gcs_session.proofs.Starting.{start-by}
use Rattle.gcs_session.proofs.session.Session.at_start.Goals as goal

pub returns : goal.returns
returns c = λ bytes messages text drained rest session spells.
    start-by c.args.self.now.framer bytes messages rest session.0.current c.at_start.result session.0.stands session.1 spells
    (λ it stands. c.at_start.ensures.inside bytes messages it stands)
    (λ stands. c.at_start.ensures.between bytes messages rest stands spells)
