use Rattle.gcs_http_in.proofs.StandsReads.{bare_in_head, bare_in_closed}
use Rattle.gcs_http_in.proofs.framer.Framer.at_start.Goals as goal

pub returns-in-Head-clause-between : goal.returns-in-Head-clause-between
returns-in-Head-clause-between c = λ bytes messages rest s p.
    bare_in_head c.args.self.now bytes messages rest c.is_bare.result c.in-Head.is s p c.is_bare.ensures

pub returns-in-Closed-clause-between : goal.returns-in-Closed-clause-between
returns-in-Closed-clause-between c = λ bytes messages rest s p.
    bare_in_closed c.args.self.now bytes messages rest c.in-Closed.bare c.in-Closed.is s p
