use Rattle.std.proofs.Common.{refl}
use Rattle.gcs_http_in.proofs.CopyLemmas.{same_stands}
use Rattle.gcs_http_in.proofs.framer.Framer.copy.Goals as goal

pub returns-clause-stands : goal.returns-clause-stands
returns-clause-stands c = λ bytes messages current s.
    same_stands _ c.args.self.now bytes messages current
    record { head = c.in_ok-copy.ensures; body = c.in_ok-copy-2.ensures; left = refl; keeps = refl; state = refl } s
