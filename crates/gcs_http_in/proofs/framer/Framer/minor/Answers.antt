use Rattle.gcs_http_in.proofs.UnderWay.{holds_in}
use Rattle.gcs_http_in.proofs.framer.Framer.minor.Goals as goal

pub minor-requires : goal.minor-requires
minor-requires c = let r = c.requires in (holds_in c.args.self.now r.0 r.1 r.2 r.3).within

pub returns : goal.returns
returns c = λ bytes messages it s. c.minor.ensures it.head (holds_in c.args.self.now bytes messages it s)
