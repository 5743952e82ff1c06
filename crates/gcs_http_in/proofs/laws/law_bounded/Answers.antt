use Rattle.gcs_http_in.specs.Stands.{limits_of}
use Rattle.gcs_http_in.proofs.Bounds.{bytes_bounded, messages_bounded, bound_small}
use Rattle.gcs_http_in.proofs.laws.law_bounded.Goals as goal

pub returns-clause-bytes : goal.returns-clause-bytes
returns-clause-bytes c = bytes_bounded c.args.framer.now

pub returns-clause-messages : goal.returns-clause-messages
returns-clause-messages c = messages_bounded c.args.framer.now

pub returns-clause-small : goal.returns-clause-small
returns-clause-small c = bound_small (limits_of c.args.framer.now)
