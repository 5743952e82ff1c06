use Rattle.gcs_reply.specs.Excerpt.{cut_bytes}
use Rattle.gcs_reply.proofs.Reading.{read-both}
use Rattle.gcs_reply.proofs.outgoing.read_both.Goals as goal

pub returns-clause-bytes : goal.returns-clause-bytes
returns-clause-bytes c =
    read-both c.args.head.now (cut_bytes c.args.body.now) c.args.into.now c.copy_from-count.new.into c.read.new.into c.args.at c.saturating_sub-past.result
    c.copy_from-count.result c.read.result c.saturating_sub-past.ensures c.copy_from-count.ensures.count c.copy_from-count.ensures.bytes
    c.read.ensures.count c.read.ensures.bytes
