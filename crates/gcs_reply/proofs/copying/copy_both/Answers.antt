use Rattle.gcs_reply.proofs.Reading.{read-both}
use Rattle.gcs_reply.proofs.copying.copy_both.Goals as goal

pub returns-clause-bytes : goal.returns-clause-bytes
returns-clause-bytes c =
    read-both c.args.head.now c.args.body.now c.args.into.now c.copy_from-count.new.into c.copy_from.new.into c.args.at c.saturating_sub-past.result
    c.copy_from-count.result c.copy_from.result c.saturating_sub-past.ensures c.copy_from-count.ensures.count c.copy_from-count.ensures.bytes
    c.copy_from.ensures.count c.copy_from.ensures.bytes
