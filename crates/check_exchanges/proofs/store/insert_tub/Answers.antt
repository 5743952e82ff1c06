-- The insert of a bucket brings no content.
use Rattle.check_exchanges.proofs.store.insert_tub.Goals as goal

pub call-requires-clause-contents : goal.call-requires-clause-contents
call-requires-clause-contents c = c.in_ok-command.ensures.lies c.args.desk.now.chunks
