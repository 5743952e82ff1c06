use Rattle.gcs_session.proofs.Standings.{same_chunks}
use Rattle.check_exchanges.proofs.by_hand.feed_and_drain.Goals as goal

-- what was fed is read, and what was drained waits no more
pub returns-clause-running : goal.returns-clause-running
returns-clause-running c =
    let r = c.requires.running in
    let f = c.feed-fed.ensures.fed r.0 r.1 r.2 r.3 r.4 in
    (_, _, _, _, c.drain-count.ensures.session _ _ _ _ f.session)

-- the desk keeps its chunks
pub returns-clause-chunks : goal.returns-clause-chunks
returns-clause-chunks c = same_chunks c.feed-fed.ensures.stands
