use Rattle.std.proofs.Common.{sym}
use Rattle.gcs_meaning.proofs.Keys.{gap_at, key_at, after_next}
use Rattle.gcs_meaning.proofs.pairs.place_of.Goals as goal

pub returns-in-Less-clause-gap : goal.returns-in-Less-clause-gap
returns-in-Less-clause-gap c =
    gap_at _ _ _ _ c.requires c.loop-place-test.true c.index-entries-place.is (sym (rw (c.as_bytes.ensures, c.as_bytes-in-loop-place.ensures) at c.in-Less.ensures)) c.loop-place.invariant

pub returns-in-Equal-clause-found : goal.returns-in-Equal-clause-found
returns-in-Equal-clause-found c =
    key_at _ _ _ _ c.requires c.loop-place-test.true c.index-entries-place.is (sym (rw (c.as_bytes.ensures, c.as_bytes-in-loop-place.ensures) at c.in-Equal.ensures)) c.loop-place.invariant

pub loop-place-preserved : goal.loop-place-preserved
loop-place-preserved c =
    after_next _ _ _ _ c.loop-place-test.true c.index-entries-place.is (sym (rw (c.as_bytes.ensures, c.as_bytes-in-loop-place.ensures) at c.in-Greater.ensures)) c.loop-place.invariant
