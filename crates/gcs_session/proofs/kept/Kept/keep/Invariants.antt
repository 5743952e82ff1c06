-- What of the part has been kept, and that no list moves.
use Rattle.std.proofs.Common.{◌≡◌, ◌++◌, ℕ, List, length}
use Rattle.gcs_meaning.specs.Desk.{AreUnmoved}
use Rattle.gcs_session.specs.Contents.{KeptLiesIn}
use Rattle.gcs_session.specs.Holding.{IsHeld}
use Rattle.gcs_session.proofs.kept.Kept.keep.Given as goal

abbrev pub invariant-loop-rest : goal.invariant-loop-rest
invariant-loop-rest g l = record {
  front : List ℕ;
  part_is : l.part ≡ front ++ l.rest;
  kept : (bytes : List ℕ) → IsHeld l.fn.self bytes → IsHeld l.self (bytes ++ front);
  lies : KeptLiesIn (g.D.Desk.stands l.fn.desk).chunks l.fn.self → KeptLiesIn (g.D.Desk.stands l.fn.desk).chunks l.self;
  stands : g.D.Desk.stands l.desk ≡ g.D.Desk.stands l.fn.desk;
  lists : AreUnmoved (g.D.Desk.seen l.fn.desk) (g.D.Desk.mine l.fn.desk) (g.D.Desk.seen l.desk) (g.D.Desk.mine l.desk);
}

abbrev pub decreases-loop-rest : goal.decreases-loop-rest
decreases-loop-rest g l = length l.rest
