-- What of the piece has been read, and that no list moves.
use Rattle.std.proofs.Common.{◌≡◌, ◌++◌, ℕ, List, length}
use Rattle.gcs_meaning.specs.Desk.{AreUnmoved}
use Rattle.gcs_session.specs.Contents.{TwoPartsLieIn}
use Rattle.gcs_session.specs.TwoParts.{AreRead}
use Rattle.gcs_session.proofs.two_parts.TwoParts.take.Given as goal

abbrev pub invariant-loop-rest : goal.invariant-loop-rest
invariant-loop-rest g l = record {
  front : List ℕ;
  piece_is : l.piece ≡ front ++ l.rest;
  read : (most : ℕ) (boundary bytes : List ℕ) → AreRead most boundary l.fn.self bytes → AreRead most boundary l.self (bytes ++ front);
  lies : TwoPartsLieIn (g.D.Desk.stands l.fn.desk).chunks l.fn.self → TwoPartsLieIn (g.D.Desk.stands l.fn.desk).chunks l.self;
  stands : g.D.Desk.stands l.desk ≡ g.D.Desk.stands l.fn.desk;
  lists : AreUnmoved (g.D.Desk.seen l.fn.desk) (g.D.Desk.mine l.fn.desk) (g.D.Desk.seen l.desk) (g.D.Desk.mine l.desk);
}

abbrev pub decreases-loop-rest : goal.decreases-loop-rest
decreases-loop-rest g l = length l.rest
