use Rattle.std.proofs.Common.{◌≡◌, ℕ, ◌+◌, ◌-◌, ◌≤◌, List, ◌++◌, length, take}
use Rattle.gcs_multipart.specs.Seek.{HasSeen, Seeks}
use Rattle.gcs_multipart.proofs.seek.Seeker.pass.Given as goal

abbrev pub invariant-loop-at : goal.invariant-loop-at
invariant-loop-at l = record {
  within : l.at ≤ length l.piece;
  held : l.self.held ≤ l.fn.self.held + l.at;
  text : l.self.text ≡ l.fn.self.text;
  given : l.self.given ≡ l.fn.self.given;
  seen : (boundary text content : List ℕ) → Seeks l.fn.self boundary text content → HasSeen l.self boundary (text ++ take l.at l.piece);
}

abbrev pub decreases-loop-at : goal.decreases-loop-at
decreases-loop-at l = length l.piece - l.at
