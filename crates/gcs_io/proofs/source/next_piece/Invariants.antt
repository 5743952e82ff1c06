use Rattle.std.proofs.Common.{◌≡◌, length, ◌-◌, drop}
use Rattle.gcs_io.specs.Pieces.{left, passed, next_bytes}
use Rattle.gcs_io.proofs.source.next_piece.Given as goal

abbrev pub invariant-loop-index : goal.invariant-loop-index
invariant-loop-index l = record {
  left : left l.pieces l.index l.at ≡ left l.fn.pieces l.fn.index l.fn.at;
  passed : passed l.pieces l.index l.at ≡ passed l.fn.pieces l.fn.index l.fn.at;
  next : next_bytes (drop l.index l.pieces) l.at ≡ next_bytes (drop l.fn.index l.fn.pieces) l.fn.at;
}

abbrev pub decreases-loop-index : goal.decreases-loop-index
decreases-loop-index l = length l.pieces - l.index
