use Rattle.gcs_request.proofs.PieceTexts.{piece-read, piece-told}
use Rattle.gcs_request.proofs.piece_ranges.law_piece_ranges.Goals as goal

pub returns : goal.returns
returns c = λ text range. (piece-told text range, piece-read text range)
