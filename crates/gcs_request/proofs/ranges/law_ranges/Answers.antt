use Rattle.gcs_request.proofs.RangeTexts.{range-read, range-told}
use Rattle.gcs_request.proofs.ranges.law_ranges.Goals as goal

pub returns : goal.returns
returns c = λ text range. (range-told text range, range-read text range)
