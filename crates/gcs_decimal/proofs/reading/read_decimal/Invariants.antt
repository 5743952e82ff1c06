use Rattle.gcs_decimal.proofs.Digits.{ReadsDigits}
use Rattle.gcs_decimal.proofs.reading.read_decimal.Given as goal

abbrev pub invariant-loop-digit : goal.invariant-loop-digit
invariant-loop-digit l = ReadsDigits l.text l.digit-index l.number
