use Rattle.std.proofs.Common.{◌<◌, get_or, arith, sym, ◌∙◌}
use Rattle.gcs_decimal.proofs.Digits.{small_number, below_ten, more_digits}
use Rattle.gcs_decimal.proofs.reading.read_decimal.Goals as goal

pub overflow_mul-number : goal.overflow_mul-number
overflow_mul-number c =
    let h = small_number _ _ (omega arith) c.loop-digit.invariant.small in omega arith

pub overflow_add-number : goal.overflow_add-number
overflow_add-number c =
    let h = small_number _ _ (omega arith) c.loop-digit.invariant.small in
    let b : c.from.result < 10 = rw c.from.ensures ((below_ten (get_or c.args.text.now c.loop-digit.digit-index 0) c.if-not-is_ascii_digit.ensures.bound).1) in omega arith

pub loop-digit-preserved : goal.loop-digit-preserved
loop-digit-preserved c =
    rw c.from.ensures (more_digits _ _ _ c.loop-digit-test.true c.loop-digit.invariant (sym c.is_ascii_digit.ensures.value ∙ c.if-not-is_ascii_digit.false) (c.if-not-is_ascii_digit.ensures.bound))
