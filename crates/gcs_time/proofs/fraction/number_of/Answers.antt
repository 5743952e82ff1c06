use Rattle.std.proofs.Common.{◌<◌, sym, ◌∙◌, subst, ℕ}
use Rattle.gcs_time.proofs.Digits.{read_or_none, six_digits}
use Rattle.gcs_time.proofs.fraction.number_of.Goals as goal

pub returns-clause-value : goal.returns-clause-value
returns-clause-value c =
    c.unwrap_or.ensures ∙ read_or_none c.args.digits.now c.read_decimal.result c.requires.digits c.requires.few c.read_decimal.ensures

pub returns-clause-bound : goal.returns-clause-bound
returns-clause-bound c =
    subst (λ (n : ℕ). n < 1_000_000) (sym (returns-clause-value c)) (six_digits c.args.digits.now c.requires.digits c.requires.few)
