use Rattle.std.proofs.Common.{◌≡◌, true, ◌==◌, ap}
use Rattle.std.proofs.lemmas.Result.{IfOk-weaker}
use Rattle.std.specs.Option.{IsSome}
use Rattle.serde_json.specs.View.{view}
use Rattle.gcs_meaning.specs.BucketChange.{AreSetInLimits}
use Rattle.gcs_json.proofs.Limits.{are_set_in_limits, is_named}
use Rattle.gcs_json.proofs.Readings.{each_field_counts}
use Rattle.gcs_json.proofs.bucket.read_bucket_body.Goals as goal

pub returns-clause-limits : goal.returns-clause-limits
returns-clause-limits c =
    let d = view c.in_ok-body.body in
    IfOk-weaker c.bucket.result _ (λ read. AreSetInLimits read.change)
    (λ read h. are_set_in_limits _ _ d read ((each_field_counts _ _ d read).0 h))
    c.bucket.ensures.body

pub returns-clause-named : goal.returns-clause-named
returns-clause-named c = λ first.
    let d = view c.in_ok-body.body in
    let inserts : (c.args.row == 1) ≡ true = ap (λ row. row == 1) first in
    IfOk-weaker c.bucket.result _ (λ read. IsSome read.name)
    (λ read h. is_named (c.args.row == 1) _ d read inserts ((each_field_counts (c.args.row == 1) _ d read).0 h))
    c.bucket.ensures.body
