-- The numbers of the settings that a body gives are in their limits.
use Rattle.std.proofs.Common.{ℕ, true, Option, Some, None, inr, subst, arith}
use Rattle.std.specs.Option.{ForSome}
use Rattle.gcs_meaning.specs.declared.changes.Set.{Set}
use Rattle.gcs_meaning.specs.declared.changes.Set.TheVariants.{Keep, Clear, To}
use Rattle.gcs_meaning.specs.declared.settings.Retention.{Retention}
use Rattle.gcs_meaning.specs.BucketChange.{changed_settings, default_soft_seconds, policy_of, AreSetInLimits}
use Rattle.gcs_meaning.specs.Changes.{changed, changed_option, IfSet}
use Rattle.gcs_meaning.specs.Policy.{AreInLimits, IsDuration, IsPeriod}
use Rattle.gcs_json.specs.declared.bucket.BucketBody.{BucketBody}
use Rattle.gcs_rewrite.specs.Inserts.{inserted_settings}

-- the policy's period is in its limits, if there is a policy
abbrev IsPolicy : Option Retention → Type 0
IsPolicy None = Unit {0}
IsPolicy (Some policy) = IsPeriod policy.period

period_in : (set : Set ℕ) → IfSet set IsPeriod → ForSome (policy_of 0 None (changed_option true None set)) (λ policy. IsPeriod policy.period)
period_in Keep within policy is = absurd (cc)
period_in Clear within policy is = absurd (cc)
period_in (To period) within policy is = subst IsPolicy is within

usual_in : IsDuration default_soft_seconds
usual_in = inr (omega arith, omega arith)

duration_in : (set : Set ℕ) → IfSet set IsDuration → IsDuration (changed true default_soft_seconds default_soft_seconds set)
duration_in Keep within = usual_in
duration_in Clear within = usual_in
duration_in (To seconds) within = within

pub inserted_in_limits : (body : BucketBody) → AreSetInLimits body.change → AreInLimits (inserted_settings body)
unfolding changed_settings
inserted_in_limits body set = record {
  period = period_in body.change.retention_period set.period;
  duration = duration_in body.change.soft_seconds set.duration;
}
