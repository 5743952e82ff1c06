-- Preconditions, cover, retirement and the lock of a retention policy (Cloud Storage, "Request preconditions", "Object holds",
-- "Bucket Lock", "Soft delete").
use Rattle.std.specs.Prelude.{◌≡◌, ◌≤◌, ◌⊎◌, ℕ, ◌+◌, ◌*◌, ◌==◌, nat_lt, Bool, not, ◌&&◌, Option, Some, None, if◌then◌else◌}
use Rattle.std.specs.Option.{ForSome}
use Rattle.gcs_meaning.specs.declared.settings.Pre.{Pre}
use Rattle.gcs_meaning.specs.declared.settings.Retention.{Retention}
use Rattle.gcs_meaning.specs.declared.settings.Settings.{Settings}
use Rattle.gcs_meaning.specs.declared.version.Kind.{Kind}
use Rattle.gcs_meaning.specs.declared.version.Kind.TheVariants.{Live, Noncurrent as IsNoncurrent, Soft as IsSoft}
use Rattle.gcs_meaning.specs.declared.version.RowFacts.{RowFacts}
use Rattle.gcs_meaning.specs.declared.policy.PreResult.{PreResult}
use Rattle.gcs_meaning.specs.declared.policy.PreResult.TheVariants.{Holds, Fails}
use Rattle.gcs_meaning.specs.declared.policy.Cover.{Cover}
use Rattle.gcs_meaning.specs.declared.policy.Cover.TheVariants.{Free, Temporary, EventBased, Retained, SoftDeleted}
use Rattle.gcs_meaning.specs.declared.policy.Retired.{Retired}
use Rattle.gcs_meaning.specs.declared.policy.Retired.TheVariants.{Noncurrent, Soft, Out}
use Rattle.gcs_meaning.specs.declared.reason.Key.{Key}
use Rattle.gcs_meaning.specs.declared.reason.Key.TheVariants.{IfGenerationMatch, IfGenerationNotMatch, IfMetagenerationMatch, IfMetagenerationNotMatch}
use Rattle.gcs_meaning.specs.declared.reason.Reason.{Reason}
use Rattle.gcs_meaning.specs.declared.reason.Reason.TheVariants.{Condition, Locked}

-- the first of two preconditions that fails
abbrev pub and_then : PreResult → PreResult → PreResult
and_then Holds second = second
and_then (Fails which wanted found) second = Fails which wanted found

-- a number that is wanted must be the one that is found
abbrev pub must_be : Key → Option ℕ → ℕ → PreResult
must_be which None found = Holds
must_be which (Some wanted) found = if wanted == found then Holds else Fails which wanted found

-- a number that is not wanted must differ from the one that is found
abbrev pub must_not_be : Key → Option ℕ → ℕ → PreResult
must_not_be which None found = Holds
must_not_be which (Some wanted) found = if wanted == found then Fails which wanted found else Holds

-- the four preconditions on a version's two numbers, in the order in which they are tested
unfoldable pub pre_of : Pre → ℕ → ℕ → PreResult
pre_of pre generation metageneration =
    and_then (must_be IfGenerationMatch pre.generation_is generation)
    (and_then (must_not_be IfGenerationNotMatch pre.generation_not generation)
    (and_then (must_be IfMetagenerationMatch pre.metageneration_is metageneration)
    (must_not_be IfMetagenerationNotMatch pre.metageneration_not metageneration)))

-- a failed precondition, as a refusal
abbrev pub condition_refusal : PreResult → Option Reason
condition_refusal Holds = None
condition_refusal (Fails which wanted found) = Some (Condition which wanted found)

-- the first precondition that fails on these numbers, as a refusal
abbrev pub pre_refusal : Pre → ℕ → ℕ → Option Reason
pre_refusal pre generation metageneration = condition_refusal (pre_of pre generation metageneration)

-- the preconditions on a bucket: it has only the two on the metageneration, and the others are passed over
unfoldable pub bucket_pre_of : Pre → ℕ → PreResult
bucket_pre_of pre metageneration =
    and_then (must_be IfMetagenerationMatch pre.metageneration_is metageneration)
    (must_not_be IfMetagenerationNotMatch pre.metageneration_not metageneration)

-- the first precondition that fails on a bucket, as a refusal
abbrev pub bucket_pre_refusal : Pre → ℕ → Option Reason
bucket_pre_refusal pre metageneration = condition_refusal (bucket_pre_of pre metageneration)

-- how many microseconds a second has
abbrev pub microseconds_per_second : ℕ
microseconds_per_second = 1000000

-- seconds in microseconds
abbrev pub micros : ℕ → ℕ
micros seconds = seconds * microseconds_per_second

-- the moment at which a retention that began at `start` ends, and the version is free: the period is in seconds
abbrev pub retained_until : ℕ → ℕ → ℕ
retained_until start period = start + micros period

-- a version whose retention began at `start`
abbrev pub retention_cover : Option Retention → ℕ → ℕ → Cover
retention_cover None start t = Free
retention_cover (Some policy) start t =
    let until = retained_until start policy.period in
    if nat_lt t until then Retained until else Free

-- a live or noncurrent version: the holds come before the retention
abbrev pub kept_cover : Settings → RowFacts → ℕ → Cover
kept_cover settings facts t =
    if facts.temporary_hold then Temporary
    else if facts.event_hold then EventBased
    else retention_cover settings.retention facts.retention_start t

-- a version of this kind
abbrev pub cover_of_kind : Kind → Settings → RowFacts → ℕ → Cover
cover_of_kind Live settings facts t = kept_cover settings facts t
cover_of_kind (IsNoncurrent at) settings facts t = kept_cover settings facts t
cover_of_kind (IsSoft at hard) settings facts t = if nat_lt t hard then SoftDeleted hard else Free

-- what covers a version at t
unfoldable pub cover_of : Settings → RowFacts → ℕ → Cover
cover_of settings facts t = cover_of_kind facts.kind settings facts t

-- what becomes of a version that is replaced at t, or deleted, with its generation named or not
unfoldable pub retired_to : Settings → ℕ → Bool → Retired
retired_to settings t named =
    if settings.versioned && not named then Noncurrent
    else if settings.soft_seconds == 0 then Out
    else Soft (t + micros settings.soft_seconds)

-- a locked policy takes no removal, which shows as 0, and no shorter period
abbrev pub locked_refusal : ℕ → Option ℕ → Option Reason
locked_refusal kept None = Some (Locked kept 0)
locked_refusal kept (Some asked) = if nat_lt asked kept then Some (Locked kept asked) else None

-- why a change of a bucket's policy to `asked` seconds, or its removal, is refused
abbrev pub policy_refusal : Option Retention → Option ℕ → Option Reason
policy_refusal None asked = None
policy_refusal (Some policy) asked = if policy.locked then locked_refusal policy.period asked else None

-- a retention period, in seconds
pub record IsPeriod (seconds : ℕ) : Type 0 where
  pub least : 1 ≤ seconds
  pub most : seconds ≤ 3155760000

-- a soft-delete duration, in seconds: none, or 7 to 90 days
abbrev pub IsDuration : ℕ → Type 0
IsDuration seconds = (seconds ≡ 0) ⊎ ((604800 ≤ seconds) × (seconds ≤ 7776000))

-- the numbers of a bucket's settings are in their limits
pub record AreInLimits (settings : Settings) : Type 0 where
  pub period : ForSome settings.retention (λ policy. IsPeriod policy.period)
  pub duration : IsDuration settings.soft_seconds
