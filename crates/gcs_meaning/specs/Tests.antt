-- Tests in their order: the first that fails is the refusal.
use Rattle.std.specs.Prelude.{ℕ, nat_le, Option, Some, None, if◌then◌else◌}
use Rattle.gcs_meaning.specs.declared.reason.Reason.{Reason}
use Rattle.gcs_meaning.specs.declared.reason.Reason.TheVariants.{TooLarge}

-- the first of two refusals that is there
abbrev pub or_else : Option Reason → Option Reason → Option Reason
or_else None second = second
or_else (Some reason) second = Some reason

-- the largest object, in bytes (Cloud Storage, "Quotas and limits": 5 TiB)
abbrev pub largest_object : ℕ
largest_object = 5497558138880

-- a size is at most that of the largest object
abbrev pub size_refusal : ℕ → Option Reason
size_refusal size = if nat_le size largest_object then None else Some (TooLarge size)
