-- The limits of messages.
use Rattle.std.specs.Prelude.{◌≤◌}
use Rattle.gcs_http_in.specs.declared.limits.Limits.{Limits}

-- the usual limits
abbrev pub usual : Limits
usual = record { head = 32768; fields = 100; body = 1073741824; json = 1048576; requests = 100000 }

-- each number is at least 1 and at most the usual one
pub record IsAllowed (limits : Limits) : Type 0 where
  pub head : (1 ≤ limits.head) × (limits.head ≤ usual.head)
  pub fields : (1 ≤ limits.fields) × (limits.fields ≤ usual.fields)
  pub body : (1 ≤ limits.body) × (limits.body ≤ usual.body)
  pub json : (1 ≤ limits.json) × (limits.json ≤ usual.json)
  pub requests : (1 ≤ limits.requests) × (limits.requests ≤ usual.requests)
