-- The token of a rewrite, as the head of its call is tested for it (Cloud Storage JSON API, "Objects: rewrite", `rewriteToken`).
use Rattle.std.specs.Prelude.{ℕ, List, Bool, true, false, ◌==◌, ◌&&◌, bytes_eq, Option, Some, None, if◌then◌else◌}
use Rattle.gcs_meaning.specs.declared.reason.Key.TheVariants as key
use Rattle.gcs_meaning.specs.declared.reason.Reason.{Reason}
use Rattle.gcs_meaning.specs.declared.reason.Reason.TheVariants.{Invalid}
use Rattle.gcs_meaning.specs.declared.rewriting.RewriteToken.{RewriteToken}
use Rattle.gcs_route.specs.declared.call.Call.{Call}
use Rattle.gcs_route.specs.OfCall.{first_bucket, first_object, last_bucket, last_object}
use Rattle.gcs_rewrite.specs.Tokens.{rewrite_of_token}

-- the generation is the one that is asked for, if one is
abbrev pub is_generation : Option ℕ → ℕ → Bool
is_generation None generation = true
is_generation (Some asked) generation = asked == generation

-- the rewrite is from the source of the call
abbrev pub is_from : Call → RewriteToken → Bool
is_from call token =
    bytes_eq token.from_bucket (first_bucket call) && bytes_eq token.from_name (first_object call)
    && is_generation call.source_generation token.generation

-- the rewrite is to the destination of the call
abbrev pub is_to : Call → RewriteToken → Bool
is_to call token = bytes_eq token.to_bucket (last_bucket call) && bytes_eq token.to_name (last_object call)

-- the call goes on with the rewrite, where there is one
abbrev pub goes_on : Call → Option RewriteToken → Bool
goes_on call None = false
goes_on call (Some token) = is_from call token && is_to call token

-- the refusal of a token by which the call can't go on
abbrev pub refused_token : Call → Option (List ℕ) → Option Reason
refused_token call None = None
refused_token call (Some text) = if goes_on call (rewrite_of_token text) then None else Some (Invalid key.RewriteToken)
