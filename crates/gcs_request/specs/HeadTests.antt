-- The tests of a call that its head alone decides.
use Rattle.std.specs.Prelude.{◌&&◌, ℕ, List, Bool, true, false, Option, Some, None, if◌then◌else◌}
use Rattle.std.specs.Option.{is_none, is_some}
use Rattle.gcs_meaning.specs.declared.reason.Key.TheVariants.{Name, PageToken}
use Rattle.gcs_meaning.specs.declared.reason.Reason.{Reason}
use Rattle.gcs_meaning.specs.declared.reason.Reason.TheVariants.{BadMask, Invalid, Required}
use Rattle.gcs_meaning.specs.Tests.{or_else}
use Rattle.gcs_listing.specs.Tokens.{unit_of_token, bucket_of_token}
use Rattle.gcs_route.specs.declared.call.Call.{Call}
use Rattle.gcs_route.specs.declared.call.UploadKind.{UploadKind}
use Rattle.gcs_route.specs.declared.call.UploadKind.TheVariants.{Media}
use Rattle.gcs_route.specs.declared.call.MaskPart.{MaskPart}
use Rattle.gcs_route.specs.declared.call.MaskPart.TheVariants as mask
use Rattle.gcs_route.specs.declared.kind.RequestKind.{RequestKind}
use Rattle.gcs_route.specs.declared.kind.RequestKind.TheVariants.{BucketList, ObjectList, ObjectRewrite}
use Rattle.gcs_route.specs.OfCall.{request_kind}
use Rattle.gcs_request.specs.Rewriting.{refused_token}

-- an upload is the content alone
abbrev pub is_media : Option UploadKind → Bool
is_media (Some Media) = true
is_media _ = false

-- such an upload needs a name in its query (Cloud Storage JSON API, "Objects: insert")
abbrev pub name_refusal : Call → Option Reason
name_refusal call = if is_media call.upload && is_none call.name then Some (Required Name) else None

-- the token of a page, where it is given, must be one that a page can have
abbrev pub bad_token : {A : Type 0} → (List ℕ → Option A) → Option (List ℕ) → Option Reason
bad_token reads None = None
bad_token reads (Some token) = if is_some (reads token) then None else Some (Invalid PageToken)

-- a list of objects has a token of a unit, one of buckets that of a name, and a rewrite that of a rewrite
abbrev pub token_refusal : RequestKind → Call → Option Reason
token_refusal ObjectList call = bad_token unit_of_token call.page_token
token_refusal BucketList call = bad_token bucket_of_token call.page_token
token_refusal ObjectRewrite call = refused_token call call.rewrite_token
token_refusal _ call = None

-- a mask that was kept until the token was tested
abbrev pub mask_refusal : MaskPart → Option Reason
mask_refusal mask.Absent = None
mask_refusal (mask.Is read) = None
mask_refusal (mask.Fault place) = Some (BadMask place)

-- the first test of a head's call that fails
abbrev pub head_refusal : Call → Option Reason
head_refusal call = or_else (name_refusal call) (or_else (token_refusal (request_kind call) call) (mask_refusal call.mask))
