-- Requests of the table of paths, with what they give.
use Rattle.std.specs.Prelude.{◌≡◌, ◌≢◌, ◌≤◌, length, [], None, Some, IsSome}
use Rattle.gcs_chunks.specs.Content.{bytes_of}
use Rattle.gcs_meaning.specs.BucketChange.{AreSetInLimits}
use Rattle.gcs_route.specs.declared.call.Call.{Call}
use Rattle.gcs_route.specs.declared.kind.RequestKind.{RequestKind}
use Rattle.gcs_route.specs.declared.kind.RequestKind.TheVariants.{BucketInsert, BucketList, BucketGet, BucketPatch, BucketUpdate, BucketDelete, BucketLock, BucketRestore, ObjectList, ObjectGet, ObjectPatch, ObjectUpdate, ObjectDelete, ObjectCompose, ObjectRewrite, ObjectCopy, ObjectRestore, Upload, UploadPiece, UploadCancel, Download}
use Rattle.gcs_route.specs.OfCall.{request_kind}
use Rattle.gcs_route.specs.OfTable.{IsOfTable}
use Rattle.gcs_rewrite.specs.declared.request.Given.{Given}
use Rattle.gcs_rewrite.specs.declared.request.Given.TheVariants as given
use Rattle.gcs_rewrite.specs.declared.request.Request.{Request}
use Rattle.gcs_rewrite.specs.Commands.{upload_name}

-- a call of that kind gives this: a read its range, an upload a name and its content or what begins a resumable one, a piece of
-- such an upload its bytes, which are none where it tells no place for them, the insert of a bucket a body that names it, a change
-- its body, a compose, a rewrite and a copy theirs, and any other nothing
abbrev pub IsGivenOn : RequestKind → Call → Given → Type 0
IsGivenOn BucketInsert call (given.Bucket body) = IsSome body.name
IsGivenOn BucketPatch call (given.Bucket body) = Unit {0}
IsGivenOn BucketUpdate call (given.Bucket body) = Unit {0}
IsGivenOn ObjectPatch call (given.Object body) = Unit {0}
IsGivenOn ObjectUpdate call (given.Object body) = Unit {0}
IsGivenOn ObjectCompose call (given.Compose body) = Unit {0}
IsGivenOn ObjectRewrite call (given.Object body) = Unit {0}
IsGivenOn ObjectCopy call (given.Object body) = Unit {0}
IsGivenOn ObjectGet call (given.Read range) = Unit {0}
IsGivenOn Download call (given.Read range) = Unit {0}
IsGivenOn Upload call (given.Whole body kind hashed) = IsSome (upload_name call body)
IsGivenOn Upload call (given.Begin body kind total host) = IsSome (upload_name call body)
IsGivenOn UploadPiece call (given.Piece None total content) = bytes_of content ≡ []
IsGivenOn UploadPiece call (given.Piece (Some offset) total content) = Unit {0}
IsGivenOn UploadCancel call given.Nothing = Unit {0}
IsGivenOn BucketList call given.Nothing = Unit {0}
IsGivenOn BucketGet call given.Nothing = Unit {0}
IsGivenOn BucketDelete call given.Nothing = Unit {0}
IsGivenOn BucketLock call given.Nothing = Unit {0}
IsGivenOn BucketRestore call given.Nothing = Unit {0}
IsGivenOn ObjectList call given.Nothing = Unit {0}
IsGivenOn ObjectDelete call given.Nothing = Unit {0}
IsGivenOn ObjectRestore call given.Nothing = Unit {0}
IsGivenOn _ call _ = ⊥

-- the numbers that are given are in their limits
abbrev pub IsGivenInLimits : Given → Type 0
IsGivenInLimits given.Nothing = Unit {0}
IsGivenInLimits (given.Read range) = Unit {0}
IsGivenInLimits (given.Whole body kind hashed) = Unit {0}
IsGivenInLimits (given.Begin body kind total host) = Unit {0}
IsGivenInLimits (given.Piece offset total content) = Unit {0}
IsGivenInLimits (given.Bucket body) = AreSetInLimits body.change
IsGivenInLimits (given.Object body) = Unit {0}
IsGivenInLimits (given.Compose body) = length body.parts ≤ 32

-- the request is a call of the table, with what such a call gives
pub record Fits (request : Request) : Type 0 where
  pub table : IsOfTable request.call
  pub kind : IsGivenOn (request_kind request.call) request.call request.given
  pub limits : IsGivenInLimits request.given

-- such a request has a first step by what it gives: it is no list of buckets
pub record HasFirstStep (call : Call) (given : Given) : Type 0 where
  pub table : IsOfTable call
  pub kind : IsGivenOn (request_kind call) call given
  pub no_list : request_kind call ≢ BucketList
