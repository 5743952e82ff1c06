-- What holds of each call that `route` gives: it is a row of the table with all that the row has.
use Rattle.std.specs.Prelude.{◌≡◌, ℕ, ◌≤◌, true, length, All, IsSome}
use Rattle.std.specs.Option.{ForSome}
use Rattle.gcs_names.specs.Name.{IsBucketName, IsObjectName}
use Rattle.gcs_route.specs.declared.call.Call.{Call}
use Rattle.gcs_route.specs.declared.kind.RequestKind.{RequestKind}
use Rattle.gcs_route.specs.declared.kind.RequestKind.TheVariants.{BucketInsert, BucketList, BucketLock, BucketRestore, ObjectList, ObjectGet, ObjectPatch, ObjectUpdate, ObjectDelete, ObjectCompose, ObjectRewrite, ObjectCopy, ObjectRestore, Upload, UploadPiece, UploadCancel, Download}
use Rattle.gcs_route.specs.Kinds.{row_of}
use Rattle.gcs_route.specs.OfCall.{request_kind}

-- how many buckets the path of such a request names
abbrev pub buckets_in : RequestKind → ℕ
buckets_in BucketInsert = 0
buckets_in BucketList = 0
buckets_in ObjectRewrite = 2
buckets_in ObjectCopy = 2
buckets_in _ = 1

-- how many objects the path of such a request names
abbrev pub objects_in : RequestKind → ℕ
objects_in ObjectGet = 1
objects_in ObjectPatch = 1
objects_in ObjectUpdate = 1
objects_in ObjectDelete = 1
objects_in ObjectCompose = 1
objects_in ObjectRewrite = 2
objects_in ObjectCopy = 2
objects_in ObjectRestore = 1
objects_in Download = 1
objects_in _ = 0

-- a page has 1 to 1,000 units at most
abbrev pub IsPageSize : ℕ → Type 0
IsPageSize most = (1 ≤ most) × (most ≤ 1000)

-- what the parameters of such a request are: those that are required are there, and each is within its limits
abbrev pub HasParams : RequestKind → Call → Type 0
HasParams BucketList call = IsPageSize call.most
HasParams BucketLock call = IsSome call.pre.metageneration_is
HasParams BucketRestore call = IsSome call.generation
HasParams ObjectList call = IsPageSize call.most
HasParams ObjectGet call = call.soft ≡ true → IsSome call.generation
HasParams ObjectRestore call = IsSome call.generation
HasParams Upload call = IsSome call.upload × ForSome call.name IsObjectName
HasParams UploadPiece call = IsSome call.upload_id
HasParams UploadCancel call = IsSome call.upload_id
HasParams Download call = call.media ≡ true
HasParams _ call = Unit {0}

-- the call is of a row of the table: its row is that of its kind, it has a name by its rule for each that stands in the row's
-- path, and the parameters that the row needs
pub record IsOfTable (call : Call) : Type 0 where
  pub row : call.row ≡ row_of (request_kind call)
  pub buckets : length call.buckets ≡ buckets_in (request_kind call)
  pub objects : length call.objects ≡ objects_in (request_kind call)
  pub bucket_names : All IsBucketName call.buckets
  pub object_names : All IsObjectName call.objects
  pub params : HasParams (request_kind call) call
