-- The rows of the interface: method, path, and parameters in the order of their tests (Cloud Storage JSON API, the HTTP
-- requests of "Buckets" and "Objects").
use Rattle.std.specs.Prelude.{ℕ, List, [], ◌∷◌, ◌++◌, map, codes}
use Rattle.gcs_route.specs.declared.kind.RequestKind.{RequestKind}
use Rattle.gcs_route.specs.declared.kind.RequestKind.TheVariants.{BucketInsert, BucketList, BucketGet, BucketPatch, BucketUpdate, BucketDelete, BucketLock, BucketRestore, ObjectList, ObjectGet, ObjectPatch, ObjectUpdate, ObjectDelete, ObjectCompose, ObjectRewrite, ObjectCopy, ObjectRestore, Upload, UploadPiece, UploadCancel, Download}
use Rattle.gcs_route.specs.declared.table.Route.{Route}
use Rattle.gcs_route.specs.declared.table.Masking.{Masking}
use Rattle.gcs_route.specs.declared.table.Masking.TheVariants.{Unread, Tested, Kept}
use Rattle.gcs_route.specs.declared.table.Param.{Param}
use Rattle.gcs_route.specs.declared.table.Param.TheVariants.{Alt, SoftOfGet, GenerationOfGet, Generation, If, UploadType, Name, ContentEncoding, Prefix, Delimiter, StartOffset, EndOffset, IncludeTrailingDelimiter, Versions, SoftOfList, MaxResults, PageToken, AltOfDownload, SoftOfDownload, NeededGeneration, NeededMetageneration, SourceGeneration, IfSource, MaxBytesRewrittenPerCall, RewriteToken, UploadId}
use Rattle.gcs_route.specs.declared.table.Condition.TheVariants.{GenerationIs, GenerationNot, MetagenerationIs, MetagenerationNot}
use Rattle.gcs_route.specs.Paths.{segments}

-- a row: its request, method, path (cut at each `/`), parameters, and what it does with a mask
pub record Row : Type 0 where
  pub kind : RequestKind
  pub method : List ℕ
  pub path : List (List ℕ)
  pub params : List Param
  pub masking : Masking

abbrev pub row : RequestKind → List ℕ → List ℕ → List Param → Masking → Row
row kind method path params masking = record { kind = kind; method = method; path = segments path; params = params; masking = masking }

-- the four preconditions, in their order
abbrev pub pre : List Param
pre = If GenerationIs ∷ If GenerationNot ∷ If MetagenerationIs ∷ If MetagenerationNot ∷ []

-- those of a bucket
abbrev pub bucket_pre : List Param
bucket_pre = If MetagenerationIs ∷ If MetagenerationNot ∷ []

-- what chooses the source of a copy
abbrev pub source : List Param
source = SourceGeneration ∷ IfSource GenerationIs ∷ IfSource GenerationNot ∷ IfSource MetagenerationIs ∷ IfSource MetagenerationNot ∷ []

-- all rows; `{bucket}` and `{object}` stand for names
unfoldable pub routes : List Row
routes =
    row BucketInsert (codes "POST") (codes "/storage/v1/b") [] Tested
    ∷ row BucketList (codes "GET") (codes "/storage/v1/b") (Prefix ∷ MaxResults ∷ PageToken ∷ []) Kept
    ∷ row BucketGet (codes "GET") (codes "/storage/v1/b/{bucket}") bucket_pre Tested
    ∷ row BucketPatch (codes "PATCH") (codes "/storage/v1/b/{bucket}") bucket_pre Tested
    ∷ row BucketUpdate (codes "PUT") (codes "/storage/v1/b/{bucket}") bucket_pre Tested
    ∷ row BucketDelete (codes "DELETE") (codes "/storage/v1/b/{bucket}") bucket_pre Unread
    ∷ row BucketLock (codes "POST") (codes "/storage/v1/b/{bucket}/lockRetentionPolicy") (NeededMetageneration ∷ []) Tested
    ∷ row BucketRestore (codes "POST") (codes "/storage/v1/b/{bucket}/restore") (NeededGeneration ∷ []) Tested
    ∷ row ObjectList (codes "GET") (codes "/storage/v1/b/{bucket}/o")
    (Prefix ∷ Delimiter ∷ StartOffset ∷ EndOffset ∷ IncludeTrailingDelimiter ∷ Versions ∷ SoftOfList ∷ MaxResults ∷ PageToken ∷ []) Kept
    ∷ row ObjectGet (codes "GET") (codes "/storage/v1/b/{bucket}/o/{object}") (Alt ∷ SoftOfGet ∷ GenerationOfGet ∷ pre) Tested
    ∷ row ObjectPatch (codes "PATCH") (codes "/storage/v1/b/{bucket}/o/{object}") (Generation ∷ pre) Tested
    ∷ row ObjectUpdate (codes "PUT") (codes "/storage/v1/b/{bucket}/o/{object}") (Generation ∷ pre) Tested
    ∷ row ObjectDelete (codes "DELETE") (codes "/storage/v1/b/{bucket}/o/{object}") (Generation ∷ pre) Unread
    ∷ row ObjectCompose (codes "POST") (codes "/storage/v1/b/{bucket}/o/{object}/compose") (If GenerationIs ∷ If MetagenerationIs ∷ []) Tested
    ∷ row ObjectRewrite (codes "POST") (codes "/storage/v1/b/{bucket}/o/{object}/rewriteTo/b/{bucket}/o/{object}")
    (source ++ pre ++ MaxBytesRewrittenPerCall ∷ RewriteToken ∷ []) Kept
    ∷ row ObjectCopy (codes "POST") (codes "/storage/v1/b/{bucket}/o/{object}/copyTo/b/{bucket}/o/{object}") (source ++ pre) Tested
    ∷ row ObjectRestore (codes "POST") (codes "/storage/v1/b/{bucket}/o/{object}/restore") (NeededGeneration ∷ pre) Tested
    ∷ row Upload (codes "POST") (codes "/upload/storage/v1/b/{bucket}/o") (UploadType ∷ Name ∷ ContentEncoding ∷ pre) Tested
    ∷ row UploadPiece (codes "PUT") (codes "/upload/storage/v1/b/{bucket}/o") (UploadId ∷ []) Tested
    ∷ row UploadCancel (codes "DELETE") (codes "/upload/storage/v1/b/{bucket}/o") (UploadId ∷ []) Tested
    ∷ row Download (codes "GET") (codes "/download/storage/v1/b/{bucket}/o/{object}") (AltOfDownload ∷ SoftOfDownload ∷ GenerationOfGet ∷ pre) Unread
    ∷ []

-- the row that an entry of the code's table is
abbrev pub route_of : Route → Row
route_of r = record { kind = r.kind; method = r.method.now; path = map (λ s. s.now) r.path.now; params = r.params.now; masking = r.masking }
