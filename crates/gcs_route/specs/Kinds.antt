-- The requests of the interface and the numbers of their rows.
use Rattle.std.specs.Prelude.{ℕ, ◌==◌, Bool, true, false, if◌then◌else◌}
use Rattle.gcs_route.specs.declared.kind.RequestKind.{RequestKind}
use Rattle.gcs_route.specs.declared.kind.RequestKind.TheVariants.{BucketInsert, BucketList, BucketGet, BucketPatch, BucketUpdate, BucketDelete, BucketLock, BucketRestore, ObjectList, ObjectGet, ObjectPatch, ObjectUpdate, ObjectDelete, ObjectCompose, ObjectRewrite, ObjectCopy, ObjectRestore, Upload, UploadPiece, UploadCancel, Download}

-- the number of a request's row
abbrev pub row_of : RequestKind → ℕ
row_of BucketInsert = 1
row_of BucketList = 2
row_of BucketGet = 3
row_of BucketPatch = 4
row_of BucketUpdate = 5
row_of BucketDelete = 6
row_of BucketLock = 7
row_of BucketRestore = 8
row_of ObjectList = 9
row_of ObjectGet = 10
row_of ObjectPatch = 11
row_of ObjectUpdate = 12
row_of ObjectDelete = 13
row_of ObjectCompose = 14
row_of ObjectRewrite = 15
row_of ObjectCopy = 16
row_of ObjectRestore = 17
row_of Upload = 18
row_of UploadPiece = 19
row_of UploadCancel = 20
row_of Download = 21

-- the request of the row of that number, and the last where no row has it
unfoldable pub kind_of : ℕ → RequestKind
kind_of row =
    if row == 1 then BucketInsert
    else if row == 2 then BucketList
    else if row == 3 then BucketGet
    else if row == 4 then BucketPatch
    else if row == 5 then BucketUpdate
    else if row == 6 then BucketDelete
    else if row == 7 then BucketLock
    else if row == 8 then BucketRestore
    else if row == 9 then ObjectList
    else if row == 10 then ObjectGet
    else if row == 11 then ObjectPatch
    else if row == 12 then ObjectUpdate
    else if row == 13 then ObjectDelete
    else if row == 14 then ObjectCompose
    else if row == 15 then ObjectRewrite
    else if row == 16 then ObjectCopy
    else if row == 17 then ObjectRestore
    else if row == 18 then Upload
    else if row == 19 then UploadPiece
    else if row == 20 then UploadCancel
    else Download

-- the request uploads a whole object, or begins an upload
abbrev pub is_upload : RequestKind → Bool
is_upload Upload = true
is_upload _ = false
