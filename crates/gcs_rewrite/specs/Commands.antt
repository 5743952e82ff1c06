-- What a call asks the store: its one command.
use Rattle.std.specs.Prelude.{unwrap_or, Bool, true, false, ℕ, List, [], Option, None}
use Rattle.std.specs.Option.{option_or}
use Rattle.gcs_chunks.specs.Content.{Whole}
use Rattle.gcs_meaning.specs.declared.command.Command.{Command}
use Rattle.gcs_meaning.specs.declared.command.Command.TheVariants as command
use Rattle.gcs_meaning.specs.Content.{Digested}
use Rattle.gcs_meaning.specs.Moment.{shard_number}
use Rattle.gcs_json.specs.declared.bucket.BucketBody.{BucketBody}
use Rattle.gcs_json.specs.declared.object.ObjectBody.{ObjectBody}
use Rattle.gcs_json.specs.declared.compose.ComposeBody.{ComposeBody}
use Rattle.gcs_route.specs.declared.call.Call.{Call}
use Rattle.gcs_route.specs.declared.kind.RequestKind.{RequestKind}
use Rattle.gcs_route.specs.declared.kind.RequestKind.TheVariants.{BucketInsert, BucketGet, BucketUpdate, BucketDelete, BucketLock, BucketRestore, ObjectUpdate, ObjectDelete, ObjectRestore, UploadCancel}
use Rattle.gcs_route.specs.OfCall.{first_bucket, first_object, request_kind}
use Rattle.gcs_rewrite.specs.declared.request.Given.{Given}
use Rattle.gcs_rewrite.specs.declared.request.Given.TheVariants as given
use Rattle.gcs_rewrite.specs.declared.moves.Move.{Move}
use Rattle.gcs_rewrite.specs.declared.moves.Move.TheVariants.{Ask}
use Rattle.gcs_rewrite.specs.Inserts.{inserted_settings}
use Rattle.gcs_rewrite.specs.Lists.{query_of}
use Rattle.gcs_rewrite.specs.Made.{made_meta}

-- a step under a bucket
abbrev pub ask_in : List ℕ → Command → Move
ask_in bucket command = Ask (shard_number bucket) command

-- a step under the first bucket of the path
abbrev pub on_bucket : Call → (List ℕ → Command) → Move
on_bucket call command = ask_in (first_bucket call) (command (first_bucket call))

-- a step on the first object of the path, in the first bucket
abbrev pub on_object : Call → (List ℕ → List ℕ → Command) → Move
on_object call command = on_bucket call (λ bucket. command bucket (first_object call))

-- the request sets all that a patch sets in part (Cloud Storage JSON API, "Buckets: update" and "Objects: update")
abbrev pub sets_all : RequestKind → Bool
sets_all BucketUpdate = true
sets_all ObjectUpdate = true
sets_all _ = false

-- the read of a version
abbrev pub get_move : Call → Move
get_move call = on_object call (λ bucket name. command.Get bucket name call.generation call.soft call.pre)

-- the deletion of a version
abbrev pub delete_move : Call → Move
delete_move call = on_object call (λ bucket name. command.Delete bucket name call.generation call.pre)

-- the change of a version's metadata
abbrev pub change_move : Call → ObjectBody → Move
change_move call body =
    on_object call (λ bucket name. command.Change bucket name call.generation call.pre body.change (sets_all (request_kind call)))

-- the name of an upload: that of the query, else that of the body
abbrev pub upload_name : Call → ObjectBody → Option (List ℕ)
upload_name call body = option_or call.name body.name

-- the name of the object that an upload makes
abbrev pub made_name : Call → ObjectBody → List ℕ
made_name call body = unwrap_or (upload_name call body) []

-- the upload of a whole content, with what the body says of the object
abbrev pub put_move : Call → ObjectBody → Option (List ℕ) → Digested → Move
put_move call body kind hashed =
    on_bucket call (λ bucket. command.Put bucket (made_name call body) call.pre (made_meta body kind call.encoding) hashed None body.expect)

-- the begin of a resumable upload, with what the body says of the object, and the length of its content where it is told
abbrev pub start_move : Call → ObjectBody → Option (List ℕ) → Option ℕ → Move
start_move call body kind total =
    on_bucket call (λ bucket. command.Start bucket (made_name call body) call.pre (made_meta body kind call.encoding) body.expect total)

-- the number of the upload that a call must name
abbrev pub upload_named : Call → ℕ
upload_named call = unwrap_or call.upload_id 0

-- a piece of a resumable upload
abbrev pub append_move : Call → Option ℕ → Option ℕ → Whole → Move
append_move call offset total content = on_bucket call (λ bucket. command.Append bucket (upload_named call) offset total content)

-- the end of a resumable upload that is complete, with the content and its digests
abbrev pub finish_move : Call → Whole → Move
finish_move call content =
    on_bucket call (λ bucket. command.Finish bucket (upload_named call) (record { content = content; with_md5 = true }))

-- a resumable upload is cancelled
abbrev pub cancel_move : Call → Move
cancel_move call = on_bucket call (λ bucket. command.Cancel bucket (upload_named call))

-- the bucket that a body names
abbrev pub bucket_named : BucketBody → List ℕ
bucket_named body = unwrap_or body.name []

-- the insert of the bucket that the body names
abbrev pub insert_move : BucketBody → Move
insert_move body = ask_in (bucket_named body) (command.BucketInsert (bucket_named body) (inserted_settings body))

-- the change of the bucket of the path
abbrev pub bucket_change_move : Call → BucketBody → Move
bucket_change_move call body = on_bucket call (λ bucket. command.BucketChange bucket call.pre body.change (sets_all (request_kind call)))

-- the command of a call with a bucket's body: its insert, or its change
abbrev pub bucket_move : RequestKind → Call → BucketBody → Move
bucket_move BucketInsert call body = insert_move body
bucket_move _ call body = bucket_change_move call body

-- the list of a bucket's objects
abbrev pub list_move : Call → Move
list_move call = on_bucket call (λ bucket. command.List bucket (query_of call))

-- the lock of the bucket's retention policy
abbrev pub lock_move : Call → Move
lock_move call = on_bucket call (λ bucket. command.BucketLock bucket call.pre)

-- the generation that a restore must name
abbrev pub generation_named : Call → ℕ
generation_named call = unwrap_or call.generation 0

-- the restore of a deleted bucket
abbrev pub bucket_restore_move : Call → Move
bucket_restore_move call = on_bucket call (λ bucket. command.BucketRestore bucket (generation_named call))

-- the restore of a soft-deleted version
abbrev pub restore_move : Call → Move
restore_move call = on_object call (λ bucket name. command.Restore bucket name (generation_named call) call.pre)

-- the version of the sources' bytes, with what the body says of it
abbrev pub compose_move : Call → ComposeBody → Move
compose_move call body =
    on_object call (λ bucket name. command.Compose bucket name call.pre (made_meta body.destination None None) body.parts)

-- the command of a call that gives nothing beside it: the read of a bucket, its deletion, the lock of its policy, its restore, the
-- deletion of a version, its restore, the cancelling of an upload, or else a list of objects
abbrev pub bare_move : RequestKind → Call → Move
bare_move BucketGet call = on_bucket call (λ bucket. command.BucketGet bucket call.pre)
bare_move BucketDelete call = on_bucket call (λ bucket. command.BucketDelete bucket call.pre)
bare_move BucketLock call = lock_move call
bare_move BucketRestore call = bucket_restore_move call
bare_move ObjectDelete call = delete_move call
bare_move ObjectRestore call = restore_move call
bare_move UploadCancel call = cancel_move call
bare_move _ call = list_move call

-- the first command of a call that isn't a list of buckets
abbrev pub first_move : Call → Given → Move
first_move call given.Nothing = bare_move (request_kind call) call
first_move call (given.Read range) = get_move call
first_move call (given.Whole body kind hashed) = put_move call body kind hashed
first_move call (given.Begin body kind total host) = start_move call body kind total
first_move call (given.Piece offset total content) = append_move call offset total content
first_move call (given.Bucket body) = bucket_move (request_kind call) call body
first_move call (given.Object body) = change_move call body
first_move call (given.Compose body) = compose_move call body
