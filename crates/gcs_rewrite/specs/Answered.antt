-- What a request says of the answer to its command.
use Rattle.std.specs.Prelude.{ℕ, ◌&&◌, Bool, true, false, length, Option, Some, None, if◌then◌else◌}
use Rattle.gcs_meaning.specs.declared.reason.Key.{Key}
use Rattle.gcs_meaning.specs.declared.reason.Key.TheVariants.{IfGenerationNotMatch, IfMetagenerationNotMatch}
use Rattle.gcs_meaning.specs.declared.reason.Reason.{Reason}
use Rattle.gcs_meaning.specs.declared.reason.Reason.TheVariants.{Condition, Unsatisfiable}
use Rattle.gcs_meaning.specs.declared.settings.Settings.{Settings}
use Rattle.gcs_meaning.specs.declared.version.Row.{Row}
use Rattle.gcs_meaning.specs.declared.command.Answer.{Answer}
use Rattle.gcs_meaning.specs.declared.command.Answer.TheVariants as answer
use Rattle.gcs_chunks.specs.Content.{bytes_of}
use Rattle.gcs_meaning.specs.Content.{bytes_in}
use Rattle.gcs_route.specs.declared.call.Call.{Call}
use Rattle.gcs_route.specs.declared.kind.RequestKind.{RequestKind}
use Rattle.gcs_route.specs.declared.kind.RequestKind.TheVariants.{BucketGet, ObjectGet, Download}
use Rattle.gcs_route.specs.OfCall.{request_kind}
use Rattle.gcs_rewrite.specs.declared.range.Range.{Range}
use Rattle.gcs_rewrite.specs.declared.request.Given.{Given}
use Rattle.gcs_rewrite.specs.declared.request.Given.TheVariants as given
use Rattle.gcs_rewrite.specs.declared.replies.Reply.{Reply}
use Rattle.gcs_rewrite.specs.declared.replies.Reply.TheVariants as reply
use Rattle.gcs_rewrite.specs.Ranges.{part_in}

-- a part of a version's bytes, or that the range can't be met (RFC 9110, 15.5.17)
abbrev pub part_reply : Option (ℕ × ℕ) → Row → Reply
part_reply None row = reply.Refused (Unsatisfiable (length (bytes_in row.hashed)))
part_reply (Some part) row = reply.Media row (Some part)

-- what a read of a version's bytes says, by the range that it asks for
unfoldable pub range_reply : Option Range → Row → Reply
range_reply None row = reply.Media row None
range_reply (Some range) row = part_reply (part_in range (length (bytes_in row.hashed))) row

-- the range that is given, if one is
abbrev pub range_given : Given → Option Range
range_given (given.Read range) = range
range_given _ = None

-- a version that is answered: its bytes where they are asked for, else its resource
abbrev pub object_reply : Call → Option Range → Row → Settings → Reply
object_reply call range row settings = if call.media then range_reply range row else reply.Object row settings

-- the request reads a bucket or a version
abbrev pub is_read : RequestKind → Bool
is_read BucketGet = true
is_read ObjectGet = true
is_read Download = true
is_read _ = false

-- a precondition that holds where the number is another one
abbrev pub is_not_match : Key → Bool
is_not_match IfGenerationNotMatch = true
is_not_match IfMetagenerationNotMatch = true
is_not_match _ = false

-- what is read has the very number that the reader has (RFC 9110, 13.1.2)
abbrev pub is_unchanged : RequestKind → Reason → Bool
is_unchanged kind (Condition which wanted found) = is_read kind && is_not_match which
is_unchanged kind _ = false

-- what a call of that kind says of a refusal
abbrev pub refused_reply : RequestKind → Reason → Reply
refused_reply kind reason = if is_unchanged kind reason then reply.NotModified else reply.Refused reason

-- what a call with that range says of an answer. Of a resumable upload that is complete all bytes are kept
abbrev pub reply_of : Call → Option Range → Answer → Reply
reply_of call range (answer.Object row settings) = object_reply call range row settings
reply_of call range (answer.Bucket row) = reply.Bucket row
reply_of call range (answer.Buckets rows) = reply.Buckets rows None
reply_of call range answer.Empty = reply.NoContent
reply_of call range (answer.Page page) = reply.Page page
reply_of call range (answer.Started number) = reply.Started number
reply_of call range (answer.Kept count) = reply.Kept count
reply_of call range (answer.Complete content) = reply.Kept (length (bytes_of content))
reply_of call range answer.Cancelled = reply.Cancelled
reply_of call range (answer.Refused reason) = refused_reply (request_kind call) reason
