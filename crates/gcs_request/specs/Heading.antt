-- What a head asks for, before its body has come.
use Rattle.std.specs.Prelude.{◌≡◌, ◌⊎◌, ℕ, List, Bool, Option, Some, None, Result, Ok, Err, if◌then◌else◌}
use Rattle.gcs_http_in.specs.Head.{Head}
use Rattle.gcs_meaning.specs.declared.reason.Key.TheVariants.{ContentRange, HeadContentType}
use Rattle.gcs_meaning.specs.declared.reason.Reason.{Reason}
use Rattle.gcs_meaning.specs.declared.reason.Reason.TheVariants.{Invalid}
use Rattle.std.specs.Result.{result_err}
use Rattle.gcs_meaning.specs.Tests.{or_else}
use Rattle.gcs_multipart.specs.Delimiter.{IsBoundary}
use Rattle.gcs_route.specs.declared.call.Call.{Call}
use Rattle.gcs_route.specs.declared.call.UploadKind.{UploadKind}
use Rattle.gcs_route.specs.declared.call.UploadKind.TheVariants.{Multipart, Resumable}
use Rattle.gcs_route.specs.declared.fault.RouteFault.TheVariants as fault
use Rattle.gcs_route.specs.declared.kind.RequestKind.{RequestKind}
use Rattle.gcs_route.specs.declared.kind.RequestKind.TheVariants.{BucketInsert, BucketPatch, BucketUpdate, ObjectGet, ObjectPatch, ObjectUpdate, ObjectCompose, ObjectRewrite, ObjectCopy, Upload, UploadPiece, Download}
use Rattle.gcs_route.specs.Calls.{IsFault}
use Rattle.gcs_route.specs.Calls as route
use Rattle.gcs_route.specs.OfCall.{request_kind}
use Rattle.gcs_request.specs.declared.heading.HeadPart.{HeadPart}
use Rattle.gcs_request.specs.declared.heading.HeadPart.TheVariants as part
use Rattle.gcs_request.specs.declared.heading.Heading.{Heading}
use Rattle.gcs_request.specs.declared.heading.Heading.TheVariants as heading
use Rattle.gcs_request.specs.declared.piece_ranges.PieceRange.{PieceRange}
use Rattle.gcs_request.specs.Begins.{begin_part}
use Rattle.gcs_request.specs.Heads.{boundary_in, content_type_of, is_encoded, method_of, piece_range_in, range_in}
use Rattle.gcs_request.specs.HeadTests.{head_refusal}
use Rattle.gcs_rewrite.specs.declared.range.Range.{Range}

-- the range of bytes that is asked for
abbrev pub range_asked : Call → Head → Option Range
range_asked call head = if call.media then range_in head else None

-- what the head of two parts gives: their boundary, which its content type has to name
abbrev pub parts_part : Option (List ℕ) → Bool → Result HeadPart Reason
parts_part None encoded = Err (Invalid HeadContentType)
parts_part (Some boundary) encoded = Ok (part.Parts boundary encoded)

-- what the head of an upload gives: two parts, the begin of an upload in pieces, or a content alone, with its type
abbrev pub upload_part : Option UploadKind → Head → Result HeadPart Reason
upload_part (Some Multipart) head = parts_part (boundary_in head) (is_encoded head)
upload_part (Some Resumable) head = begin_part head
upload_part _ head = Ok (part.Whole (content_type_of head))

-- what the head of a piece gives: where it lies, which the head has to tell
abbrev pub piece_part : Option PieceRange → Result HeadPart Reason
piece_part None = Err (Invalid ContentRange)
piece_part (Some range) = Ok (part.Piece range)

-- what the head of such a request gives beside its call, or why it is refused: a read gives the range, an upload and a piece of
-- one as above, a JSON body whether it is encoded
abbrev pub part_on : RequestKind → Call → Head → Result HeadPart Reason
part_on ObjectGet call head = Ok (part.Read (range_asked call head))
part_on Download call head = Ok (part.Read (range_asked call head))
part_on Upload call head = upload_part call.upload head
part_on UploadPiece call head = piece_part (piece_range_in head)
part_on BucketInsert call head = Ok (part.Json (is_encoded head))
part_on BucketPatch call head = Ok (part.Json (is_encoded head))
part_on BucketUpdate call head = Ok (part.Json (is_encoded head))
part_on ObjectPatch call head = Ok (part.Json (is_encoded head))
part_on ObjectUpdate call head = Ok (part.Json (is_encoded head))
part_on ObjectCompose call head = Ok (part.Json (is_encoded head))
part_on ObjectRewrite call head = Ok (part.Json (is_encoded head))
part_on ObjectCopy call head = Ok (part.Json (is_encoded head))
part_on _ call head = Ok part.Nothing

-- what the head gives beside its call
abbrev pub part_of : Call → Head → Result HeadPart Reason
part_of call head = part_on (request_kind call) call head

-- the first refusal of a call by its head: by the call alone, and then by what the head gives
abbrev pub refusal_of : Call → Head → Option Reason
refusal_of call head = or_else (head_refusal call) (result_err (part_of call head))

-- the head is that of a call
abbrev pub IsCallOf : Head → Call → Type 0
IsCallOf head call = route.IsCall (method_of head) head.target call

-- what the head alone asks for
abbrev pub IsHeading : Head → Heading → Type 0
IsHeading head (heading.Refused reason) =
    IsFault (method_of head) head.target (fault.Refused reason) ⊎ ((call : Call) × IsCallOf head call × (refusal_of call head ≡ Some reason))
IsHeading head (heading.Asks call part) = IsCallOf head call × (head_refusal call ≡ None) × (part_of call head ≡ Ok part)

-- what a heading gives beside its call, by which its body is read. A refusal gives nothing
abbrev pub part_with : Heading → HeadPart
part_with (heading.Refused reason) = part.Nothing
part_with (heading.Asks call part) = part

-- the boundary of two parts can be sought
abbrev pub IsSeekable : HeadPart → Type 0
IsSeekable (part.Parts boundary encoded) = IsBoundary boundary
IsSeekable _ = Unit {0}
