-- A call of a head gives what such a call gives.
use Rattle.std.proofs.Common.{◌≡◌, ℕ, List, true, false, Bool, Option, Some, None, Result, Ok, Err, refl, subst, ◌&&◌}
use Rattle.std.specs.Prelude.{IsSome, if◌then◌else◌}
use Rattle.std.specs.Option.{is_none, option_or}
use Rattle.gcs_http_in.specs.Head.{Head}
use Rattle.gcs_meaning.specs.Content.{Digested}
use Rattle.gcs_meaning.specs.declared.reason.Key.TheVariants.{Name}
use Rattle.gcs_meaning.specs.declared.reason.Reason.{Reason}
use Rattle.gcs_meaning.specs.declared.reason.Reason.TheVariants.{Required}
use Rattle.gcs_meaning.specs.Tests.{or_else}
use Rattle.gcs_json.specs.declared.object.ObjectBody.{ObjectBody}
use Rattle.gcs_route.specs.declared.call.Call.{Call}
use Rattle.gcs_route.specs.declared.call.UploadKind.{UploadKind}
use Rattle.gcs_route.specs.declared.call.UploadKind.TheVariants.{Media, Multipart, Resumable}
use Rattle.gcs_route.specs.declared.kind.RequestKind.{RequestKind}
use Rattle.gcs_route.specs.declared.kind.RequestKind.TheVariants.{BucketInsert, BucketList, BucketGet, BucketPatch, BucketUpdate, BucketDelete, BucketLock, BucketRestore, ObjectList, ObjectGet, ObjectPatch, ObjectUpdate, ObjectDelete, ObjectCompose, ObjectRewrite, ObjectCopy, ObjectRestore, Upload, UploadPiece, UploadCancel, Download}
use Rattle.gcs_route.specs.OfCall.{request_kind}
use Rattle.gcs_route.specs.OfTable.{HasParams, IsOfTable}
use Rattle.gcs_route.proofs.OfTable.{of_table}
use Rattle.gcs_rewrite.specs.declared.range.Range.{Range}
use Rattle.gcs_rewrite.specs.declared.request.Given.{Given}
use Rattle.gcs_rewrite.specs.declared.request.Given.TheVariants as given
use Rattle.gcs_rewrite.specs.Commands.{upload_name}
use Rattle.gcs_rewrite.specs.Fits.{Fits, IsGivenInLimits, IsGivenOn}
use Rattle.gcs_request.specs.declared.heading.HeadPart.{HeadPart}
use Rattle.gcs_request.specs.declared.heading.HeadPart.TheVariants as part
use Rattle.gcs_request.specs.declared.heading.Heading.TheVariants as heading
use Rattle.gcs_request.specs.declared.piece_ranges.PieceRange.{PieceRange}
use Rattle.gcs_request.specs.Begins.{begin_by, total_in, upload_type_of}
use Rattle.gcs_request.specs.Heads.{boundary_in, content_type_of, host_in, is_encoded, method_of, piece_range_in}
use Rattle.gcs_request.specs.Heading.{part_on, parts_part, piece_part, upload_part, IsHeading}
use Rattle.gcs_request.specs.HeadTests.{head_refusal, is_media, name_refusal}
use Rattle.gcs_request.specs.JsonBodies.{brings_json, says_nothing}
use Rattle.gcs_request.specs.UploadJson.{IsNamed}

-- the call of a head is one of the table
table_of : (head : Head) (call : Call) (part : HeadPart) → IsHeading head (heading.Asks call part) → IsOfTable call
table_of head call part is = of_table (method_of head) head.target call is.0

-- ---- what is given, by the part that the head of such a call gives

-- an upload gives a content, two parts, or the begin of an upload in pieces
abbrev IsOfUpload : HeadPart → Type 0
IsOfUpload (part.Whole type) = Unit {0}
IsOfUpload (part.Parts boundary encoded) = Unit {0}
IsOfUpload (part.Begin type total host encoded) = Unit {0}
IsOfUpload _ = ⊥

of_boundary : (boundary : Option (List ℕ)) (encoded : Bool) (p : HeadPart) → parts_part boundary encoded ≡ Ok p → IsOfUpload p
of_boundary None encoded p is = cc
of_boundary (Some boundary) encoded p is = let same : part.Parts boundary encoded ≡ p = cc in subst IsOfUpload same tt

-- a content alone
abbrev content_part : Option (List ℕ) → Result HeadPart Reason
content_part type = Ok (part.Whole type)

of_content : (type : Option (List ℕ)) (p : HeadPart) → content_part type ≡ Ok p → IsOfUpload p
of_content type p is = let same : part.Whole type ≡ p = cc in subst IsOfUpload same tt

of_begin : (head : Head) (total : Result (Option ℕ) Reason) (p : HeadPart) → begin_by head total ≡ Ok p → IsOfUpload p
of_begin head (Ok total) p is = let same : part.Begin (upload_type_of head) total (host_in head) (is_encoded head) ≡ p = cc in subst IsOfUpload same tt
of_begin head (Err reason) p is = cc

of_upload : (upload : Option UploadKind) (head : Head) (p : HeadPart) → upload_part upload head ≡ Ok p → IsOfUpload p
of_upload None head p is = of_content (content_type_of head) p is
of_upload (Some Media) head p is = of_content (content_type_of head) p is
of_upload (Some Multipart) head p is = of_boundary (boundary_in head) (is_encoded head) p is
of_upload (Some Resumable) head p is = of_begin head (total_in head) p is

-- a piece gives where it lies
abbrev IsOfPiece : HeadPart → Type 0
IsOfPiece (part.Piece range) = Unit {0}
IsOfPiece _ = ⊥

of_piece : (range : Option PieceRange) (p : HeadPart) → piece_part range ≡ Ok p → IsOfPiece p
of_piece None p is = cc
of_piece (Some range) p is = let same : part.Piece range ≡ p = cc in subst IsOfPiece same tt

nothing_on : (kind : RequestKind) (call : Call) (head : Head) → part_on kind call head ≡ Ok part.Nothing → IsGivenOn kind call given.Nothing
nothing_on BucketList call head is = tt
nothing_on BucketGet call head is = tt
nothing_on BucketDelete call head is = tt
nothing_on BucketLock call head is = tt
nothing_on BucketRestore call head is = tt
nothing_on ObjectList call head is = tt
nothing_on ObjectDelete call head is = tt
nothing_on ObjectRestore call head is = tt
nothing_on UploadCancel call head is = tt
nothing_on UploadPiece call head is = absurd (of_piece (piece_range_in head) part.Nothing is)
nothing_on Upload call head is = absurd (of_upload call.upload head part.Nothing is)
nothing_on _ call head is = cc

read_on : (kind : RequestKind) (call : Call) (head : Head) (range : Option Range) → part_on kind call head ≡ Ok (part.Read range) → IsGivenOn kind call (given.Read range)
read_on ObjectGet call head range is = tt
read_on Download call head range is = tt
read_on Upload call head range is = absurd (of_upload call.upload head (part.Read range) is)
read_on UploadPiece call head range is = absurd (of_piece (piece_range_in head) (part.Read range) is)
read_on _ call head range is = cc

whole_on : (kind : RequestKind) (call : Call) (head : Head) (type : Option (List ℕ)) (hashed : Digested) → (kind ≡ Upload → upload_part call.upload head ≡ Ok (part.Whole type) → IsSome (upload_name call says_nothing))
    → part_on kind call head ≡ Ok (part.Whole type) → IsGivenOn kind call (given.Whole says_nothing type hashed)
whole_on Upload call head type hashed named is = named refl is
whole_on UploadPiece call head type hashed named is = absurd (of_piece (piece_range_in head) (part.Whole type) is)
whole_on _ call head type hashed named is = cc

parts_on : (kind : RequestKind) (call : Call) (head : Head) (boundary : List ℕ) (encoded : Bool) (body : ObjectBody) (type : Option (List ℕ)) (hashed : Digested) → IsSome (upload_name call body)
    → part_on kind call head ≡ Ok (part.Parts boundary encoded) → IsGivenOn kind call (given.Whole body type hashed)
parts_on Upload call head boundary encoded body type hashed named is = named
parts_on UploadPiece call head boundary encoded body type hashed named is = absurd (of_piece (piece_range_in head) (part.Parts boundary encoded) is)
parts_on _ call head boundary encoded body type hashed named is = cc

json_on : (kind : RequestKind) (call : Call) (head : Head) (encoded : Bool) → part_on kind call head ≡ Ok (part.Json encoded) → brings_json kind ≡ true
json_on BucketInsert call head encoded is = refl
json_on BucketPatch call head encoded is = refl
json_on BucketUpdate call head encoded is = refl
json_on ObjectPatch call head encoded is = refl
json_on ObjectUpdate call head encoded is = refl
json_on ObjectCompose call head encoded is = refl
json_on ObjectRewrite call head encoded is = refl
json_on ObjectCopy call head encoded is = refl
json_on Upload call head encoded is = absurd (of_upload call.upload head (part.Json encoded) is)
json_on UploadPiece call head encoded is = absurd (of_piece (piece_range_in head) (part.Json encoded) is)
json_on _ call head encoded is = cc

begin_on : (kind : RequestKind) (call : Call) (head : Head) (type : Option (List ℕ)) (total : Option ℕ) (host : Option (List ℕ)) (encoded : Bool) (body : ObjectBody) → IsSome (upload_name call body)
    → part_on kind call head ≡ Ok (part.Begin type total host encoded) → IsGivenOn kind call (given.Begin body type total host)
begin_on Upload call head type total host encoded body named is = named
begin_on UploadPiece call head type total host encoded body named is = absurd (of_piece (piece_range_in head) (part.Begin type total host encoded) is)
begin_on _ call head type total host encoded body named is = cc

piece_on : (kind : RequestKind) (call : Call) (head : Head) (range : PieceRange) (given : Given) → IsGivenOn UploadPiece call given
    → part_on kind call head ≡ Ok (part.Piece range) → IsGivenOn kind call given
piece_on UploadPiece call head range given fit is = fit
piece_on Upload call head range given fit is = absurd (of_upload call.upload head (part.Piece range) is)
piece_on _ call head range given fit is = cc

-- ---- an upload has a name

first_passes : (first later : Option Reason) → or_else first later ≡ None → first ≡ None
first_passes None later is = refl
first_passes (Some reason) later is = cc

not_parts : (boundary : Option (List ℕ)) (encoded : Bool) (type : Option (List ℕ)) → parts_part boundary encoded ≡ Ok (part.Whole type) → ⊥
not_parts None encoded type is = cc
not_parts (Some boundary) encoded type is = cc

not_begin : (head : Head) (total : Result (Option ℕ) Reason) (type : Option (List ℕ)) → begin_by head total ≡ Ok (part.Whole type) → ⊥
not_begin head (Ok total) type is = cc
not_begin head (Err reason) type is = cc

-- what gives a content alone is an upload of media
media_by : (upload : Option UploadKind) (head : Head) (type : Option (List ℕ)) → IsSome upload → upload_part upload head ≡ Ok (part.Whole type) → is_media upload ≡ true
media_by None head type given is = cc
media_by (Some Media) head type given is = refl
media_by (Some Multipart) head type given is = absurd (not_parts (boundary_in head) (is_encoded head) type is)
media_by (Some Resumable) head type given is = absurd (not_begin head (total_in head) type is)

named_by : (media : Bool) (name : Option (List ℕ)) → media ≡ true → (if media && is_none name then Some (Required Name) else None) ≡ None → IsSome (option_or name None)
named_by true None is passes = cc
named_by true (Some name) is passes = refl
named_by false name is passes = cc

media_named : (call : Call) (head : Head) (type : Option (List ℕ)) → IsOfTable call → head_refusal call ≡ None → request_kind call ≡ Upload → upload_part call.upload head ≡ Ok (part.Whole type)
    → IsSome (upload_name call says_nothing)
media_named call head type table passes is gives =
    let given : IsSome call.upload = (subst (λ kind. HasParams kind call) is table.params).0 in
    named_by (is_media call.upload) call.name (media_by call.upload head type given gives) (first_passes (name_refusal call) _ passes)

parts_named : (call : Call) (body : ObjectBody) → IsNamed call.name body.name → IsSome (upload_name call body)
parts_named call body named = some_name call.name body.name named
  where
    some_name : (query json : Option (List ℕ)) → IsNamed query json → IsSome (option_or query json)
    some_name (Some query) json named = refl
    some_name None (Some name) named = refl
    some_name None None named = absurd named

-- ---- requests

pub fits_nothing : (head : Head) (call : Call) → IsHeading head (heading.Asks call part.Nothing) → Fits (record { call = call; given = given.Nothing })
fits_nothing head call is =
    record { table = table_of head call part.Nothing is; kind = nothing_on (request_kind call) call head is.2; limits = tt }

pub fits_read : (head : Head) (call : Call) (range : Option Range) → IsHeading head (heading.Asks call (part.Read range))
    → Fits (record { call = call; given = given.Read range })
fits_read head call range is = record {
  table = table_of head call (part.Read range) is;
  kind = read_on (request_kind call) call head range is.2;
  limits = tt;
}

pub fits_whole : (head : Head) (call : Call) (type : Option (List ℕ)) (hashed : Digested) → IsHeading head (heading.Asks call (part.Whole type))
    → Fits (record { call = call; given = given.Whole says_nothing type hashed })
fits_whole head call type hashed is =
    let table = table_of head call (part.Whole type) is in
    record { table = table; kind = whole_on (request_kind call) call head type hashed (media_named call head type table is.1) is.2; limits = tt }

pub fits_parts : (head : Head) (call : Call) (boundary : List ℕ) (encoded : Bool) (body : ObjectBody) (type : Option (List ℕ)) (hashed : Digested) → IsNamed call.name body.name
    → IsHeading head (heading.Asks call (part.Parts boundary encoded)) → Fits (record { call = call; given = given.Whole body type hashed })
fits_parts head call boundary encoded body type hashed named is = record {
  table = table_of head call (part.Parts boundary encoded) is;
  kind = parts_on (request_kind call) call head boundary encoded body type hashed (parts_named call body named) is.2;
  limits = tt;
}

pub fits_json : (head : Head) (call : Call) (encoded : Bool) (given : Given) → IsHeading head (heading.Asks call (part.Json encoded))
    → ((it : Call) → brings_json (request_kind call) ≡ true → IsGivenOn (request_kind call) it given) → IsGivenInLimits given
    → Fits (record { call = call; given = given })
fits_json head call encoded given is fit limits = record {
  table = table_of head call (part.Json encoded) is;
  kind = fit call (json_on (request_kind call) call head encoded is.2);
  limits = limits;
}

pub fits_begin : (head : Head) (call : Call) (type : Option (List ℕ)) (total : Option ℕ) (host : Option (List ℕ)) (encoded : Bool) (body : ObjectBody) → IsNamed call.name body.name
    → IsHeading head (heading.Asks call (part.Begin type total host encoded)) → Fits (record { call = call; given = given.Begin body type total host })
fits_begin head call type total host encoded body named is = record {
  table = table_of head call (part.Begin type total host encoded) is;
  kind = begin_on (request_kind call) call head type total host encoded body (parts_named call body named) is.2;
  limits = tt;
}

pub fits_piece : (head : Head) (call : Call) (range : PieceRange) (given : Given) → IsHeading head (heading.Asks call (part.Piece range))
    → IsGivenOn UploadPiece call given → IsGivenInLimits given → Fits (record { call = call; given = given })
fits_piece head call range given is fit limits = record {
  table = table_of head call (part.Piece range) is;
  kind = piece_on (request_kind call) call head range given fit is.2;
  limits = limits;
}
