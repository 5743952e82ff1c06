-- What a call takes from the parameters of a query.
use Rattle.std.specs.Prelude.{min, true, ℕ, List, [], ◌∷◌, Bool, map, codes, bytes_eq, Option, Some, None, if◌then◌else◌}
use Rattle.std.specs.Char.{to_ascii_lowercase}
use Rattle.std.specs.Str.Parse.{digits_value}
use Rattle.gcs_query.specs.Query.{Pair}
use Rattle.gcs_query.specs.Values.{value_of}
use Rattle.gcs_meaning.specs.declared.reason.Key.TheVariants as key
use Rattle.gcs_meaning.specs.declared.settings.Pre.{Pre}
use Rattle.gcs_route.specs.declared.call.Call.{Call}
use Rattle.gcs_route.specs.declared.call.UploadKind.{UploadKind}
use Rattle.gcs_route.specs.declared.call.UploadKind.TheVariants.{Media, Multipart, Resumable}
use Rattle.gcs_route.specs.declared.table.Param.{Param}
use Rattle.gcs_route.specs.declared.table.Param.TheVariants.{Alt, SoftOfGet, GenerationOfGet, Generation, If, UploadType, Name, ContentEncoding, Prefix, Delimiter, StartOffset, EndOffset, IncludeTrailingDelimiter, Versions, SoftOfList, MaxResults, PageToken, AltOfDownload, SoftOfDownload, NeededGeneration, NeededMetageneration, SourceGeneration, IfSource, MaxBytesRewrittenPerCall, RewriteToken, UploadId}
use Rattle.gcs_route.specs.declared.table.Condition.{Condition}
use Rattle.gcs_route.specs.declared.table.Condition.TheVariants.{GenerationIs, GenerationNot, MetagenerationIs, MetagenerationNot}
use Rattle.gcs_route.specs.Params.{text_at, key_of, source_key_of}

-- the number of a text
abbrev pub number_of : List ℕ → Option ℕ
number_of [] = None
number_of (b ∷ bs) = Some (digits_value 10 (b ∷ bs))

-- a text that is given
abbrev pub given : List ℕ → Option (List ℕ)
given [] = None
given (b ∷ bs) = Some (b ∷ bs)

abbrev pub flag_of : List ℕ → Bool
flag_of text = bytes_eq (map to_ascii_lowercase text) (codes "true")

abbrev pub upload_of : List ℕ → Option UploadKind
upload_of text =
    if bytes_eq text (codes "media") then Some Media
    else if bytes_eq text (codes "multipart") then Some Multipart
    else Some Resumable

-- how many a page has at most
abbrev pub most_of : Option ℕ → ℕ
most_of None = 1000
most_of (Some n) = min n 1000

-- the preconditions with this one
abbrev pub with_condition : Condition → Option ℕ → Pre → Pre
with_condition GenerationIs number pre = record pre { generation_is = number }
with_condition GenerationNot number pre = record pre { generation_not = number }
with_condition MetagenerationIs number pre = record pre { metageneration_is = number }
with_condition MetagenerationNot number pre = record pre { metageneration_not = number }

-- the call with that parameter
abbrev pub filled : List Pair → Call → Param → Call
filled q call Alt = record call { media = bytes_eq (text_at q key.Alt) (codes "media") }
filled q call SoftOfGet = record call { soft = flag_of (text_at q key.SoftDeleted) }
filled q call GenerationOfGet = record call { generation = number_of (text_at q key.Generation) }
filled q call Generation = record call { generation = number_of (text_at q key.Generation) }
filled q call (If which) = record call { pre = with_condition which (number_of (text_at q (key_of which))) call.pre }
filled q call UploadType = record call { upload = upload_of (text_at q key.UploadType) }
filled q call Name = record call { name = given (text_at q key.Name) }
filled q call ContentEncoding = record call { encoding = given (text_at q key.ContentEncoding) }
filled q call Prefix = record call { prefix = value_of (codes "prefix") q }
filled q call Delimiter = record call { delimiter = value_of (codes "delimiter") q }
filled q call StartOffset = record call { start = given (value_of (codes "startOffset") q) }
filled q call EndOffset = record call { end = given (value_of (codes "endOffset") q) }
filled q call IncludeTrailingDelimiter = record call { trailing = flag_of (text_at q key.IncludeTrailingDelimiter) }
filled q call Versions = record call { versions = flag_of (text_at q key.Versions) }
filled q call SoftOfList = record call { soft = flag_of (text_at q key.SoftDeleted) }
filled q call MaxResults = record call { most = most_of (number_of (text_at q key.MaxResults)) }
filled q call PageToken = record call { page_token = given (text_at q key.PageToken) }
filled q call AltOfDownload = record call { media = true }
filled q call SoftOfDownload = call
filled q call NeededGeneration = record call { generation = number_of (text_at q key.Generation) }
filled q call NeededMetageneration = record call { pre = record call.pre { metageneration_is = number_of (text_at q key.IfMetagenerationMatch) } }
filled q call SourceGeneration = record call { source_generation = number_of (text_at q key.SourceGeneration) }
filled q call (IfSource which) = record call { source_pre = with_condition which (number_of (text_at q (source_key_of which))) call.source_pre }
filled q call MaxBytesRewrittenPerCall = record call { per_call = number_of (text_at q key.MaxBytesRewrittenPerCall) }
filled q call RewriteToken = record call { rewrite_token = given (text_at q key.RewriteToken) }
filled q call UploadId = record call { upload_id = number_of (text_at q key.UploadId) }

-- the call with all these parameters
abbrev pub all_filled : List Pair → Call → List Param → Call
all_filled q call [] = call
all_filled q call (p ∷ ps) = all_filled q (filled q call p) ps
