-- What is written for a reply (RFC 9112, 4 to 6).
use Rattle.std.specs.Prelude.{ℕ, zero, suc, ◌+◌, List, [], ◌∷◌, ◌++◌, length, slice_range, Bool, Option, Some, None, option_map, if◌then◌else◌, codes, decimal, false}
use Rattle.serde_json.specs.Data.{Data}
use Rattle.serde_json.specs.Written.{compact_text}
use Rattle.gcs_fields.specs.Views.{mask_of}
use Rattle.gcs_fields.specs.Select.{selected}
use Rattle.gcs_route.specs.declared.call.MaskPart.{MaskPart}
use Rattle.gcs_route.specs.declared.call.MaskPart.TheVariants as mask
use Rattle.gcs_route.specs.OfCall.{last_bucket}
use Rattle.gcs_crc.specs.Crc.{crc}
use Rattle.gcs_crc.specs.Text.{crc_text_of, md5_text_of}
use Rattle.gcs_http_in.specs.declared.fault.FrameFault.{FrameFault}
use Rattle.gcs_http_in.specs.declared.fault.FrameFault.TheVariants as fault
use Rattle.gcs_http_out.specs.declared.head.Ending.TheVariants.{Closes}
use Rattle.gcs_http_out.specs.declared.reply.FixedText.{FixedText}
use Rattle.gcs_http_out.specs.declared.reply.FixedText.TheVariants as fixed
use Rattle.gcs_http_out.specs.Head.{field_line, head_text}
use Rattle.gcs_http_out.specs.Fixed.{fixed_text}
use Rattle.gcs_meaning.specs.declared.reason.Reason.{Reason}
use Rattle.gcs_meaning.specs.declared.reason.Reason.TheVariants.{Unsatisfiable}
use Rattle.gcs_meaning.specs.declared.settings.Meta.{Meta}
use Rattle.gcs_meaning.specs.declared.version.Row.{Row}
use Rattle.gcs_meaning.specs.Content.{Digested, bytes_in, md5_if}
use Rattle.gcs_meaning.specs.Refusals.{status_of}
use Rattle.gcs_render.specs.Lists.{buckets_data, list_data, rewrite_data, version_data}
use Rattle.gcs_render.specs.Resources.{bucket_data, object_data}
use Rattle.gcs_render.specs.Refusals.{error_data}
use Rattle.gcs_rewrite.specs.declared.request.Given.{Given}
use Rattle.gcs_rewrite.specs.declared.request.Given.TheVariants.{Begin}
use Rattle.gcs_rewrite.specs.declared.request.Request.{Request}
use Rattle.gcs_rewrite.specs.declared.replies.Reply.{Reply}
use Rattle.gcs_rewrite.specs.declared.replies.Reply.TheVariants.{Refused, Object, Bucket, Buckets, Page, Rewritten, Media, Started, Kept, Cancelled, NoContent, NotModified}
use Rattle.gcs_reply.specs.declared.form.Form.{Form}

-- the bucket that a request names last: of a copy that of its destination
abbrev pub bucket_in : Request → List ℕ
bucket_in request = last_bucket request.call

-- the host that the beginning of an upload is sent to, where it names one
abbrev pub host_given : Given → Option (List ℕ)
host_given (Begin body kind total host) = host
host_given _ = None

-- the host that a request is sent to, where it begins an upload and names one
abbrev pub host_of : Request → Option (List ℕ)
host_of request = host_given request.given

-- what a mask leaves of a resource (Google's page "Performance tips", "Partial response")
abbrev pub masked_by : MaskPart → Data → Data
masked_by mask.Absent resource = resource
masked_by (mask.Is m) resource = selected (mask_of m) resource
masked_by (mask.Fault place) resource = resource

-- the part of a resource that a request asks for
abbrev pub masked : Request → Data → Data
masked request resource = masked_by request.call.mask resource

-- ---- status

-- media is 200 whole, and 206 in part (RFC 9110, 15.3.7)
abbrev pub media_status : Option (ℕ × ℕ) → ℕ
media_status None = 200
media_status (Some part) = 206

-- the status of a reply; of an upload that is not whole 308, and of one that is cancelled 499 (Google's page "Resumable uploads")
abbrev pub status_in : Reply → ℕ
status_in (Refused reason) = status_of reason
status_in (Object row settings) = 200
status_in (Bucket row) = 200
status_in (Buckets rows token) = 200
status_in (Page page) = 200
status_in (Rewritten reply object) = 200
status_in (Started upload) = 200
status_in (Kept count) = 308
status_in Cancelled = 499
status_in NoContent = 204
status_in NotModified = 304
status_in (Media row part) = media_status part

-- ---- fields

-- a field's name, and its value where the field stands
abbrev pub Line : Type 0
Line = List ℕ × Option (List ℕ)

-- the field, where it stands
abbrev pub field_where : List ℕ → Option (List ℕ) → List (List ℕ × List ℕ)
field_where name None = []
field_where name (Some value) = (name, value) ∷ []

-- the fields, and after them those of these lines that stand
abbrev pub with_lines : List Line → List (List ℕ × List ℕ) → List (List ℕ × List ℕ)
with_lines [] fields = fields
with_lines (line ∷ lines) fields = with_lines lines (fields ++ field_where line.0 line.1)

-- the fields that stand
abbrev pub standing : List Line → List (List ℕ × List ℕ)
standing lines = with_lines lines []

-- the text of a field's line, where the field stands (RFC 9112, 5)
abbrev pub line_text : List ℕ → Option (List ℕ) → List ℕ
line_text name None = []
line_text name (Some value) = field_line (name, value)

-- a text, and behind it the lines of those of these fields that stand
abbrev pub lines_behind : List Line → List ℕ → List ℕ
lines_behind [] text = text
lines_behind (line ∷ lines) text = lines_behind lines (text ++ line_text line.0 line.1)

-- the content type of JSON
abbrev pub json_type : List ℕ
json_type = codes "application/json; charset=UTF-8"

-- the size of which a range can't be met
abbrev pub unmet_size : Reason → Option ℕ
unmet_size (Unsatisfiable size) = Some size
unmet_size _ = None

-- how it is told (RFC 9110, 14.4)
abbrev pub unmet_text : ℕ → List ℕ
unmet_text size = codes "bytes */" ++ decimal size

-- the first and the last byte that are sent, and the size (RFC 9110, 14.4)
abbrev pub part_text : ℕ → ℕ × ℕ → List ℕ
part_text size part = codes "bytes " ++ (decimal part.0 ++ (codes "-" ++ (decimal part.1 ++ (codes "/" ++ decimal size))))

-- digests as texts, with the MD5 where it is there (Cloud Storage, "Headers: x-goog-hash")
abbrev pub digests_text : List ℕ → Option (List ℕ) → List ℕ
digests_text crc None = codes "crc32c=" ++ crc
digests_text crc (Some md5) = codes "crc32c=" ++ (crc ++ (codes ",md5=" ++ md5))

-- the digests of the whole content
abbrev pub hash_text : Digested → List ℕ
hash_text hashed = digests_text (crc_text_of (crc (bytes_in hashed))) (option_map md5_text_of (md5_if hashed.with_md5 (bytes_in hashed)))

-- what the bytes are
abbrev pub content_lines : Row → Option (ℕ × ℕ) → List Line
content_lines row part =
    (codes "Content-Type", Some row.meta.content_type)
    ∷ (codes "Content-Range", option_map (part_text (length (bytes_in row.hashed))) part)
    ∷ []

-- what their owner says of them
abbrev pub meta_lines : Meta → List Line
meta_lines meta =
    (codes "Cache-Control", meta.cache_control)
    ∷ (codes "Content-Disposition", meta.content_disposition)
    ∷ (codes "Content-Encoding", meta.content_encoding)
    ∷ (codes "Content-Language", meta.content_language)
    ∷ []

-- which version of the object they are
abbrev pub version_lines : Row → List Line
version_lines row =
    (codes "x-goog-generation", Some (decimal row.generation))
    ∷ (codes "x-goog-metageneration", Some (decimal row.metageneration))
    ∷ (codes "x-goog-hash", Some (hash_text row.hashed))
    ∷ []

-- the fields of a resource's JSON
abbrev pub resource_lines : List Line
resource_lines = (codes "Content-Type", Some json_type) ∷ []

-- the fields of JSON, with the size of which a range can't be met, where there is one
abbrev pub json_lines : Option ℕ → List Line
json_lines unmet = (codes "Content-Type", Some json_type) ∷ (codes "Content-Range", option_map unmet_text unmet) ∷ []

-- the fields of a refusal's JSON
abbrev pub refusal_lines : Reason → List Line
refusal_lines reason = json_lines (unmet_size reason)

-- the fields of the bytes of a version, or of a part of them
unfoldable pub media_lines : Row → Option (ℕ × ℕ) → List Line
media_lines row part = content_lines row part ++ (meta_lines row.meta ++ version_lines row)

-- the path and the query that the pieces of an upload are sent to (Google's page "Resumable uploads")
abbrev pub upload_path : List ℕ → ℕ → List ℕ
upload_path bucket upload = codes "/upload/storage/v1/b/" ++ (bucket ++ (codes "/o?uploadType=resumable&upload_id=" ++ decimal upload))

-- where they are sent: at the host, where one is named (RFC 9110, 10.2.2)
abbrev pub location_text : Option (List ℕ) → List ℕ → ℕ → List ℕ
location_text None bucket upload = upload_path bucket upload
location_text (Some host) bucket upload = codes "http://" ++ (host ++ upload_path bucket upload)

-- the first and the last of the bytes that are kept, where there are any (Google's page "Resumable uploads")
abbrev pub kept_text : ℕ → Option (List ℕ)
kept_text zero = None
kept_text (suc last) = Some (codes "bytes=0-" ++ decimal last)

-- the fields of an upload that has begun
abbrev pub started_lines : Request → ℕ → List Line
started_lines request upload = (codes "Location", Some (location_text (host_of request) (bucket_in request) upload)) ∷ []

-- the fields of an upload of which so many bytes are kept
abbrev pub kept_lines : ℕ → List Line
kept_lines count = (codes "Range", kept_text count) ∷ []

-- the fields of a reply to a request, beside its length and its ending
abbrev pub lines_in : Request → Reply → List Line
lines_in q (Refused reason) = refusal_lines reason
lines_in q (Object row settings) = resource_lines
lines_in q (Bucket row) = resource_lines
lines_in q (Buckets rows token) = resource_lines
lines_in q (Page page) = resource_lines
lines_in q (Rewritten reply object) = resource_lines
lines_in q (Started upload) = started_lines q upload
lines_in q (Kept count) = kept_lines count
lines_in q Cancelled = []
lines_in q NoContent = []
lines_in q NotModified = []
lines_in q (Media row part) = media_lines row part

-- ---- body

-- the bytes of a part, from its first up to and with its last; without a part, all bytes
abbrev pub part_bytes : Option (ℕ × ℕ) → List ℕ → List ℕ
part_bytes None bytes = bytes
part_bytes (Some part) bytes = slice_range bytes part.0 (part.1 + 1)

-- the body of a reply, by the bucket that its request names and by its mask, which no refusal is put under
abbrev pub body_in : Request → Reply → List ℕ
body_in q (Refused reason) = compact_text (error_data reason)
body_in q (Object row settings) = compact_text (masked q (object_data (bucket_in q) row settings))
body_in q (Bucket row) = compact_text (masked q (bucket_data row))
body_in q (Buckets rows token) = compact_text (masked q (buckets_data rows token))
body_in q (Page page) = compact_text (masked q (list_data (bucket_in q) page))
body_in q (Rewritten reply object) = compact_text (masked q (rewrite_data reply (version_data (bucket_in q) object)))
body_in q (Started upload) = []
body_in q (Kept count) = []
body_in q Cancelled = []
body_in q NoContent = []
body_in q NotModified = []
body_in q (Media row part) = part_bytes part (bytes_in row.hashed)

-- ---- texts

-- a head with these fields and the length of a body, and the body unless the head alone is asked for
abbrev pub head_and_body : Form → ℕ → List (List ℕ × List ℕ) → List ℕ → List ℕ
head_and_body form status fields body = head_text status fields (Some (length body)) form.ending ++ (if form.head_only then [] else body)

-- a head alone, which tells no length (RFC 9110, 8.6)
abbrev pub bare_text : Form → ℕ → List ℕ
bare_text form status = head_text status [] None form.ending

-- the text of a refusal, which no mask is put on
abbrev pub refusal_text : Form → Reason → List ℕ
refusal_text form reason = head_and_body form (status_of reason) (standing (refusal_lines reason)) (compact_text (error_data reason))

-- the text of a reply
unfoldable pub reply_text : Form → Request → Reply → List ℕ
reply_text form q NoContent = bare_text form (status_in NoContent)
reply_text form q NotModified = bare_text form (status_in NotModified)
reply_text form q reply = head_and_body form (status_in reply) (standing (lines_in q reply)) (body_in q reply)

-- the constant replies: want of memory before any step, and after one
abbrev pub memory_text : Form → Bool → List ℕ
memory_text form stepped =
    fixed_text record { what = if stepped then fixed.WantOfMemoryDone else fixed.WantOfMemory; ending = form.ending; head_only = form.head_only }

-- the constant text of a fault
abbrev pub fixed_of : FrameFault → FixedText
fixed_of fault.HeadTooLong = fixed.HeadTooLong
fixed_of fault.TooManyFields = fixed.TooManyFields
fixed_of fault.BadHead = fixed.BadHead
fixed_of fault.BadCoding = fixed.BadCoding
fixed_of fault.BothLengths = fixed.BothLengths
fixed_of fault.BadLength = fixed.BadLength
fixed_of fault.BodyTooLong = fixed.BodyTooLong
fixed_of fault.BadChunk = fixed.BadChunk

-- the text of a fault of framing, which closes the connection
abbrev pub fault_text : FrameFault → List ℕ
fault_text f = fixed_text record { what = fixed_of f; ending = Closes; head_only = false }
