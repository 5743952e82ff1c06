-- What a refusal answers: its status, its word and its message (Cloud Storage JSON API, "HTTP status and error codes").
use Rattle.std.specs.Prelude.{ℕ, List, ◌++◌, if◌then◌else◌, codes, decimal}
use Rattle.gcs_meaning.specs.declared.reason.Key.{Key}
use Rattle.gcs_meaning.specs.declared.reason.Key.TheVariants as key
use Rattle.gcs_meaning.specs.declared.reason.Digest.{Digest}
use Rattle.gcs_meaning.specs.declared.reason.Digest.TheVariants.{Crc, Md5}
use Rattle.gcs_meaning.specs.declared.reason.Reason.{Reason}
use Rattle.gcs_meaning.specs.declared.reason.Reason.TheVariants.{NoPath, NoMethod, NotBuilt, Required, Invalid, BadMask, TooLong, NoBucket, NoObject, NoUpload, NoGrave, NoSource, Gone, Condition, SourceCondition, Exists, NotEmpty, Held, Retained, Locked, NoPolicy, TimeBack, MetadataTooLong, HashDiffers, TooLarge, Unsatisfiable, Beyond, BadStep, TotalDiffers}
use Rattle.gcs_crc.specs.Text.{crc_text_of, md5_text_of}

-- the name of a part of the request, as a message shows it
abbrev pub key_name : Key → List ℕ
key_name key.Bucket = codes "bucket"
key_name key.Object = codes "object"
key_name key.Query = codes "query"
key_name key.Body = codes "body"
key_name key.MaxResults = codes "maxResults"
key_name key.PageToken = codes "pageToken"
key_name key.IfMetagenerationMatch = codes "ifMetagenerationMatch"
key_name key.IfMetagenerationNotMatch = codes "ifMetagenerationNotMatch"
key_name key.Generation = codes "generation"
key_name key.IncludeTrailingDelimiter = codes "includeTrailingDelimiter"
key_name key.Versions = codes "versions"
key_name key.SoftDeleted = codes "softDeleted"
key_name key.Alt = codes "alt"
key_name key.IfGenerationMatch = codes "ifGenerationMatch"
key_name key.IfGenerationNotMatch = codes "ifGenerationNotMatch"
key_name key.SourceGeneration = codes "sourceGeneration"
key_name key.IfSourceGenerationMatch = codes "ifSourceGenerationMatch"
key_name key.IfSourceGenerationNotMatch = codes "ifSourceGenerationNotMatch"
key_name key.IfSourceMetagenerationMatch = codes "ifSourceMetagenerationMatch"
key_name key.IfSourceMetagenerationNotMatch = codes "ifSourceMetagenerationNotMatch"
key_name key.MaxBytesRewrittenPerCall = codes "maxBytesRewrittenPerCall"
key_name key.RewriteToken = codes "rewriteToken"
key_name key.UploadType = codes "uploadType"
key_name key.Name = codes "name"
key_name key.ContentEncoding = codes "contentEncoding"
key_name key.UploadId = codes "upload_id"
key_name key.CacheControl = codes "cacheControl"
key_name key.ContentDisposition = codes "contentDisposition"
key_name key.ContentLanguage = codes "contentLanguage"
key_name key.ContentType = codes "contentType"
key_name key.Crc32c = codes "crc32c"
key_name key.Md5Hash = codes "md5Hash"
key_name key.CustomTime = codes "customTime"
key_name key.EventBasedHold = codes "eventBasedHold"
key_name key.TemporaryHold = codes "temporaryHold"
key_name key.Metadata = codes "metadata"
key_name key.StorageClass = codes "storageClass"
key_name key.DefaultEventBasedHold = codes "defaultEventBasedHold"
key_name key.Labels = codes "labels"
key_name key.Lifecycle = codes "lifecycle"
key_name key.Location = codes "location"
key_name key.RetentionPolicy = codes "retentionPolicy"
key_name key.SoftDeletePolicy = codes "softDeletePolicy"
key_name key.Versioning = codes "versioning"
key_name key.Destination = codes "destination"
key_name key.SourceObjects = codes "sourceObjects"
key_name key.XUploadContentLength = codes "X-Upload-Content-Length"
key_name key.ContentRange = codes "Content-Range"
key_name key.HeadContentType = codes "Content-Type"
key_name key.HeadContentEncoding = codes "Content-Encoding"

-- the name of a digest in a message
abbrev pub digest_name : Digest → List ℕ
digest_name (Crc value) = codes "crc32c"
digest_name (Md5 bytes) = codes "md5Hash"

-- the text of a digest in a message
abbrev pub digest_text : Digest → List ℕ
digest_text (Crc value) = crc_text_of value
digest_text (Md5 bytes) = md5_text_of bytes

-- the end of a message on two numbers
abbrev pub wanted_found : ℕ → ℕ → List ℕ
wanted_found wanted found = codes ": wanted " ++ (decimal wanted ++ (codes ", found " ++ decimal found))

-- the status of a refusal's reply
abbrev pub status_of : Reason → ℕ
status_of NoPath = 404
status_of NoMethod = 405
status_of NotBuilt = 501
status_of (Required k) = 400
status_of (Invalid k) = 400
status_of (BadMask place) = 400
status_of TooLong = 413
status_of NoBucket = 404
status_of NoObject = 404
status_of NoUpload = 404
status_of NoGrave = 404
status_of (NoSource i) = 404
status_of (Gone expired) = 410
status_of (Condition which wanted found) = 412
status_of (SourceCondition i wanted found) = 412
status_of Exists = 409
status_of NotEmpty = 409
status_of (Held event) = 403
status_of (Retained until now) = 403
status_of (Locked kept asked) = 403
status_of NoPolicy = 400
status_of (TimeBack had asked) = 400
status_of (MetadataTooLong size) = 400
status_of (HashDiffers given found) = 400
status_of (TooLarge size) = 413
status_of (Unsatisfiable size) = 416
status_of (Beyond offset kept) = 400
status_of (BadStep size) = 400
status_of (TotalDiffers given known) = 400

-- the word of a refusal's reply, its `reason`
abbrev pub word_of : Reason → List ℕ
word_of NoPath = codes "notFound"
word_of NoMethod = codes "methodNotAllowed"
word_of NotBuilt = codes "notBuilt"
word_of (Required k) = codes "required"
word_of TooLong = codes "tooLong"
word_of NoBucket = codes "notFound"
word_of NoObject = codes "notFound"
word_of NoUpload = codes "notFound"
word_of NoGrave = codes "notFound"
word_of (NoSource i) = codes "notFound"
word_of (Gone expired) = codes "gone"
word_of (Condition which wanted found) = codes "conditionNotMet"
word_of (SourceCondition i wanted found) = codes "conditionNotMet"
word_of Exists = codes "conflict"
word_of NotEmpty = codes "conflict"
word_of (Held event) = codes "objectUnderActiveHold"
word_of (Retained until now) = codes "retentionPolicyNotMet"
word_of (Locked kept asked) = codes "retentionPolicyLocked"
word_of (TooLarge size) = codes "uploadTooLarge"
word_of (Unsatisfiable size) = codes "requestedRangeNotSatisfiable"
word_of _ = codes "invalid"

-- the message of a refusal's reply
abbrev pub message_of : Reason → List ℕ
message_of NoPath = codes "no such path"
message_of NoMethod = codes "no such method"
message_of NotBuilt = codes "not built"
message_of (Required k) = codes "required: " ++ key_name k
message_of (Invalid k) = codes "invalid: " ++ key_name k
message_of (BadMask place) = codes "fields: no mask at " ++ decimal place
message_of TooLong = codes "JSON over 1048576 bytes"
message_of NoBucket = codes "no bucket"
message_of NoObject = codes "no object"
message_of NoUpload = codes "no upload"
message_of NoGrave = codes "no deleted bucket"
message_of (NoSource i) = codes "no source " ++ decimal i
message_of (Gone expired) = if expired then codes "upload expired" else codes "upload cancelled"
message_of (Condition which wanted found) = key_name which ++ wanted_found wanted found
message_of (SourceCondition i wanted found) = codes "source " ++ (decimal i ++ wanted_found wanted found)
message_of Exists = codes "bucket exists"
message_of NotEmpty = codes "bucket not empty"
message_of (Held event) = if event then codes "eventBasedHold" else codes "temporaryHold"
message_of (Retained until now) = codes "retained until " ++ (decimal until ++ (codes ", now " ++ decimal now))
message_of (Locked kept asked) = codes "locked at " ++ (decimal kept ++ (codes " seconds, asked " ++ decimal asked))
message_of NoPolicy = codes "no retention policy"
message_of (TimeBack had asked) = codes "customTime: had " ++ (decimal had ++ (codes ", asked " ++ decimal asked))
message_of (MetadataTooLong size) = codes "metadata of " ++ (decimal size ++ codes " bytes")
message_of (HashDiffers given found) = digest_name given ++ (codes ": given " ++ (digest_text given ++ (codes ", found " ++ digest_text found)))
message_of (TooLarge size) = codes "size " ++ (decimal size ++ codes " over 5497558138880")
message_of (Unsatisfiable size) = codes "size " ++ decimal size
message_of (Beyond offset kept) = codes "offset " ++ (decimal offset ++ (codes " beyond kept " ++ decimal kept))
message_of (BadStep size) = codes "length " ++ (decimal size ++ codes " is no multiple of 262144")
message_of (TotalDiffers given known) = codes "total " ++ (decimal given ++ (codes ", known " ++ decimal known))
