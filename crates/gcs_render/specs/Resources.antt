-- What a resource shows (Cloud Storage JSON API, "Objects" and "Buckets", "Resource representations"), by its fields.
use Rattle.std.specs.Prelude.{ℕ, ◌-◌, ◌^◌, min, List, [], ◌∷◌, ◌++◌, length, Bool, true, false, Option, Some, None, option_map, option_and_then, unwrap_or, if◌then◌else◌, codes, decimal}
use Rattle.gcs_meaning.specs.declared.version.Row.{Row}
use Rattle.gcs_meaning.specs.declared.version.BucketRow.{BucketRow}
use Rattle.gcs_meaning.specs.declared.version.Kind.{Kind}
use Rattle.gcs_meaning.specs.declared.version.Kind.TheVariants.{Live, Noncurrent, Soft}
use Rattle.gcs_meaning.specs.declared.settings.Settings.{Settings}
use Rattle.gcs_meaning.specs.declared.settings.Retention.{Retention}
use Rattle.gcs_meaning.specs.BucketDeletion.{hard_of}
use Rattle.gcs_meaning.specs.Choosing.{is_readable}
use Rattle.gcs_meaning.specs.Content.{bytes_in, md5_if}
use Rattle.gcs_meaning.specs.Fit.{kind_began}
use Rattle.gcs_meaning.specs.Policy.{retained_until}
use Rattle.gcs_crc.specs.Crc.{crc}
use Rattle.gcs_crc.specs.Text.{crc_text_of, md5_text_of}
use Rattle.serde_json.specs.Data.{Data}
use Rattle.serde_json.specs.Read.{read}
use Rattle.serde_json.specs.Written.{has_float}
use Rattle.gcs_render.specs.Fields.{Field, object_of, text, text_if, long, count_if, truth, where_true, time, time_if, pairs_if, inner}

-- ---- parts of a resource

-- the generation, a slash, the metageneration
abbrev pub etag : ℕ → ℕ → List ℕ
etag generation metageneration = decimal generation ++ codes "/" ++ decimal metageneration

-- the bucket, the name and the generation, with slashes between
abbrev pub object_id : List ℕ → List ℕ → ℕ → List ℕ
object_id bucket name generation = bucket ++ codes "/" ++ name ++ codes "/" ++ decimal generation

-- since when a version is noncurrent
abbrev pub noncurrent_since : Kind → Option ℕ
noncurrent_since Live = None
noncurrent_since (Noncurrent at) = Some at
noncurrent_since (Soft at hard) = None

-- since when a version is soft-deleted
abbrev pub soft_since : Kind → Option ℕ
soft_since kind = if is_readable kind then None else Some (kind_began kind)

-- when a soft-deleted version goes
abbrev pub hard_time : Kind → Option ℕ
hard_time kind = if is_readable kind then None else Some (hard_of kind)

-- the end of the retention, for a kind of version that a policy retains; no end is above the greatest number of 64 bits
abbrev pub retained_by : Kind → ℕ → Option Retention → Option ℕ
retained_by (Soft at hard) start policy = None
retained_by _ start policy = option_map (λ p. min (retained_until start p.period) (2 ^ 64 - 1)) policy

-- until when a version is retained; under an event-based hold its retention has no end
abbrev pub retention_end : Row → Settings → Option ℕ
retention_end row settings =
    if unwrap_or row.meta.event_hold false then None else retained_by row.kind row.retention_start settings.retention

-- ---- objects, whose fields stand in the byte order of their keys

-- from `bucket` to `contentType`
abbrev pub object_from_bucket : List ℕ → Row → List Field
object_from_bucket bucket row =
    (codes "bucket", text bucket)
    ∷ (codes "cacheControl", text_if row.meta.cache_control)
    ∷ (codes "componentCount", count_if row.components)
    ∷ (codes "contentDisposition", text_if row.meta.content_disposition)
    ∷ (codes "contentEncoding", text_if row.meta.content_encoding)
    ∷ (codes "contentLanguage", text_if row.meta.content_language)
    ∷ (codes "contentType", text row.meta.content_type)
    ∷ []

-- from `crc32c` to `id`
abbrev pub object_from_crc : List ℕ → Row → List Field
object_from_crc bucket row =
    (codes "crc32c", text (crc_text_of (crc (bytes_in row.hashed))))
    ∷ (codes "customTime", time_if row.meta.custom_time)
    ∷ (codes "etag", text (etag row.generation row.metageneration))
    ∷ (codes "eventBasedHold", where_true (unwrap_or row.meta.event_hold false))
    ∷ (codes "generation", long row.generation)
    ∷ (codes "hardDeleteTime", time_if (hard_time row.kind))
    ∷ (codes "id", text (object_id bucket row.name row.generation))
    ∷ []

-- from `kind` to `size`
abbrev pub object_from_kind : Row → Settings → List Field
object_from_kind row settings =
    (codes "kind", text (codes "storage#object"))
    ∷ (codes "md5Hash", text_if (option_map md5_text_of (md5_if row.hashed.with_md5 (bytes_in row.hashed))))
    ∷ (codes "metadata", pairs_if row.meta.custom)
    ∷ (codes "metageneration", long row.metageneration)
    ∷ (codes "name", text row.name)
    ∷ (codes "retentionExpirationTime", time_if (retention_end row settings))
    ∷ (codes "size", long (length (bytes_in row.hashed)))
    ∷ []

-- from `softDeleteTime` to `updated`
abbrev pub object_from_soft : Row → Settings → List Field
object_from_soft row settings =
    (codes "softDeleteTime", time_if (soft_since row.kind))
    ∷ (codes "storageClass", text (unwrap_or row.meta.storage_class settings.storage_class))
    ∷ (codes "temporaryHold", where_true row.meta.temporary_hold)
    ∷ (codes "timeCreated", time row.created)
    ∷ (codes "timeDeleted", time_if (noncurrent_since row.kind))
    ∷ (codes "updated", time row.updated)
    ∷ []

-- all of an object
abbrev pub object_fields : List ℕ → Row → Settings → List Field
object_fields bucket row settings =
    object_from_bucket bucket row ++ object_from_crc bucket row ++ object_from_kind row settings ++ object_from_soft row settings

-- the resource of a version in this bucket
unfoldable pub object_data : List ℕ → Row → Settings → Data
object_data bucket row settings = object_of (object_fields bucket row settings)

-- ---- buckets, whose fields stand in the same order

-- how long deleted versions are kept, and since when the bucket does so
abbrev pub soft_policy_fields : Settings → List Field
soft_policy_fields settings =
    (codes "effectiveTime", time settings.soft_since)
    ∷ (codes "retentionDurationSeconds", long settings.soft_seconds)
    ∷ []

-- what a retention policy is
abbrev pub retention_fields : Retention → List Field
retention_fields policy =
    (codes "effectiveTime", time policy.since)
    ∷ (codes "isLocked", truth policy.locked)
    ∷ (codes "retentionPeriod", long policy.period)
    ∷ []

-- the retention policy, where there is one
abbrev pub retention_if : Option Retention → Option Data
retention_if policy = option_map (λ p. object_of (retention_fields p)) policy

-- that versioning is on
abbrev pub versioning_fields : List Field
versioning_fields = (codes "enabled", truth true) ∷ []

-- versioning, where it is on
abbrev pub versioning_if : Bool → Option Data
versioning_if versioned = if versioned then inner versioning_fields else None

-- a value, if its numbers are whole
abbrev pub if_whole : Data → Option Data
if_whole value = if has_float value then None else Some value

-- what a text is read as (RFC 8259), if its numbers are whole
abbrev pub whole_value : List ℕ → Option Data
whole_value text = option_and_then if_whole (read text)

-- from `defaultEventBasedHold` to `labels`
abbrev pub bucket_from_hold : BucketRow → List Field
bucket_from_hold row =
    (codes "defaultEventBasedHold", where_true row.settings.default_event_hold)
    ∷ (codes "etag", text (etag row.generation row.metageneration))
    ∷ (codes "generation", long row.generation)
    ∷ (codes "id", text row.name)
    ∷ (codes "kind", text (codes "storage#bucket"))
    ∷ (codes "labels", pairs_if row.settings.labels)
    ∷ []

-- from `lifecycle` to `retentionPolicy`; a lifecycle whose text has no reading in whole numbers isn't shown
abbrev pub bucket_from_lifecycle : BucketRow → List Field
bucket_from_lifecycle row =
    (codes "lifecycle", option_and_then whole_value row.settings.lifecycle)
    ∷ (codes "location", text row.settings.location)
    ∷ (codes "metageneration", long row.metageneration)
    ∷ (codes "name", text row.name)
    ∷ (codes "retentionPolicy", retention_if row.settings.retention)
    ∷ []

-- from `softDeletePolicy` to `versioning`
abbrev pub bucket_from_soft : BucketRow → List Field
bucket_from_soft row =
    (codes "softDeletePolicy", inner (soft_policy_fields row.settings))
    ∷ (codes "storageClass", text row.settings.storage_class)
    ∷ (codes "timeCreated", time row.created)
    ∷ (codes "updated", time row.updated)
    ∷ (codes "versioning", versioning_if row.settings.versioned)
    ∷ []

-- all of a bucket
abbrev pub bucket_fields : BucketRow → List Field
bucket_fields row = bucket_from_hold row ++ bucket_from_lifecycle row ++ bucket_from_soft row

-- the resource of a bucket
unfoldable pub bucket_data : BucketRow → Data
bucket_data row = object_of (bucket_fields row)
