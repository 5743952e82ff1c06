-- The body of a bucket: its fields in byte order of their names (Cloud Storage JSON API, "Buckets").
use Rattle.std.specs.Prelude.{ℕ, ◌==◌, List, Bool, true, false, Option, Some, None, Result, Ok, if◌then◌else◌, codes}
use Rattle.serde_json.specs.Data.{Data}
use Rattle.gcs_names.specs.Name.{is_bucket_name}
use Rattle.gcs_meaning.specs.declared.reason.Key.TheVariants as key
use Rattle.gcs_json.specs.declared.fault.BodyFault.{BodyFault}
use Rattle.gcs_json.specs.declared.bucket.BucketBody.{BucketBody}
use Rattle.gcs_json.specs.declared.words.Bytes.TheVariants.{Class, Place}
use Rattle.gcs_json.specs.Fields.{Changed, body_of, field_of, given_of, given_if, needed, and_then}
use Rattle.gcs_json.specs.Kinds.{flag, inside, text_where, compact_within, number_within}
use Rattle.gcs_json.specs.Pairs.{Pair, pairs_within}
use Rattle.gcs_json.specs.Words.{is_word}

-- whether new versions are under an event-based hold
abbrev pub default_event_hold_in : Bool → Data → Changed Bool
default_event_hold_in removes d = field_of removes key.DefaultEventBasedHold flag d

-- at most 8,192 bytes together
abbrev pub labels_in : Bool → Data → Changed (List Pair)
labels_in removes d = field_of removes key.Labels (pairs_within removes (Some 8192)) d

-- an object, kept as its compact text of at most 65,536 bytes
abbrev pub lifecycle_in : Bool → Data → Changed (List ℕ)
lifecycle_in removes d = field_of removes key.Lifecycle (compact_within 65536) d

-- an insert alone reads the location
abbrev pub location_in : Bool → Data → Result (Option (List ℕ)) BodyFault
location_in inserts d = given_if inserts key.Location (text_where (is_word 1 64 Place)) d

-- an insert alone reads the name, and must have one
abbrev pub name_in : Bool → Data → Result (Option (List ℕ)) BodyFault
name_in inserts d = if inserts then and_then (given_of key.Name (text_where is_bucket_name) d) (needed key.Name) else Ok None

-- 1 to 3,155,760,000 seconds
abbrev pub retention_period_in : Bool → Data → Changed ℕ
retention_period_in removes d =
    field_of removes key.RetentionPolicy (inside (codes "retentionPeriod") (number_within false 1 3_155_760_000)) d

-- 0, or 604,800 to 7,776,000 seconds
abbrev pub soft_seconds_in : Bool → Data → Changed ℕ
soft_seconds_in removes d =
    field_of removes key.SoftDeletePolicy (inside (codes "retentionDurationSeconds") (number_within true 604_800 7_776_000)) d

-- 1 to 64 capitals, digits and underscores
abbrev pub storage_class_in : Bool → Data → Changed (List ℕ)
storage_class_in removes d = field_of removes key.StorageClass (text_where (is_word 1 64 Class)) d

-- whether versions are kept
abbrev pub versioned_in : Bool → Data → Changed Bool
versioned_in removes d = field_of removes key.Versioning (inside (codes "enabled") flag) d

-- what the object says
unfoldable pub bucket_in : Bool → Bool → Data → Result BucketBody BodyFault
bucket_in inserts removes d =
    and_then (default_event_hold_in removes d) (λ default_event_hold.
    and_then (labels_in removes d) (λ labels.
    and_then (lifecycle_in removes d) (λ lifecycle.
    and_then (location_in inserts d) (λ location.
    and_then (name_in inserts d) (λ name.
    and_then (retention_period_in removes d) (λ retention_period.
    and_then (soft_seconds_in removes d) (λ soft_seconds.
    and_then (storage_class_in removes d) (λ storage_class.
    and_then (versioned_in removes d) (λ versioned.
    Ok record {
      name = name;
      location = location;
      change = record {
        labels = labels;
        lifecycle = lifecycle;
        versioned = versioned;
        default_event_hold = default_event_hold;
        retention_period = retention_period;
        soft_seconds = soft_seconds;
        storage_class = storage_class;
      };
    })))))))))

-- what the body says on a row of the table of paths: 1 inserts, 4 patches, 5 replaces
unfoldable pub bucket_of : ℕ → List ℕ → Result BucketBody BodyFault
bucket_of row text = and_then (body_of text) (bucket_in (row == 1) (row == 4))
