-- Each field of a body is what its own reading says.
use Rattle.std.proofs.Common.{◌≡◌, Result, Ok, Err, refl, subst, ap, ◌∙◌}
use Rattle.gcs_json.specs.declared.fault.BodyFault.{BodyFault}
use Rattle.gcs_json.specs.Fields.{and_then}
use Rattle.gcs_json.specs.BucketLaws.{IsBucketBody, EachFieldCounts}
use Rattle.gcs_json.specs.ObjectLaws.{IsObjectBody, EachObjectFieldCounts}
use Rattle.gcs_json.specs.ComposeLaws.{IsComposeBody, EachComposeFieldCounts}
use Rattle.gcs_json.specs.Bucket as bucket
use Rattle.gcs_json.specs.Object as object
use Rattle.gcs_json.specs.Compose as compose
use Rattle.gcs_meaning.specs.declared.reason.Key.TheVariants as key

-- what comes of two readings is what the second makes of the first's value
pub and_then-ok : {A : Type 0} {B : Type 0} (read : Result A BodyFault) (next : A → Result B BodyFault) (made : B)
    → and_then read next ≡ Ok made → (x : A) × (read ≡ Ok x) × (next x ≡ Ok made)
and_then-ok (Ok x) next made h = (x, refl, h)
and_then-ok (Err fault) next made h = cc

ok_then : {A : Type 0} {B : Type 0} (read : Result A BodyFault) (next : A → Result B BodyFault) (x : A) (made : Result B BodyFault)
    → read ≡ Ok x → next x ≡ made → and_then read next ≡ made
ok_then read next x made e h = ap (λ r. and_then r next) e ∙ h

same_ok : {B : Type 0} (made read : B) → ◌≡◌ {A = Result B BodyFault} (Ok made) (Ok read) → made ≡ read
same_ok made read e = cc

pub each_field_counts : EachFieldCounts
unfolding bucket.bucket_in
each_field_counts inserts removes d read = (
  λ h.
      let hold = and_then-ok (bucket.default_event_hold_in removes d) _ read h in
      let labels = and_then-ok (bucket.labels_in removes d) _ read hold.2 in
      let lifecycle = and_then-ok (bucket.lifecycle_in removes d) _ read labels.2 in
      let location = and_then-ok (bucket.location_in inserts d) _ read lifecycle.2 in
      let name = and_then-ok (bucket.name_in inserts d) _ read location.2 in
      let period = and_then-ok (bucket.retention_period_in removes d) _ read name.2 in
      let soft = and_then-ok (bucket.soft_seconds_in removes d) _ read period.2 in
      let class = and_then-ok (bucket.storage_class_in removes d) _ read soft.2 in
      let versioned = and_then-ok (bucket.versioned_in removes d) _ read class.2 in
      subst (IsBucketBody inserts removes d) (same_ok _ read versioned.2) record {
        default_event_hold = hold.1;
        labels = labels.1;
        lifecycle = lifecycle.1;
        location = location.1;
        name = name.1;
        retention_period = period.1;
        soft_seconds = soft.1;
        storage_class = class.1;
        versioned = versioned.1;
      },
  λ is.
      ok_then (bucket.default_event_hold_in removes d) _ _ _ is.default_event_hold (
      ok_then (bucket.labels_in removes d) _ _ _ is.labels (
      ok_then (bucket.lifecycle_in removes d) _ _ _ is.lifecycle (
      ok_then (bucket.location_in inserts d) _ _ _ is.location (
      ok_then (bucket.name_in inserts d) _ _ _ is.name (
      ok_then (bucket.retention_period_in removes d) _ _ _ is.retention_period (
      ok_then (bucket.soft_seconds_in removes d) _ _ _ is.soft_seconds (
      ok_then (bucket.storage_class_in removes d) _ _ _ is.storage_class (
      ok_then (bucket.versioned_in removes d) _ _ _ is.versioned refl)))))))),
)

pub each_object_field_counts : EachObjectFieldCounts
unfolding object.object_in
each_object_field_counts way removes d read = (
  λ h.
      let cache = and_then-ok (object.line_in key.CacheControl removes d) _ read h in
      let disposition = and_then-ok (object.line_in key.ContentDisposition removes d) _ read cache.2 in
      let encoding = and_then-ok (object.line_in key.ContentEncoding removes d) _ read disposition.2 in
      let language = and_then-ok (object.line_in key.ContentLanguage removes d) _ read encoding.2 in
      let kind = and_then-ok (object.line_in key.ContentType removes d) _ read language.2 in
      let crc = and_then-ok (object.crc_in way d) _ read kind.2 in
      let time = and_then-ok (object.custom_time_in removes d) _ read crc.2 in
      let event = and_then-ok (object.event_hold_in removes d) _ read time.2 in
      let md5 = and_then-ok (object.md5_in way d) _ read event.2 in
      let custom = and_then-ok (object.custom_in way removes d) _ read md5.2 in
      let name = and_then-ok (object.name_in way d) _ read custom.2 in
      let class = and_then-ok (object.storage_class_in way d) _ read name.2 in
      let temporary = and_then-ok (object.temporary_hold_in removes d) _ read class.2 in
      subst (IsObjectBody way removes d) (same_ok _ read temporary.2) record {
        cache_control = cache.1;
        content_disposition = disposition.1;
        content_encoding = encoding.1;
        content_language = language.1;
        content_type = kind.1;
        crc = crc.1;
        custom_time = time.1;
        event_hold = event.1;
        md5 = md5.1;
        custom = custom.1;
        name = name.1;
        storage_class = class.1;
        temporary_hold = temporary.1;
      },
  λ is.
      ok_then (object.line_in key.CacheControl removes d) _ _ _ is.cache_control (
      ok_then (object.line_in key.ContentDisposition removes d) _ _ _ is.content_disposition (
      ok_then (object.line_in key.ContentEncoding removes d) _ _ _ is.content_encoding (
      ok_then (object.line_in key.ContentLanguage removes d) _ _ _ is.content_language (
      ok_then (object.line_in key.ContentType removes d) _ _ _ is.content_type (
      ok_then (object.crc_in way d) _ _ _ is.crc (
      ok_then (object.custom_time_in removes d) _ _ _ is.custom_time (
      ok_then (object.event_hold_in removes d) _ _ _ is.event_hold (
      ok_then (object.md5_in way d) _ _ _ is.md5 (
      ok_then (object.custom_in way removes d) _ _ _ is.custom (
      ok_then (object.name_in way d) _ _ _ is.name (
      ok_then (object.storage_class_in way d) _ _ _ is.storage_class (
      ok_then (object.temporary_hold_in removes d) _ _ _ is.temporary_hold refl)))))))))))),
)

pub each_compose_field_counts : EachComposeFieldCounts
unfolding compose.compose_in
each_compose_field_counts d read = (
  λ h.
      let destination = and_then-ok (compose.destination_in d) _ read h in
      let parts = and_then-ok (compose.sources_in d) _ read destination.2 in
      subst (IsComposeBody d) (same_ok _ read parts.2) record { destination = destination.1; parts = parts.1 },
  λ is.
      ok_then (compose.destination_in d) _ _ _ is.destination (
      ok_then (compose.sources_in d) _ _ _ is.parts refl),
)
