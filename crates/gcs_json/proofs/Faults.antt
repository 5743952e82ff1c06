-- Faults of readings, one after the other.
use Rattle.std.proofs.Common.{◌≡◌, Option, Result, Ok, Err, refl}
use Rattle.gcs_json.specs.declared.fault.BodyFault.{BodyFault}
use Rattle.gcs_json.specs.Fields.{and_then}
use Rattle.gcs_json.specs.Order.{fault_of, or_next}
use Rattle.gcs_json.specs.BucketLaws.{FirstFaultCounts}
use Rattle.gcs_json.specs.ObjectLaws.{FirstObjectFaultCounts}
use Rattle.gcs_json.specs.ComposeLaws.{FirstComposeFaultCounts}
use Rattle.gcs_json.specs.Bucket as bucket
use Rattle.gcs_json.specs.Object as object
use Rattle.gcs_json.specs.Compose as compose
use Rattle.gcs_meaning.specs.declared.reason.Key.TheVariants as key

-- the fault of a reading comes before those of the rest
first_then : {A : Type 0} {B : Type 0} (read : Result A BodyFault) (next : A → Result B BodyFault) (rest : Option BodyFault)
    → ((x : A) → fault_of (next x) ≡ rest) → fault_of (and_then read next) ≡ or_next (fault_of read) rest
first_then (Ok x) next rest h = h x
first_then (Err fault) next rest h = refl

pub first_fault_counts : FirstFaultCounts
unfolding bucket.bucket_in
first_fault_counts inserts removes d = (
  first_then (bucket.default_event_hold_in removes d) _ _ (λ _.
      first_then (bucket.labels_in removes d) _ _ (λ _.
      first_then (bucket.lifecycle_in removes d) _ _ (λ _.
      first_then (bucket.location_in inserts d) _ _ (λ _.
      first_then (bucket.name_in inserts d) _ _ (λ _.
      first_then (bucket.retention_period_in removes d) _ _ (λ _.
      first_then (bucket.soft_seconds_in removes d) _ _ (λ _.
      first_then (bucket.storage_class_in removes d) _ _ (λ _.
      first_then (bucket.versioned_in removes d) _ _ (λ _. refl))))))))),
  refl,
)

pub first_object_fault_counts : FirstObjectFaultCounts
unfolding object.object_in
first_object_fault_counts way removes d = (
  first_then (object.line_in key.CacheControl removes d) _ _ (λ _.
      first_then (object.line_in key.ContentDisposition removes d) _ _ (λ _.
      first_then (object.line_in key.ContentEncoding removes d) _ _ (λ _.
      first_then (object.line_in key.ContentLanguage removes d) _ _ (λ _.
      first_then (object.line_in key.ContentType removes d) _ _ (λ _.
      first_then (object.crc_in way d) _ _ (λ _.
      first_then (object.custom_time_in removes d) _ _ (λ _.
      first_then (object.event_hold_in removes d) _ _ (λ _.
      first_then (object.md5_in way d) _ _ (λ _.
      first_then (object.custom_in way removes d) _ _ (λ _.
      first_then (object.name_in way d) _ _ (λ _.
      first_then (object.storage_class_in way d) _ _ (λ _.
      first_then (object.temporary_hold_in removes d) _ _ (λ _. refl))))))))))))),
  refl,
)

pub first_compose_fault_counts : FirstComposeFaultCounts
unfolding compose.compose_in
first_compose_fault_counts d = (
  first_then (compose.destination_in d) _ _ (λ _.
      first_then (compose.sources_in d) _ _ (λ _. refl)),
  refl,
)
