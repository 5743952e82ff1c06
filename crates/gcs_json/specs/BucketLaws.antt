-- What the definition of a bucket's body comes to: which fault counts, and that each field is read by itself.
use Rattle.std.specs.Prelude.{◌≡◌, ◌↔◌, List, [], ◌∷◌, Bool, true, Ok}
use Rattle.serde_json.specs.Data.{Data}
use Rattle.gcs_meaning.specs.declared.reason.Key.TheVariants as key
use Rattle.gcs_json.specs.declared.bucket.BucketBody.{BucketBody}
use Rattle.gcs_json.specs.Bucket as bucket
use Rattle.gcs_json.specs.Order.{Tested, fault_of, first_fault, is_rising}

-- the known fields of a bucket
abbrev pub bucket_fields : Bool → Bool → Data → List Tested
bucket_fields inserts removes d =
    (key.DefaultEventBasedHold, fault_of (bucket.default_event_hold_in removes d))
    ∷ (key.Labels, fault_of (bucket.labels_in removes d))
    ∷ (key.Lifecycle, fault_of (bucket.lifecycle_in removes d))
    ∷ (key.Location, fault_of (bucket.location_in inserts d))
    ∷ (key.Name, fault_of (bucket.name_in inserts d))
    ∷ (key.RetentionPolicy, fault_of (bucket.retention_period_in removes d))
    ∷ (key.SoftDeletePolicy, fault_of (bucket.soft_seconds_in removes d))
    ∷ (key.StorageClass, fault_of (bucket.storage_class_in removes d))
    ∷ (key.Versioning, fault_of (bucket.versioned_in removes d))
    ∷ []

-- the fault of the object is that of the first known field in byte order which has one
abbrev pub FirstFaultCounts : Type 0
FirstFaultCounts =
    (inserts removes : Bool) (d : Data)
    → (fault_of (bucket.bucket_in inserts removes d) ≡ first_fault (bucket_fields inserts removes d))
    × (is_rising (bucket_fields inserts removes d) ≡ true)

-- each field of the body is what its own reading says
pub record IsBucketBody (inserts removes : Bool) (d : Data) (read : BucketBody) : Type 0 where
  pub default_event_hold : bucket.default_event_hold_in removes d ≡ Ok read.change.default_event_hold
  pub labels : bucket.labels_in removes d ≡ Ok read.change.labels
  pub lifecycle : bucket.lifecycle_in removes d ≡ Ok read.change.lifecycle
  pub location : bucket.location_in inserts d ≡ Ok read.location
  pub name : bucket.name_in inserts d ≡ Ok read.name
  pub retention_period : bucket.retention_period_in removes d ≡ Ok read.change.retention_period
  pub soft_seconds : bucket.soft_seconds_in removes d ≡ Ok read.change.soft_seconds
  pub storage_class : bucket.storage_class_in removes d ≡ Ok read.change.storage_class
  pub versioned : bucket.versioned_in removes d ≡ Ok read.change.versioned

-- the object is read as the body of those fields, and as no other
abbrev pub EachFieldCounts : Type 0
EachFieldCounts =
    (inserts removes : Bool) (d : Data) (read : BucketBody)
    → (bucket.bucket_in inserts removes d ≡ Ok read) ↔ IsBucketBody inserts removes d read
