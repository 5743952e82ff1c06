-- The settings of a bucket that is made (Cloud Storage JSON API, "Buckets: insert").
use Rattle.std.specs.Prelude.{true, false, List, ℕ, [], Option, None, unwrap_or, codes}
use Rattle.gcs_meaning.specs.declared.settings.Settings.{Settings}
use Rattle.gcs_meaning.specs.BucketChange.{changed_settings, default_class, default_soft_seconds}
use Rattle.gcs_json.specs.declared.bucket.BucketBody.{BucketBody}

-- the location of a bucket that names none
abbrev pub default_location : List ℕ
default_location = codes "US"

-- the settings of a bucket that names its location at most
abbrev pub settings_at : Option (List ℕ) → Settings
settings_at location = record {
  location = unwrap_or location default_location;
  storage_class = default_class;
  labels = [];
  lifecycle = None;
  versioned = false;
  default_event_hold = false;
  retention = None;
  soft_seconds = default_soft_seconds;
  soft_since = 0;
}

-- the settings of a bucket that names nothing
abbrev pub usual_settings : Settings
usual_settings = settings_at None

-- the settings that a body gives
abbrev pub inserted_settings : BucketBody → Settings
inserted_settings body = changed_settings 0 true body.change (settings_at body.location)
