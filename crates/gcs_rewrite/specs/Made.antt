-- The metadata of the version that an upload makes (Cloud Storage JSON API, "Objects: insert").
use Rattle.std.specs.Prelude.{ℕ, List, [], true, false, Option, Some, None, unwrap_or}
use Rattle.std.specs.Option.{option_or}
use Rattle.gcs_meaning.specs.declared.changes.Set.{Set}
use Rattle.gcs_meaning.specs.declared.changes.Set.TheVariants.{Keep, Clear, To}
use Rattle.gcs_meaning.specs.declared.settings.Meta.{Meta}
use Rattle.gcs_meaning.specs.Changes.{changed_pairs}
use Rattle.gcs_meaning.specs.ObjectChange.{default_content_type}
use Rattle.gcs_json.specs.declared.object.ObjectBody.{ObjectBody}

-- the value that a field is set to
abbrev pub set_to : {X : Type 0} → Set X → Option X
set_to Keep = None
set_to Clear = None
set_to (To value) = Some value

-- the metadata that the body of an upload gives, with the content type and the content encoding that came beside it: the body's
-- content type counts before that one, its encoding after. A body that names no event-based hold leaves it to the bucket
unfoldable pub made_meta : ObjectBody → Option (List ℕ) → Option (List ℕ) → Meta
made_meta body kind encoding = record {
  content_type = unwrap_or (option_or (set_to body.change.content_type) kind) default_content_type;
  cache_control = set_to body.change.cache_control;
  content_disposition = set_to body.change.content_disposition;
  content_encoding = option_or encoding (set_to body.change.content_encoding);
  content_language = set_to body.change.content_language;
  storage_class = body.storage_class;
  custom_time = set_to body.change.custom_time;
  temporary_hold = unwrap_or (set_to body.change.temporary_hold) false;
  event_hold = set_to body.change.event_hold;
  custom = changed_pairs true [] body.change.custom;
}
