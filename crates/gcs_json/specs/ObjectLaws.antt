-- What the definition of an object's body comes to: which fault counts, and that each field is read by itself.
use Rattle.std.specs.Prelude.{◌≡◌, ◌↔◌, List, [], ◌∷◌, Bool, true, Ok}
use Rattle.serde_json.specs.Data.{Data}
use Rattle.gcs_meaning.specs.declared.reason.Key.TheVariants as key
use Rattle.gcs_json.specs.declared.object.ObjectBody.{ObjectBody}
use Rattle.gcs_json.specs.declared.object.Way.{Way}
use Rattle.gcs_json.specs.Object as object
use Rattle.gcs_json.specs.Order.{Tested, fault_of, first_fault, is_rising}

-- the known fields of an object
abbrev pub object_fields : Way → Bool → Data → List Tested
object_fields way removes d =
    (key.CacheControl, fault_of (object.line_in key.CacheControl removes d))
    ∷ (key.ContentDisposition, fault_of (object.line_in key.ContentDisposition removes d))
    ∷ (key.ContentEncoding, fault_of (object.line_in key.ContentEncoding removes d))
    ∷ (key.ContentLanguage, fault_of (object.line_in key.ContentLanguage removes d))
    ∷ (key.ContentType, fault_of (object.line_in key.ContentType removes d))
    ∷ (key.Crc32c, fault_of (object.crc_in way d))
    ∷ (key.CustomTime, fault_of (object.custom_time_in removes d))
    ∷ (key.EventBasedHold, fault_of (object.event_hold_in removes d))
    ∷ (key.Md5Hash, fault_of (object.md5_in way d))
    ∷ (key.Metadata, fault_of (object.custom_in way removes d))
    ∷ (key.Name, fault_of (object.name_in way d))
    ∷ (key.StorageClass, fault_of (object.storage_class_in way d))
    ∷ (key.TemporaryHold, fault_of (object.temporary_hold_in removes d))
    ∷ []

-- the fault of the object is that of the first known field in byte order which has one
abbrev pub FirstObjectFaultCounts : Type 0
FirstObjectFaultCounts =
    (way : Way) (removes : Bool) (d : Data)
    → (fault_of (object.object_in way removes d) ≡ first_fault (object_fields way removes d))
    × (is_rising (object_fields way removes d) ≡ true)

-- each field of the body is what its own reading says
pub record IsObjectBody (way : Way) (removes : Bool) (d : Data) (read : ObjectBody) : Type 0 where
  pub cache_control : object.line_in key.CacheControl removes d ≡ Ok read.change.cache_control
  pub content_disposition : object.line_in key.ContentDisposition removes d ≡ Ok read.change.content_disposition
  pub content_encoding : object.line_in key.ContentEncoding removes d ≡ Ok read.change.content_encoding
  pub content_language : object.line_in key.ContentLanguage removes d ≡ Ok read.change.content_language
  pub content_type : object.line_in key.ContentType removes d ≡ Ok read.change.content_type
  pub crc : object.crc_in way d ≡ Ok read.expect.crc
  pub custom_time : object.custom_time_in removes d ≡ Ok read.change.custom_time
  pub event_hold : object.event_hold_in removes d ≡ Ok read.change.event_hold
  pub md5 : object.md5_in way d ≡ Ok read.expect.md5
  pub custom : object.custom_in way removes d ≡ Ok read.change.custom
  pub name : object.name_in way d ≡ Ok read.name
  pub storage_class : object.storage_class_in way d ≡ Ok read.storage_class
  pub temporary_hold : object.temporary_hold_in removes d ≡ Ok read.change.temporary_hold

-- the object is read as the body of those fields, and as no other
abbrev pub EachObjectFieldCounts : Type 0
EachObjectFieldCounts =
    (way : Way) (removes : Bool) (d : Data) (read : ObjectBody)
    → (object.object_in way removes d ≡ Ok read) ↔ IsObjectBody way removes d read
