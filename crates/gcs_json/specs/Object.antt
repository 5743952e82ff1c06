-- The body of an object: its fields in byte order of their names (Cloud Storage JSON API, "Objects").
use Rattle.std.specs.Prelude.{ℕ, ◌==◌, ◌||◌, List, Bool, Option, Some, None, Result, Ok, if◌then◌else◌}
use Rattle.serde_json.specs.Data.{Data}
use Rattle.gcs_meaning.specs.declared.reason.Key.{Key}
use Rattle.gcs_meaning.specs.declared.reason.Key.TheVariants as key
use Rattle.gcs_meaning.specs.ObjectChange.{largest_custom}
use Rattle.gcs_json.specs.declared.fault.BodyFault.{BodyFault}
use Rattle.gcs_json.specs.declared.object.ObjectBody.{ObjectBody}
use Rattle.gcs_json.specs.declared.object.Way.{Way}
use Rattle.gcs_json.specs.declared.words.Bytes.TheVariants.{Class, Line}
use Rattle.gcs_json.specs.Fields.{Changed, body_of, field_of, given_if, and_then}
use Rattle.gcs_json.specs.Kinds.{any_text, crc, flag, md5, moment, text_where}
use Rattle.gcs_json.specs.Pairs.{Pair, pairs_within}
use Rattle.gcs_json.specs.Words.{is_word}

-- rows 14 (compose), 15 (rewrite), 16 (copy) and 18 (upload) make a version
abbrev pub makes : ℕ → Bool
makes row = ((row == 14 || row == 15) || row == 16) || row == 18

-- uploads alone read digests and the name; the custom metadata of a new version are bounded
unfoldable pub way_of : ℕ → Way
way_of row = record { uploads = row == 18; makes = makes row; most = if makes row then Some largest_custom else None }

-- a text of a reply's head: at most 1,024 bytes, none of which is a control character
abbrev pub line_in : Key → Bool → Data → Changed (List ℕ)
line_in key removes d = field_of removes key (text_where (is_word 0 1024 Line)) d

-- an upload alone reads the CRC32C
abbrev pub crc_in : Way → Data → Result (Option ℕ) BodyFault
crc_in way d = given_if way.uploads key.Crc32c crc d

-- in microseconds since 1970
abbrev pub custom_time_in : Bool → Data → Changed ℕ
custom_time_in removes d = field_of removes key.CustomTime moment d

-- whether it is under an event-based hold
abbrev pub event_hold_in : Bool → Data → Changed Bool
event_hold_in removes d = field_of removes key.EventBasedHold flag d

-- an upload alone reads the MD5
abbrev pub md5_in : Way → Data → Result (Option (List ℕ)) BodyFault
md5_in way d = given_if way.uploads key.Md5Hash md5 d

-- the custom metadata
abbrev pub custom_in : Way → Bool → Data → Changed (List Pair)
custom_in way removes d = field_of removes key.Metadata (pairs_within removes way.most) d

-- any text: whether it is a name that an object may have is tested with the query's name
abbrev pub name_in : Way → Data → Result (Option (List ℕ)) BodyFault
name_in way d = given_if way.uploads key.Name any_text d

-- 1 to 64 capitals, digits and underscores, where a version is made
abbrev pub storage_class_in : Way → Data → Result (Option (List ℕ)) BodyFault
storage_class_in way d = given_if way.makes key.StorageClass (text_where (is_word 1 64 Class)) d

-- whether it is under a temporary hold
abbrev pub temporary_hold_in : Bool → Data → Changed Bool
temporary_hold_in removes d = field_of removes key.TemporaryHold flag d

-- what the object says
unfoldable pub object_in : Way → Bool → Data → Result ObjectBody BodyFault
object_in way removes d =
    and_then (line_in key.CacheControl removes d) (λ cache_control.
    and_then (line_in key.ContentDisposition removes d) (λ content_disposition.
    and_then (line_in key.ContentEncoding removes d) (λ content_encoding.
    and_then (line_in key.ContentLanguage removes d) (λ content_language.
    and_then (line_in key.ContentType removes d) (λ content_type.
    and_then (crc_in way d) (λ crc_given.
    and_then (custom_time_in removes d) (λ custom_time.
    and_then (event_hold_in removes d) (λ event_hold.
    and_then (md5_in way d) (λ md5_given.
    and_then (custom_in way removes d) (λ custom.
    and_then (name_in way d) (λ name.
    and_then (storage_class_in way d) (λ storage_class.
    and_then (temporary_hold_in removes d) (λ temporary_hold.
    Ok record {
      name = name;
      storage_class = storage_class;
      change = record {
        content_type = content_type;
        cache_control = cache_control;
        content_disposition = content_disposition;
        content_encoding = content_encoding;
        content_language = content_language;
        custom_time = custom_time;
        temporary_hold = temporary_hold;
        event_hold = event_hold;
        custom = custom;
      };
      expect = record { crc = crc_given; md5 = md5_given };
    })))))))))))))

-- what the body says on a row of the table of paths: 11 patches, 12 replaces, and those that make a version
unfoldable pub object_of : ℕ → List ℕ → Result ObjectBody BodyFault
object_of row text = and_then (body_of text) (object_in (way_of row) (row == 11))
