-- What JSON bodies give.
use Rattle.std.specs.Prelude.{◌≡◌, ℕ, nat_lt, Bool, true, false, List, length, Option, Some, None, Result, Ok, Err, if◌then◌else◌}
use Rattle.gcs_meaning.specs.declared.changes.Set.TheVariants.{Keep}
use Rattle.gcs_meaning.specs.declared.reason.Key.TheVariants.{Body, HeadContentEncoding}
use Rattle.gcs_meaning.specs.declared.reason.Reason.{Reason}
use Rattle.gcs_meaning.specs.declared.reason.Reason.TheVariants.{Invalid, Required, TooLong}
use Rattle.gcs_json.specs.declared.fault.BodyFault.{BodyFault}
use Rattle.gcs_json.specs.declared.fault.BodyFault.TheVariants.{NotJson, BadField, Missing, NoMemory}
use Rattle.gcs_json.specs.Bucket.{bucket_of}
use Rattle.gcs_json.specs.declared.object.ObjectBody.{ObjectBody}
use Rattle.gcs_json.specs.Compose.{compose_of}
use Rattle.gcs_json.specs.Object.{object_of}
use Rattle.gcs_route.specs.declared.kind.RequestKind.{RequestKind}
use Rattle.gcs_route.specs.declared.kind.RequestKind.TheVariants.{BucketInsert, BucketPatch, BucketUpdate, ObjectPatch, ObjectUpdate, ObjectCompose, ObjectRewrite, ObjectCopy}
use Rattle.gcs_route.specs.Kinds.{row_of}
use Rattle.gcs_rewrite.specs.declared.request.Given.{Given}
use Rattle.gcs_rewrite.specs.declared.request.Given.TheVariants as given
use Rattle.gcs_request.specs.declared.json_bodies.JsonKind.{JsonKind}
use Rattle.gcs_request.specs.declared.json_bodies.JsonKind.TheVariants.{Bucket, Object, Compose}

-- the request has a JSON body
abbrev pub brings_json : RequestKind → Bool
brings_json BucketInsert = true
brings_json BucketPatch = true
brings_json BucketUpdate = true
brings_json ObjectPatch = true
brings_json ObjectUpdate = true
brings_json ObjectCompose = true
brings_json ObjectRewrite = true
brings_json ObjectCopy = true
brings_json _ = false

-- which body it is: that of an object where its metadata are patched or replaced, or it is copied, that of a compose, or else that of a bucket
abbrev pub json_kind : RequestKind → JsonKind
json_kind ObjectPatch = Object
json_kind ObjectUpdate = Object
json_kind ObjectRewrite = Object
json_kind ObjectCopy = Object
json_kind ObjectCompose = Compose
json_kind _ = Bucket

-- the refusal of a body for its fault. Want of memory is no fault of the body
abbrev pub said_fault : BodyFault → Option Reason
said_fault NotJson = Some (Invalid Body)
said_fault (BadField key) = Some (Invalid key)
said_fault (Missing key) = Some (Required key)
said_fault NoMemory = None

abbrev pub fault_in : {A : Type 0} → Result A BodyFault → Option Reason
fault_in (Ok read) = None
fault_in (Err fault) = said_fault fault

-- the refusal of what a body of that kind says on a row of the table
abbrev pub refusal_as : JsonKind → ℕ → List ℕ → Option Reason
refusal_as Bucket row body = fault_in (bucket_of row body)
refusal_as Object row body = fault_in (object_of row body)
refusal_as Compose row body = fault_in (compose_of body)

-- the refusal of what the JSON body of such a request says
abbrev pub body_refusal : RequestKind → List ℕ → Option Reason
body_refusal kind body = refusal_as (json_kind kind) (row_of kind) body

-- the refusal of a JSON body that may have so many bytes: for its length, for its encoding, and then for what it says
abbrev pub json_refusal : ℕ → Bool → RequestKind → List ℕ → Option Reason
json_refusal most encoded kind body =
    if nat_lt most (length body) then Some TooLong
    else if encoded then Some (Invalid HeadContentEncoding)
    else body_refusal kind body

-- the body of an object that names no field
abbrev pub says_nothing : ObjectBody
says_nothing = record {
  name = None;
  storage_class = None;
  change = record {
    content_type = Keep;
    cache_control = Keep;
    content_disposition = Keep;
    content_encoding = Keep;
    content_language = Keep;
    custom_time = Keep;
    temporary_hold = Keep;
    event_hold = Keep;
    custom = Keep;
  };
  expect = record { crc = None; md5 = None };
}

-- what a body of that kind says is given
abbrev pub IsSaidAs : JsonKind → ℕ → List ℕ → Given → Type 0
IsSaidAs Bucket row body (given.Bucket read) = bucket_of row body ≡ Ok read
IsSaidAs Object row body (given.Object read) = object_of row body ≡ Ok read
IsSaidAs Compose row body (given.Compose read) = compose_of body ≡ Ok read
IsSaidAs _ row body _ = ⊥

-- what the JSON body of such a request says is given
abbrev pub IsSaidBy : RequestKind → List ℕ → Given → Type 0
IsSaidBy kind body given = IsSaidAs (json_kind kind) (row_of kind) body given
