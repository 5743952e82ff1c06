-- What the JSON of an upload says of its object (Cloud Storage JSON API, "Objects: insert").
use Rattle.std.specs.Prelude.{◌≡◌, ◌⊎◌, List, ℕ, Option, Some, None, Ok}
use Rattle.gcs_meaning.specs.declared.reason.Key.TheVariants.{Name}
use Rattle.gcs_meaning.specs.declared.reason.Reason.{Reason}
use Rattle.gcs_meaning.specs.declared.reason.Reason.TheVariants.{Invalid, Required}
use Rattle.gcs_names.specs.Name.{IsObjectName}
use Rattle.gcs_json.specs.declared.object.ObjectBody.{ObjectBody}
use Rattle.gcs_json.specs.Object.{object_of}
use Rattle.gcs_route.specs.declared.call.Call.{Call}
use Rattle.gcs_route.specs.Kinds.{row_of}
use Rattle.gcs_route.specs.OfCall.{request_kind}
use Rattle.gcs_request.specs.JsonBodies.{fault_in}

-- an upload has a name: that of the query, which was tested with it, else the JSON's
abbrev pub IsNamed : Option (List ℕ) → Option (List ℕ) → Type 0
IsNamed (Some query) json = Unit {0}
IsNamed None (Some name) = IsObjectName name
IsNamed None None = ⊥

-- it has none, or none that an object may have
abbrev pub IsNameFault : Option (List ℕ) → Option (List ℕ) → Reason → Type 0
IsNameFault (Some query) json reason = ⊥
IsNameFault None (Some name) reason = ¬ IsObjectName name × (reason ≡ Invalid Name)
IsNameFault None None reason = reason ≡ Required Name

-- the JSON of an upload says this, and the upload has a name
abbrev pub IsSaidOf : Call → List ℕ → ObjectBody → Type 0
IsSaidOf call text read = (object_of (row_of (request_kind call)) text ≡ Ok read) × IsNamed call.name read.name

-- the JSON of an upload is refused: for what it says, and then for the name
abbrev pub IsJsonFault : Call → List ℕ → Reason → Type 0
IsJsonFault call text reason =
    (fault_in (object_of (row_of (request_kind call)) text) ≡ Some reason)
    ⊎ ((read : ObjectBody) × (object_of (row_of (request_kind call)) text ≡ Ok read) × IsNameFault call.name read.name reason)
