-- The body of a compose (Cloud Storage JSON API, "Objects: compose").
use Rattle.std.specs.Prelude.{ℕ, ◌&&◌, List, length, nat_le, Bool, false, is_some, Option, Some, None, Result, Ok, Err, if◌then◌else◌}
use Rattle.serde_json.specs.Data.{Data, no_members, object}
use Rattle.serde_json.specs.Find.{as_object, get}
use Rattle.gcs_meaning.specs.declared.reason.Key.TheVariants as key
use Rattle.gcs_meaning.specs.declared.version.Part.{Part}
use Rattle.gcs_meaning.specs.Refusals.{key_name}
use Rattle.gcs_json.specs.declared.fault.BodyFault.{BodyFault}
use Rattle.gcs_json.specs.declared.fault.BodyFault.TheVariants.{BadField}
use Rattle.gcs_json.specs.declared.compose.ComposeBody.{ComposeBody}
use Rattle.gcs_json.specs.declared.object.ObjectBody.{ObjectBody}
use Rattle.gcs_json.specs.Fields.{body_of, is_empty, given_of, and_then}
use Rattle.gcs_json.specs.Object.{object_in, way_of}
use Rattle.gcs_json.specs.Sources.{parts_in}

-- a new version of which nothing is given
abbrev pub empty_destination : Result ObjectBody BodyFault
empty_destination = object_in (way_of 14) false (object no_members)

-- what the new version has: an object's body, which may be left out
abbrev pub destination_of : Option Data → Result ObjectBody BodyFault
destination_of None = empty_destination
destination_of (Some d) =
    if is_empty d then empty_destination
    else (if is_some (as_object d) then object_in (way_of 14) false d else Err (BadField key.Destination))

-- that of the field
abbrev pub destination_in : Data → Result ObjectBody BodyFault
destination_in d = destination_of (get (key_name key.Destination) d)

-- a compose has 1 to 32 sources
abbrev pub are_few : ℕ → Bool
are_few count = nat_le 1 count && nat_le count 32

-- the sources, if they are given and so many
abbrev pub if_few : Option (List Part) → Result (List Part) BodyFault
if_few None = Err (BadField key.SourceObjects)
if_few (Some parts) = if are_few (length parts) then Ok parts else Err (BadField key.SourceObjects)

-- the sources of the field
abbrev pub sources_in : Data → Result (List Part) BodyFault
sources_in d = and_then (given_of key.SourceObjects parts_in d) if_few

-- what the object says
unfoldable pub compose_in : Data → Result ComposeBody BodyFault
compose_in d =
    and_then (destination_in d) (λ destination.
    and_then (sources_in d) (λ parts.
    Ok record { destination = destination; parts = parts }))

-- what the body says
unfoldable pub compose_of : List ℕ → Result ComposeBody BodyFault
compose_of text = and_then (body_of text) compose_in
