-- What the definition of a compose's body comes to: which fault counts, and that each field is read by itself.
use Rattle.std.specs.Prelude.{◌≡◌, ◌↔◌, List, [], ◌∷◌, true, Ok}
use Rattle.serde_json.specs.Data.{Data}
use Rattle.gcs_meaning.specs.declared.reason.Key.TheVariants as key
use Rattle.gcs_json.specs.declared.compose.ComposeBody.{ComposeBody}
use Rattle.gcs_json.specs.Compose.{compose_in, destination_in, sources_in}
use Rattle.gcs_json.specs.Order.{Tested, fault_of, first_fault, is_rising}

-- the known fields of a compose
abbrev pub compose_fields : Data → List Tested
compose_fields d = (key.Destination, fault_of (destination_in d)) ∷ (key.SourceObjects, fault_of (sources_in d)) ∷ []

-- the fault of the object is that of the first known field in byte order which has one
abbrev pub FirstComposeFaultCounts : Type 0
FirstComposeFaultCounts = (d : Data) → (fault_of (compose_in d) ≡ first_fault (compose_fields d)) × (is_rising (compose_fields d) ≡ true)

-- each field of the body is what its own reading says
pub record IsComposeBody (d : Data) (read : ComposeBody) : Type 0 where
  pub destination : destination_in d ≡ Ok read.destination
  pub parts : sources_in d ≡ Ok read.parts

-- the object is read as the body of those fields, and as no other
abbrev pub EachComposeFieldCounts : Type 0
EachComposeFieldCounts = (d : Data) (read : ComposeBody) → (compose_in d ≡ Ok read) ↔ IsComposeBody d read
