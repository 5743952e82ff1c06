-- The sources of a compose: objects and versions, and the generation that each must have (Cloud Storage JSON API, "Objects:
-- compose").
use Rattle.std.specs.Prelude.{ℕ, List, [], ◌∷◌, is_some, Option, Some, None, option_and_then, option_map, if◌then◌else◌, codes}
use Rattle.serde_json.specs.Data.{Data, Items, item, no_items}
use Rattle.serde_json.specs.Find.{as_array, as_object, get}
use Rattle.gcs_meaning.specs.declared.version.Part.{Part}
use Rattle.gcs_names.specs.ObjectTest.{is_object_name}
use Rattle.gcs_json.specs.Fields.{is_empty}
use Rattle.gcs_json.specs.Kinds.{number_of, text_where}

-- a number that may be left out; null and an empty text count as absent
abbrev pub optional_number : Option Data → Option (Option ℕ)
optional_number None = Some None
optional_number (Some d) = if is_empty d then Some None else option_map Some (number_of d)

-- the number under a name
abbrev pub number_under : List ℕ → Data → Option (Option ℕ)
number_under name d = optional_number (get name d)

-- the preconditions of a source, which may be left out
abbrev pub optional_condition : Option Data → Option (Option ℕ)
optional_condition None = Some None
optional_condition (Some d) =
    if is_empty d then Some None
    else (if is_some (as_object d) then number_under (codes "ifGenerationMatch") d else None)

-- the generation that the source must have
abbrev pub condition_in : Data → Option (Option ℕ)
condition_in d = optional_condition (get (codes "objectPreconditions") d)

-- the name of the source
abbrev pub name_in : Data → Option (List ℕ)
name_in d = option_and_then (text_where is_object_name) (get (codes "name") d)

-- a source, if each of its fields is of its kind
abbrev pub part_from : Option (List ℕ) → Option (Option ℕ) → Option (Option ℕ) → Option Part
part_from (Some name) (Some generation) (Some generation_is) = Some record { name = name; generation = generation; generation_is = generation_is }
part_from _ _ _ = None

-- the source that a value is
unfoldable pub part_of : Data → Option Part
part_of d = part_from (name_in d) (number_under (codes "generation") d) (condition_in d)

-- a source before others, if all are sources
abbrev pub part_before : Option Part → Option (List Part) → Option (List Part)
part_before None parts = None
part_before (Some part) parts = option_map (λ more. part ∷ more) parts

-- the sources that these values are
abbrev pub parts_of : Items → Option (List Part)
parts_of no_items = Some []
parts_of (item d more) = part_before (part_of d) (parts_of more)

-- the sources of a list
abbrev pub parts_in : Data → Option (List Part)
parts_in d = option_and_then parts_of (as_array d)
