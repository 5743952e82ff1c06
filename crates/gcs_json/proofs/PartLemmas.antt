-- Sources of a compose, one after the other.
use Rattle.std.proofs.Common.{List, ◌++◌, Option, Some, None}
use Rattle.gcs_meaning.specs.declared.version.Part.{Part}

-- sources before those that are left
abbrev pub joined : List Part → Option (List Part) → Option (List Part)
joined done None = None
joined done (Some more) = Some (done ++ more)
