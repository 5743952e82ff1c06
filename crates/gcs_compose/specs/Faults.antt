-- How a fault tells what a compose lacks.
use Rattle.std.specs.Prelude.{◌≡◌}
use Rattle.gcs_meaning.specs.Compose.{Composed, lacks}
use Rattle.gcs_compose.specs.declared.fault.ComposeFault.{ComposeFault}
use Rattle.gcs_compose.specs.declared.fault.ComposeFault.TheVariants.{Refused, NoMemory}

-- a fault is want of memory, or tells what the sources lack
abbrev pub IsLackOf : ComposeFault → Composed → Type 0
IsLackOf (Refused reason) sources = sources ≡ lacks reason
IsLackOf NoMemory sources = Unit {0}
