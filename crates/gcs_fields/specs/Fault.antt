-- Why a text is no mask
use Rattle.std.specs.Prelude.{ℕ, List}
use Rattle.gcs_fields.specs.declared.read.MaskFault.{MaskFault}
use Rattle.gcs_fields.specs.declared.read.MaskFault.TheVariants as fault
use Rattle.gcs_fields.specs.Tree.{IsPlace, IsNoMask}

-- no mask has this text, and its place is that of the longest front that begins some mask
abbrev pub IsFault : List ℕ → MaskFault → Type 0
IsFault text (fault.Bad place) = IsPlace text place × IsNoMask text
IsFault text fault.NoMemory = Unit {0}
