-- What is found, where it passes.
use Rattle.std.specs.Prelude.{Bool, if◌then◌else◌, Option, Some, None}

abbrev pub first_if : {X : Type 0} → (X → Bool) → Option X → Option X
first_if p None = None
first_if p (Some x) = if p x then Some x else None
