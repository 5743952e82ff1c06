-- What a listener hands out.
use Rattle.std.specs.Prelude.{◌≤◌, ℕ, List, [], ◌∷◌, Option, Some, None, Result, Ok, Err}
use Rattle.gcs_io.specs.Causes.{Rose}
use Rattle.gcs_io.specs.Told.{Loses, IsOver}
use Rattle.gcs_workers.specs.Told.{Told}

-- a connection that is handed out was the first of those that were pending; none is handed out only where none was
abbrev pub HandsOut : {P E : Type 0} → (P → Told) → Option (List Told) → Option (List Told) → Result (Option P) E → Type 0
HandsOut tells old now (Ok (Some p)) = Loses old now (tells p ∷ [])
HandsOut tells old now (Ok None) = Loses old now [] × IsOver now
HandsOut tells old now (Err e) = Loses old now []

-- no further connection was found only where the count of ends rose
abbrev pub RoseAtNone : {P E : Type 0} → ℕ → ℕ → Result (Option P) E → Type 0
RoseAtNone before now (Ok None) = Rose before now
RoseAtNone before now (Ok (Some p)) = Unit {0}
RoseAtNone before now (Err e) = Unit {0}

-- the count of ends never falls, and rises where no further connection is found
pub record HasEnd {P E : Type 0} (before now : ℕ) (result : Result (Option P) E) : Type 0 where
  pub later : before ≤ now
  pub none : RoseAtNone before now result
