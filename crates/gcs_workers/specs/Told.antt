-- What the parts of a connection tell.
use Rattle.std.specs.Prelude.{ℕ, List, Option}
use Rattle.gcs_meaning.specs.Desk.{Histories}
use Rattle.gcs_session.specs.Connection.{Outside}

-- the bytes that are left to be read, those that were read and written, and the readings, each where it is told
pub record Told : Type 0 where
  pub left : Option (List ℕ)
  pub taken : Option (List ℕ)
  pub written : Option (List ℕ)
  pub given : Option (List ℕ)

-- what the three parts of a connection tell
abbrev pub told : Option (List ℕ) → Option (List ℕ) → Option (List ℕ) → Option (List ℕ) → Told
told left taken written given = record { left = left; taken = taken; written = written; given = given }

-- the same, with the histories that the caller has seen and its own entries in them
abbrev pub outside_of : Told → Histories → Histories → Outside
outside_of t saw own = record { left = t.left; taken = t.taken; written = t.written; given = t.given; saw = saw; own = own }
