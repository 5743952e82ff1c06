-- Which version a request names (Cloud Storage, "Object Versioning" and "Soft delete").
use Rattle.std.specs.Prelude.{ℕ, ◌==◌, Bool, true, false, not, ◌&&◌, List, Option, Some, None}
use Rattle.std.specs.Str.{bytes_eq}
use Rattle.std.specs.List.{find}
use Rattle.gcs_meaning.specs.declared.version.Kind.{Kind}
use Rattle.gcs_meaning.specs.declared.version.Kind.TheVariants.{Live, Noncurrent, Soft}
use Rattle.gcs_meaning.specs.declared.version.Row.{Row}

-- a version of this kind is live
abbrev pub is_live : Kind → Bool
is_live Live = true
is_live (Noncurrent at) = false
is_live (Soft at hard) = false

-- the row is the live one of the name
abbrev pub is_live_of : List ℕ → Row → Bool
is_live_of name row = is_live row.kind && bytes_eq name row.name

-- the live version of a name
abbrev pub live_row : List ℕ → List Row → Option Row
live_row name rows = find (is_live_of name) rows

-- live or noncurrent
abbrev pub is_readable : Kind → Bool
is_readable Live = true
is_readable (Noncurrent at) = true
is_readable (Soft at hard) = false

-- the row is the live or noncurrent one of the generation, or the live one where no generation is given
abbrev pub is_chosen : List ℕ → Option ℕ → Row → Bool
is_chosen name None row = is_live_of name row
is_chosen name (Some generation) row = is_readable row.kind && (row.generation == generation) && bytes_eq name row.name

-- the version that a request names, but a read of the soft-deleted ones
abbrev pub chosen_row : List ℕ → Option ℕ → List Row → Option Row
chosen_row name generation rows = find (is_chosen name generation) rows

-- the row is the soft-deleted one of the generation, and none is where no generation is given
abbrev pub is_soft_chosen : List ℕ → Option ℕ → Row → Bool
is_soft_chosen name None row = false
is_soft_chosen name (Some generation) row = not (is_readable row.kind) && (row.generation == generation) && bytes_eq name row.name

-- the row is the one that a read asks for, among the soft-deleted ones or among the others
abbrev pub is_asked : Bool → List ℕ → Option ℕ → Row → Bool
is_asked false name generation row = is_chosen name generation row
is_asked true name generation row = is_soft_chosen name generation row

-- the version that a read asks for
abbrev pub asked_row : Bool → List ℕ → Option ℕ → List Row → Option Row
asked_row soft name generation rows = find (is_asked soft name generation) rows
