-- The object that a body is (RFC 8259), and what it says of one field.
use Rattle.std.specs.Prelude.{ℕ, ◌==◌, List, [], length, Bool, true, false, Option, Some, None, option_map, Result, Ok, Err, if◌then◌else◌}
use Rattle.std.specs.Str.{is_utf8}
use Rattle.serde_json.specs.Data.{Data, no_members, null, string, object}
use Rattle.serde_json.specs.Read.{read}
use Rattle.serde_json.specs.Find.{get}
use Rattle.gcs_meaning.specs.declared.changes.Set.{Set}
use Rattle.gcs_meaning.specs.declared.changes.Set.TheVariants.{Keep, Clear, To}
use Rattle.gcs_meaning.specs.declared.reason.Key.{Key}
use Rattle.gcs_meaning.specs.Refusals.{key_name}
use Rattle.gcs_json.specs.declared.fault.BodyFault.{BodyFault}
use Rattle.gcs_json.specs.declared.fault.BodyFault.TheVariants.{NotJson, BadField, Missing}

-- a value that is read, if it is an object
abbrev pub object_in : Option Data → Result Data BodyFault
object_in (Some (object members)) = Ok (object members)
object_in _ = Err NotJson

-- the object that a body is; an empty text counts as an empty object
unfoldable pub body_of : List ℕ → Result Data BodyFault
body_of text =
    if length text == 0 then Ok (object no_members)
    else object_in (if is_utf8 text then read text else None)

-- null or an empty text
abbrev pub is_empty : Data → Bool
is_empty null = true
is_empty (string []) = true
is_empty _ = false

-- a change of one field, or the field's fault
abbrev pub Changed : Type 0 → Type 0
Changed T = Result (Set T) BodyFault

-- what a field's value does to the field; none where the value is of a wrong kind
abbrev pub said : {T : Type 0} → Bool → (Data → Option T) → Option Data → Option (Set T)
said removes reads None = Some Keep
said removes reads (Some d) = if is_empty d then Some (if removes then Clear else Keep) else option_map To (reads d)

-- what a field's value gives, where null and an empty text count as absent
abbrev pub gives : {T : Type 0} → (Data → Option T) → Option Data → Option (Option T)
gives reads None = Some None
gives reads (Some d) = if is_empty d then Some None else option_map Some (reads d)

-- what is read under a name, or the fault of that name
abbrev pub or_bad : {S : Type 0} → Key → Option S → Result S BodyFault
or_bad key (Some read) = Ok read
or_bad key None = Err (BadField key)

-- what a body does to a field of this kind
abbrev pub field_of : {T : Type 0} → Bool → Key → (Data → Option T) → Data → Changed T
field_of removes key reads body = or_bad key (said removes reads (get (key_name key) body))

-- what a body gives in a field of this kind
abbrev pub given_of : {T : Type 0} → Key → (Data → Option T) → Data → Result (Option T) BodyFault
given_of key reads body = or_bad key (gives reads (get (key_name key) body))

-- the same, where the request reads the field
abbrev pub given_if : {T : Type 0} → Bool → Key → (Data → Option T) → Data → Result (Option T) BodyFault
given_if asked key reads body = if asked then given_of key reads body else Ok None

-- a value that must be given
abbrev pub needed : {T : Type 0} → Key → Option T → Result (Option T) BodyFault
needed key (Some value) = Ok (Some value)
needed key None = Err (Missing key)

-- one reading after the other; the first fault counts
abbrev pub and_then : {A : Type 0} {B : Type 0} → Result A BodyFault → (A → Result B BodyFault) → Result B BodyFault
and_then (Ok read) next = next read
and_then (Err fault) next = Err fault
