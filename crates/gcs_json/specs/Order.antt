-- Which fault of a body counts: that of the first name in byte order.
use Rattle.std.specs.Prelude.{List, [], ◌∷◌, Bool, true, ◌&&◌, Option, Some, None, Result, Ok, Err}
use Rattle.std.specs.Ordering.{nat_cmp, is_lt}
use Rattle.std.specs.Cmp.Lexicographic.{slice_cmp}
use Rattle.gcs_meaning.specs.declared.reason.Key.{Key}
use Rattle.gcs_meaning.specs.Refusals.{key_name}
use Rattle.gcs_json.specs.declared.fault.BodyFault.{BodyFault}

-- the fault of a reading, where it has one
abbrev pub fault_of : {A : Type 0} → Result A BodyFault → Option BodyFault
fault_of (Ok read) = None
fault_of (Err fault) = Some fault

-- a fault, or else the next
abbrev pub or_next : Option BodyFault → Option BodyFault → Option BodyFault
or_next None next = next
or_next (Some fault) next = Some fault

-- a field's name and its own fault
abbrev pub Tested : Type 0
Tested = Key × Option BodyFault

-- the fault of the first field that has one
abbrev pub first_fault : List Tested → Option BodyFault
first_fault [] = None
first_fault (field ∷ fields) = or_next field.1 (first_fault fields)

-- the names rise in byte order, from this one on
abbrev pub rises_from : Key → List Tested → Bool
rises_from key [] = true
rises_from key (field ∷ fields) = is_lt (slice_cmp nat_cmp (key_name key) (key_name field.0)) && rises_from field.0 fields

-- the names rise in byte order
abbrev pub is_rising : List Tested → Bool
is_rising [] = true
is_rising (field ∷ fields) = rises_from field.0 fields
