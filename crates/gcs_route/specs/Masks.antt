-- The parameter `fields`: a mask of the reply (Cloud Storage JSON API, "Partial response").
use Rattle.std.specs.Prelude.{◌≡◌, ◌≢◌, ℕ, List, [], ◌⊎◌, codes}
use Rattle.gcs_query.specs.Query.{Pair}
use Rattle.gcs_query.specs.Values.{value_of}
use Rattle.gcs_fields.specs.Tree.{IsMask, print, IsPlace, IsNoMask}
use Rattle.gcs_fields.specs.Views.{mask_of}
use Rattle.gcs_meaning.specs.declared.reason.Reason.{Reason}
use Rattle.gcs_meaning.specs.declared.reason.Reason.TheVariants.{BadMask}
use Rattle.gcs_route.specs.declared.call.MaskPart.{MaskPart}
use Rattle.gcs_route.specs.declared.call.MaskPart.TheVariants.{Absent, Is, Fault}
use Rattle.gcs_route.specs.declared.fault.RouteFault.{RouteFault}
use Rattle.gcs_route.specs.declared.fault.RouteFault.TheVariants.{Refused, NoMemory}
use Rattle.gcs_route.specs.declared.table.Masking.{Masking}
use Rattle.gcs_route.specs.declared.table.Masking.TheVariants.{Unread, Tested, Kept}

-- the text of the mask in the query, empty where it has none
abbrev pub fields_of : List Pair → List ℕ
fields_of query = value_of (codes "fields") query

-- there is a text, and it is no mask: no more than a front of this length begins one
abbrev pub IsBadMask : List ℕ → ℕ → Type 0
IsBadMask text place = (text ≢ []) × IsPlace text place × IsNoMask text

-- what a call of such a row has of the mask
abbrev pub IsMaskPart : List Pair → Masking → MaskPart → Type 0
IsMaskPart query masking Absent = (masking ≡ Unread) ⊎ (fields_of query ≡ [])
IsMaskPart query masking (Is mask) = (masking ≢ Unread) × (fields_of query ≢ []) × IsMask (mask_of mask) × (print (mask_of mask) ≡ fields_of query)
IsMaskPart query masking (Fault place) = (masking ≡ Kept) × IsBadMask (fields_of query) place

-- the text is refused, since it is no mask
abbrev pub RefusesMask : List Pair → Reason → Type 0
RefusesMask query reason = (place : ℕ) × (reason ≡ BadMask place) × IsBadMask (fields_of query) place

-- a fault of the mask: its refusal, which comes where the row tests it, or want of memory
abbrev pub IsMaskFault : List Pair → Masking → RouteFault → Type 0
IsMaskFault query masking (Refused reason) = (masking ≡ Tested) × RefusesMask query reason
IsMaskFault query masking NoMemory = Unit {0}

-- the same mask: none, masks of one tree, or faults at one place
abbrev pub IsSameMask : MaskPart → MaskPart → Type 0
IsSameMask Absent Absent = Unit {0}
IsSameMask Absent (Is other) = ⊥
IsSameMask Absent (Fault other) = ⊥
IsSameMask (Is mask) Absent = ⊥
IsSameMask (Is mask) (Is other) = mask_of mask ≡ mask_of other
IsSameMask (Is mask) (Fault other) = ⊥
IsSameMask (Fault place) Absent = ⊥
IsSameMask (Fault place) (Is other) = ⊥
IsSameMask (Fault place) (Fault other) = place ≡ other
