-- A query has one mask.
use Rattle.std.proofs.Common.{◌≡◌, ℕ, List, [], ⊎_elim, ◌⊎◌, le_antisymm, sym, ◌∙◌}
use Rattle.gcs_query.specs.Query.{Pair}
use Rattle.gcs_fields.specs.Tree.{IsPlace}
use Rattle.gcs_fields.specs.Views.{mask_of}
use Rattle.gcs_fields.proofs.OneMask.{one_mask}
use Rattle.gcs_route.specs.declared.call.MaskPart.{MaskPart}
use Rattle.gcs_route.specs.declared.call.MaskPart.TheVariants.{Absent, Is, Fault}
use Rattle.gcs_route.specs.declared.table.Masking.{Masking}
use Rattle.gcs_route.specs.declared.table.Masking.TheVariants.{Unread, Kept}
use Rattle.gcs_route.specs.Masks.{fields_of, IsMaskPart, IsSameMask}

-- the longest front of a text that begins a mask has one length
pub one_place : (text : List ℕ) (p q : ℕ) → IsPlace text p → IsPlace text q → p ≡ q
one_place text p q is_p is_q = le_antisymm (is_q.longest p is_p.within is_p.begins) (is_p.longest q is_q.within is_q.begins)

-- nothing is read where there is a text that the row reads
absent_given : (query : List Pair) (masking : Masking) → (masking ≡ Unread) ⊎ (fields_of query ≡ []) → (masking ≡ Unread → ⊥) → (fields_of query ≡ [] → ⊥) → ⊥
absent_given query masking absent read given = ⊎_elim read given absent

kept_read : (masking : Masking) → masking ≡ Kept → masking ≡ Unread → ⊥
kept_read masking kept unread = cc

pub same_masks : (query : List Pair) (masking : Masking) (part other : MaskPart) → IsMaskPart query masking part → IsMaskPart query masking other → IsSameMask part other
same_masks query masking Absent Absent h g = tt
same_masks query masking Absent (Is n) h g = absurd (absent_given query masking h g.0 g.1)
same_masks query masking Absent (Fault q) h g = absurd (absent_given query masking h (kept_read masking g.0) g.1.0)
same_masks query masking (Is m) Absent h g = absurd (absent_given query masking g h.0 h.1)
same_masks query masking (Is m) (Is n) h g = one_mask (mask_of m) (mask_of n) h.2 g.2 (h.3 ∙ sym g.3)
same_masks query masking (Is m) (Fault q) h g = absurd (g.1.2 (mask_of m) h.2 h.3)
same_masks query masking (Fault p) Absent h g = absurd (absent_given query masking g (kept_read masking h.0) h.1.0)
same_masks query masking (Fault p) (Is n) h g = absurd (h.1.2 (mask_of n) g.2 g.3)
same_masks query masking (Fault p) (Fault q) h g = one_place (fields_of query) p q h.1.1 g.1.1
