-- A request has one call, or refusals, and never both.
use Rattle.std.proofs.Common.{◌≡◌, ℕ, List, [], ◌∷◌, ⊎_elim, Option, Some, None, sym, ap, subst, subst₂, ◌∙◌}
use Rattle.gcs_query.specs.Query.{pairs_of}
use Rattle.gcs_meaning.specs.declared.reason.Reason.{Reason}
use Rattle.gcs_route.specs.declared.call.Call.{Call}
use Rattle.gcs_route.specs.declared.call.MaskPart.{MaskPart}
use Rattle.gcs_route.specs.declared.call.MaskPart.TheVariants.{Absent}
use Rattle.gcs_route.specs.declared.fault.RouteFault.TheVariants.{Refused}
use Rattle.gcs_route.specs.Table.{Row}
use Rattle.gcs_route.specs.Paths.{segments, path_of, query_of}
use Rattle.gcs_route.specs.Filling.{all_filled}
use Rattle.gcs_route.specs.Pieces.{row_by}
use Rattle.gcs_route.specs.Refusals.{Test, Passes, AllPass, FirstFails, tests}
use Rattle.gcs_route.specs.Masks.{IsMaskPart, IsSameMask}
use Rattle.gcs_route.proofs.OneMask.{same_masks}
use Rattle.gcs_route.specs.Calls.{named, IsCall, IsFault, IsFaultBy, IsSameCall}

abbrev row_or : Row → Option Row → Row
row_or r None = r
row_or r (Some s) = s

same_row : {r s : Row} → Some r ≡ Some s → r ≡ s
same_row {r} {s} same = ap (row_or r) same

-- the fields of a call but its mask
unmasked : (call filled : Call) (part : MaskPart) → call ≡ record filled { mask = part } → record call { mask = Absent } ≡ record filled { mask = Absent }
unmasked call filled part e = ap (λ (x : Call). record x { mask = Absent }) e

pub one_call : (method target : List ℕ) (call other : Call) → IsCall method target call → IsCall method target other → IsSameCall call other
one_call method target call other is_call is_other =
    let pairs = pairs_of (query_of target) in
    let same : is_call.0 ≡ is_other.0 = same_row (sym is_call.1 ∙ is_other.1) in
    let filled : Row → Call = λ row. all_filled pairs (named (row_by pairs row) (segments (path_of target))) (row_by pairs row).params in
    let c = is_call.2 in
    let d = is_other.2 in
    let masks = same_masks pairs (row_by pairs is_call.0).masking c.1 d.1 c.2 (subst (λ (row : Row). IsMaskPart pairs (row_by pairs row).masking d.1) (sym same) d.2) in (
      unmasked call (filled is_call.0) c.1 c.3 ∙ ap (λ row. record (filled row) { mask = Absent }) same ∙ sym (unmasked other (filled is_other.0) d.1 d.3),
      subst₂ IsSameMask (ap (λ (x : Call). x.mask) (sym c.3)) (ap (λ (x : Call). x.mask) (sym d.3)) masks,
    )

none_fails : (text : List ℕ) (ts : List Test) (reason : Reason) → AllPass text ts → FirstFails text ts reason → ⊥
none_fails text [] reason all fails = fails
none_fails text (t ∷ ts) reason all fails =
    ⊎_elim (λ now. all.0 reason now) (λ (later : Passes text t × FirstFails text ts reason). none_fails text ts reason all.1 later.1) fails

pub no_fault : (method target : List ℕ) (call : Call) (reason : Reason) → IsCall method target call → IsFault method target (Refused reason) → ⊥
no_fault method target call reason is_call is_fault =
    none_fails (query_of target) (tests (row_by (pairs_of (query_of target)) is_call.0) (segments (path_of target))) reason is_call.2.0
    (subst (λ o. IsFaultBy o (segments (path_of target)) (query_of target) (Refused reason)) is_call.1 is_fault)
