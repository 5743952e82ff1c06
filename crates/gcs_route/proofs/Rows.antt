-- The tests of a row: names, query, parameters, mask.
use Rattle.std.proofs.Common.{if◌then◌else◌, ◌≡◌, ℕ, Bool, true, false, List, [], ◌∷◌, codes, map, inl, inr, ⊎_elim, Option, Some, None, subst, sym, ap, refl, ◌∙◌}
use Rattle.gcs_query.specs.Query.{Pair, pairs_of}
use Rattle.gcs_meaning.specs.declared.reason.Reason.{Reason}
use Rattle.gcs_route.specs.declared.fault.RouteFault.{RouteFault}
use Rattle.gcs_route.specs.declared.fault.RouteFault.TheVariants.{Refused, NoMemory}
use Rattle.gcs_route.specs.declared.kind.RequestKind.TheVariants.{UploadPiece}
use Rattle.gcs_route.specs.declared.table.Param.{Param}
use Rattle.gcs_route.specs.declared.table.Param.TheVariants.{UploadId}
use Rattle.gcs_route.specs.declared.call.Call.{Call}
use Rattle.gcs_route.specs.declared.call.MaskPart.{MaskPart}
use Rattle.gcs_route.specs.declared.call.MaskPart.TheVariants.{Absent, Is, Fault}
use Rattle.gcs_route.specs.declared.table.Masking.{Masking}
use Rattle.gcs_route.specs.declared.table.Masking.TheVariants.{Unread, Tested, Kept}
use Rattle.gcs_fields.specs.Views.{mask_of}
use Rattle.gcs_route.specs.Masks.{IsMaskPart, IsMaskFault}
use Rattle.gcs_route.specs.Table.{Row, routes}
use Rattle.gcs_route.specs.Paths.{segments, path_of, query_of}
use Rattle.gcs_route.specs.Finding.{find_row}
use Rattle.gcs_route.specs.Kinds.{row_of}
use Rattle.gcs_route.specs.Calls.{blank, named, IsCallOf, IsCall, IsFaultBy}
use Rattle.gcs_route.specs.Params.{Accepts, AllAccepted, FirstRefuses, IsFirstFaultOf}
use Rattle.gcs_route.specs.Filling.{all_filled}
use Rattle.gcs_route.specs.Pieces.{is_piece, row_by}
use Rattle.gcs_route.specs.Refusals.{query, param, Passes, AllPass, FirstFails, IsFirstFault, name_tests, names_at, mask_tests, value_tests, tests, AlwaysPass, IsAlwaysFirstFault}
use Rattle.gcs_route.proofs.Firsts.{AllPass-append, IsFirstFault-front, IsFirstFault-rest}

-- parameters that are accepted pass as tests
params_pass : (text : List ℕ) (ps : List Param) → AllAccepted (pairs_of text) ps → AllPass text (map param ps)
params_pass text [] h = tt
params_pass text (p ∷ ps) h = (h.0, params_pass text ps h.1)

params_first : (text : List ℕ) (ps : List Param) (r : Reason) → FirstRefuses (pairs_of text) ps r → FirstFails text (map param ps) r
params_first text [] r h = absurd h
params_first text (p ∷ ps) r h =
    ⊎_elim (λ now. inl now) (λ (later : Accepts (pairs_of text) p × FirstRefuses (pairs_of text) ps r). inr (later.0, params_first text ps r later.1)) h

params_fault : (text : List ℕ) (ps : List Param) (f : RouteFault) → IsFirstFaultOf (pairs_of text) ps f → IsFirstFault text (map param ps) f
params_fault text ps (Refused r) h = params_first text ps r h
params_fault text ps NoMemory h = tt

unread_tested : Unread ≡ Tested → ⊥
unread_tested e = cc

kept_tested : Kept ≡ Tested → ⊥
kept_tested e = cc

-- a name is refused
pub refused_name : (row : Row) (segs : List (List ℕ)) (text : List ℕ) (f : RouteFault) → IsAlwaysFirstFault (name_tests row.path segs) f → IsFirstFault text (tests row segs) f
refused_name row segs text f h = IsFirstFault-front text (name_tests row.path segs) (query ∷ value_tests row) f (h text)

-- the query is refused
pub refused_query : (row : Row) (segs : List (List ℕ)) (text : List ℕ) (f : RouteFault) → AlwaysPass (name_tests row.path segs) → IsFirstFault text (query ∷ []) f → IsFirstFault text (tests row segs) f
refused_query row segs text f names h =
    IsFirstFault-rest text (name_tests row.path segs) (query ∷ value_tests row) f (names text) (IsFirstFault-front text (query ∷ []) (value_tests row) f h)

-- a parameter or the mask is refused
refused_value : (row : Row) (segs : List (List ℕ)) (text : List ℕ) (f : RouteFault) → AlwaysPass (name_tests row.path segs) → Passes text query
    → IsFirstFault text (value_tests row) f → IsFirstFault text (tests row segs) f
refused_value row segs text f names is_text h =
    IsFirstFault-rest text (name_tests row.path segs) (query ∷ value_tests row) f (names text)
    (IsFirstFault-rest text (query ∷ []) (value_tests row) f (is_text, tt) h)

-- a parameter of these pairs is refused
pub refused_param : (row : Row) (segs : List (List ℕ)) (text : List ℕ) (f : RouteFault) (pairs : List Pair) → pairs ≡ pairs_of text → AlwaysPass (name_tests row.path segs) → Passes text query
    → IsFirstFaultOf pairs row.params f → IsFirstFault text (tests row segs) f
refused_param row segs text f pairs p names is_text h =
    refused_value row segs text f names is_text
    (IsFirstFault-front text (map param row.params) (mask_tests row.masking) f
    (params_fault text row.params f (subst (λ x. IsFirstFaultOf x row.params f) p h)))

-- a mask that is refused is so as a test
mask_fault : (text : List ℕ) (masking : Masking) (f : RouteFault) → IsMaskFault (pairs_of text) masking f → IsFirstFault text (mask_tests masking) f
mask_fault text Unread (Refused r) h = absurd (unread_tested h.0)
mask_fault text Tested (Refused r) h = inl h.1
mask_fault text Kept (Refused r) h = absurd (kept_tested h.0)
mask_fault text masking NoMemory h = tt

-- the mask of these pairs is refused
pub refused_mask : (row : Row) (segs : List (List ℕ)) (text : List ℕ) (f : RouteFault) (pairs : List Pair) → pairs ≡ pairs_of text → AlwaysPass (name_tests row.path segs) → Passes text query
    → AllAccepted pairs row.params → IsMaskFault pairs row.masking f → IsFirstFault text (tests row segs) f
refused_mask row segs text f pairs p names is_text accepted h =
    refused_value row segs text f names is_text
    (IsFirstFault-rest text (map param row.params) (mask_tests row.masking) f
    (params_pass text row.params (subst (λ x. AllAccepted x row.params) p accepted))
    (mask_fault text row.masking f (subst (λ x. IsMaskFault x row.masking f) p h)))

-- a mask of a row that tests it passes
mask_passes : (text : List ℕ) (masking : Masking) (part : MaskPart) → IsMaskPart (pairs_of text) masking part → AllPass text (mask_tests masking)
mask_passes text Unread part h = tt
mask_passes text Kept part h = tt
mask_passes text Tested Absent h = (λ reason bad. ⊎_elim (λ (unread : Tested ≡ Unread). unread_tested (sym unread)) (λ none. bad.2.0 none) h, tt)
mask_passes text Tested (Is mask) h = (λ reason bad. bad.2.2 (mask_of mask) h.2 h.3, tt)
mask_passes text Tested (Fault place) h = absurd (kept_tested (sym h.0))

-- all tests pass
all_pass : (row : Row) (segs : List (List ℕ)) (text : List ℕ) (part : MaskPart) → AlwaysPass (name_tests row.path segs) → Passes text query
    → AllAccepted (pairs_of text) row.params → IsMaskPart (pairs_of text) row.masking part → AllPass text (tests row segs)
all_pass row segs text part names is_text accepted masked =
    AllPass-append text (name_tests row.path segs) (query ∷ value_tests row) (names text) (
      is_text,
      AllPass-append text (map param row.params) (mask_tests row.masking) (params_pass text row.params accepted) (mask_passes text row.masking part masked),
    )

-- a call by its parts: the names, the parameters and the mask of these pairs
pub is_call_of : (row : Row) (segs : List (List ℕ)) (text : List ℕ) (start call : Call) (part : MaskPart) (pairs : List Pair) → pairs ≡ pairs_of text
    → start ≡ named row segs → AlwaysPass (name_tests row.path segs) → Passes text query
    → AllAccepted pairs row.params → call ≡ all_filled pairs start row.params → IsMaskPart pairs row.masking part → IsCallOf row segs text (record call { mask = part })
is_call_of row segs text start call part pairs p s names is_text accepted f m =
    let masked = subst (λ x. IsMaskPart x row.masking part) p m in (
      all_pass row segs text part names is_text (subst (λ x. AllAccepted x row.params) p accepted) masked,
      part,
      masked,
      ap (λ (x : Call). record x { mask = part }) (f ∙ ap (λ x. all_filled pairs x row.params) s ∙ ap (λ x. all_filled x (named row segs) row.params) p),
    )

-- the call of a request by its row
pub is_call : (method target : List ℕ) (row : Row) (segs : List (List ℕ)) (text : List ℕ) (call : Call) → segs ≡ segments (path_of target) → text ≡ query_of target
    → find_row routes method segs ≡ Some row → IsCallOf (row_by (pairs_of text) row) segs text call → IsCall method target call
is_call method target row segs text call s q f h = (
  row,
  subst (λ x. find_row routes method x ≡ Some row) s f,
  subst (λ x. IsCallOf (row_by (pairs_of (query_of target)) row) x (query_of target) call) s (subst (λ x. IsCallOf (row_by (pairs_of x) row) segs x call) q h),
)

-- want of memory is a fault whatever the row
pub no_memory : (o : Option Row) (segs : List (List ℕ)) (text : List ℕ) → IsFaultBy o segs text NoMemory
no_memory None segs text = tt
no_memory (Some row) segs text = tt

-- a request's query leaves the path of its row
pub same_path : (pairs : List Pair) (row : Row) → (row_by pairs row).path ≡ row.path
same_path pairs row = path_by (is_piece pairs row)
  where
    path_by : (piece : Bool) → (if piece then record row { kind = UploadPiece; params = UploadId ∷ [] } else row).path ≡ row.path
    path_by true = refl
    path_by false = refl

-- the row by these pairs is the row by the query
pub by_query : (row by : Row) (text : List ℕ) (pairs : List Pair) → pairs ≡ pairs_of text → by ≡ row_by pairs row → by ≡ row_by (pairs_of text) row
by_query row by text pairs p b = b ∙ ap (λ x. row_by x row) p

-- its names pass where those of the path do
pub names_by : (row by : Row) (segs : List (List ℕ)) (pairs : List Pair) → by ≡ row_by pairs row → AlwaysPass (name_tests row.path segs) → AlwaysPass (name_tests by.path segs)
names_by row by segs pairs b names = subst (λ path. AlwaysPass (name_tests path segs)) (sym (ap (λ (x : Row). x.path) b ∙ same_path pairs row)) names

-- its call has the names of the path
pub named_by : (row by : Row) (segs : List (List ℕ)) (pairs : List Pair) (start : Call) → by ≡ row_by pairs row
    → start ≡ blank (row_of by.kind) (names_at (codes "{bucket}") row.path segs) (names_at (codes "{object}") row.path segs) → start ≡ named by segs
named_by row by segs pairs start b is =
    is ∙ ap (λ path. blank (row_of by.kind) (names_at (codes "{bucket}") path segs) (names_at (codes "{object}") path segs)) (sym (ap (λ (x : Row). x.path) b ∙ same_path pairs row))

-- a call of the row by these pairs is one of the row by the query
pub call_by_query : (row by : Row) (segs : List (List ℕ)) (text : List ℕ) (call : Call) → by ≡ row_by (pairs_of text) row → IsCallOf by segs text call → IsCallOf (row_by (pairs_of text) row) segs text call
call_by_query row by segs text call b h = subst (λ x. IsCallOf x segs text call) b h
