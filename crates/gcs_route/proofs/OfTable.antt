-- Each call that a request is, is one of the table.
use Rattle.std.proofs.Common.{◌≡◌, ℕ, Bool, true, false, ◌&&◌, sym, ap, subst, refl, ◌∙◌, List, [], ◌∷◌, map, length, codes, bytes_eq, Some, if◌then◌else◌}
use Rattle.gcs_query.specs.Query.{Pair, pairs_of}
use Rattle.gcs_meaning.specs.declared.reason.Key.TheVariants as key
use Rattle.gcs_route.specs.declared.call.Call.{Call}
use Rattle.gcs_route.specs.declared.call.MaskPart.{MaskPart}
use Rattle.gcs_route.specs.declared.kind.RequestKind.{RequestKind}
use Rattle.gcs_route.specs.declared.kind.RequestKind.TheVariants.{BucketInsert, Upload, UploadPiece}
use Rattle.gcs_route.specs.declared.table.Param.{Param}
use Rattle.gcs_route.specs.declared.table.Param.TheVariants.{UploadId}
use Rattle.gcs_route.specs.Calls.{named, IsCallOf, IsCall}
use Rattle.gcs_route.specs.Filling.{all_filled}
use Rattle.gcs_route.specs.Finding.{fits, is_of, find_row}
use Rattle.gcs_route.specs.Kinds.{row_of, kind_of, is_upload}
use Rattle.gcs_route.specs.OfTable.{buckets_in, objects_in, HasParams, IsOfTable}
use Rattle.gcs_route.specs.Params.{text_at, AllAccepted}
use Rattle.gcs_route.specs.Paths.{segments, path_of, query_of}
use Rattle.gcs_route.specs.Pieces.{is_piece, row_by}
use Rattle.gcs_route.specs.Refusals.{query, param, AllPass, name_tests, mask_tests, value_tests, names_at}
use Rattle.gcs_route.specs.Table.{Row, routes}
use Rattle.gcs_route.proofs.ParamLemmas.{same_names, page_size, needed_generation, needed_metageneration, needed_upload, soft_generation, upload_there, name_by_rule}
use Rattle.gcs_route.proofs.Rows.{same_path}
use Rattle.gcs_route.proofs.PathNames.{places, both_pass, names_counted, buckets_by_rule, objects_by_rule}

-- what holds of a row: its path has the places of its kind, and its parameters leave what its kind has
pub record IsRow (row : Row) : Type 0 where
  pub buckets : places (codes "{bucket}") row.path ≡ buckets_in row.kind
  pub objects : places (codes "{object}") row.path ≡ objects_in row.kind
  pub params : (q : List Pair) (call : Call) (part : MaskPart) → AllAccepted q row.params → HasParams row.kind (record (all_filled q call row.params) { mask = part })

-- each row of a list
infixr 67 ◌▹◌
data AreRows : List Row → Type 0 where
  none : AreRows []
  ◌▹◌ : {r : Row} {rs : List Row} → IsRow r → AreRows rs → AreRows (r ∷ rs)

-- what holds of each row of the table
all_rows : AreRows routes
unfolding routes
all_rows =
    record { buckets = refl; objects = refl; params = λ q call part ok. tt }
    ▹ record { buckets = refl; objects = refl; params = λ q call part ok. page_size q ok.1.0 }
    ▹ record { buckets = refl; objects = refl; params = λ q call part ok. tt }
    ▹ record { buckets = refl; objects = refl; params = λ q call part ok. tt }
    ▹ record { buckets = refl; objects = refl; params = λ q call part ok. tt }
    ▹ record { buckets = refl; objects = refl; params = λ q call part ok. tt }
    ▹ record { buckets = refl; objects = refl; params = λ q call part ok. needed_metageneration q ok.0 }
    ▹ record { buckets = refl; objects = refl; params = λ q call part ok. needed_generation q ok.0 }
    ▹ record { buckets = refl; objects = refl; params = λ q call part ok. page_size q ok.1.1.1.1.1.1.1.0 }
    ▹ record { buckets = refl; objects = refl; params = λ q call part ok soft. soft_generation q ok.1.1.0 soft }
    ▹ record { buckets = refl; objects = refl; params = λ q call part ok. tt }
    ▹ record { buckets = refl; objects = refl; params = λ q call part ok. tt }
    ▹ record { buckets = refl; objects = refl; params = λ q call part ok. tt }
    ▹ record { buckets = refl; objects = refl; params = λ q call part ok. tt }
    ▹ record { buckets = refl; objects = refl; params = λ q call part ok. tt }
    ▹ record { buckets = refl; objects = refl; params = λ q call part ok. tt }
    ▹ record { buckets = refl; objects = refl; params = λ q call part ok. needed_generation q ok.0 }
    ▹ record { buckets = refl; objects = refl; params = λ q call part ok. (upload_there (text_at q key.UploadType), name_by_rule q ok.1.0) }
    ▹ record { buckets = refl; objects = refl; params = λ q call part ok. needed_upload q ok.0 }
    ▹ record { buckets = refl; objects = refl; params = λ q call part ok. needed_upload q ok.0 }
    ▹ record { buckets = refl; objects = refl; params = λ q call part ok. refl }
    ▹ none

fits_of : (f m : Bool) → (f && m) ≡ true → f ≡ true
fits_of true m e = refl
fits_of false m e = cc

found_by : (here : Bool) (r : Row) (rs : List Row) (method : List ℕ) (ss : List (List ℕ)) (row : Row) → is_of r method ss ≡ here → IsRow r
    → (find_row rs method ss ≡ Some row → IsRow row × (fits row.path ss ≡ true))
    → (if here then Some r else find_row rs method ss) ≡ Some row → IsRow row × (fits row.path ss ≡ true)
found_by true r rs method ss row is holds later e =
    let same : r ≡ row = cc in
    (subst IsRow same holds, subst (λ (x : Row). fits x.path ss ≡ true) same (fits_of (fits r.path ss) (bytes_eq r.method method) is))
found_by false r rs method ss row is holds later e = later e

-- a row that a request is of is one of these, and its path fits
found : (rows : List Row) (method : List ℕ) (ss : List (List ℕ)) (row : Row) → AreRows rows → find_row rows method ss ≡ Some row → IsRow row × (fits row.path ss ≡ true)
found [] method ss row none e = cc
found (r ∷ rs) method ss row (holds ▹ others) e = found_by (is_of r method ss) r rs method ss row refl holds (found rs method ss row others) e

-- what holds of the row of uploads holds of that of their pieces
of_uploads : (kind : RequestKind) → is_upload kind ≡ true → kind ≡ Upload
of_uploads Upload e = refl
of_uploads _ e = cc

piece_by : (piece : Bool) (row : Row) → (piece ≡ true → row.kind ≡ Upload) → IsRow row → IsRow (if piece then record row { kind = UploadPiece; params = UploadId ∷ [] } else row)
piece_by true row uploads holds = record {
  buckets = holds.buckets ∙ ap buckets_in (uploads refl);
  objects = holds.objects ∙ ap objects_in (uploads refl);
  params = λ q call part ok. needed_upload q ok.0;
}
piece_by false row uploads holds = holds

row_holds : (q : List Pair) (row : Row) → IsRow row → IsRow (row_by q row)
row_holds q row holds = piece_by (is_piece q row) row (λ piece. of_uploads row.kind (fits_of (is_upload row.kind) _ piece)) holds

-- parameters that pass as tests are accepted
all_accepted : (text : List ℕ) (ps : List Param) → AllPass text (map param ps) → AllAccepted (pairs_of text) ps
all_accepted text [] all = tt
all_accepted text (p ∷ ps) all = (all.0, all_accepted text ps all.1)

-- the kind of a kind's row is that kind
pub kind_of_row : (kind : RequestKind) → kind_of (row_of kind) ≡ kind
unfolding kind_of
kind_of_row BucketInsert = refl
kind_of_row _ = refl

-- a call of a row that holds is one of the table
of_row : (row : Row) (segs : List (List ℕ)) (text : List ℕ) (call : Call) → IsRow row → fits row.path segs ≡ true → IsCallOf row segs text call → IsOfTable call
of_row row segs text call holds fit is =
    let q = pairs_of text in
    let start = named row segs in
    let pass = both_pass text (name_tests row.path segs) (query ∷ value_tests row) is.0 in
    let accepted = all_accepted text row.params (both_pass text (map param row.params) (mask_tests row.masking) pass.1.1).0 in
    let same = same_names q start row.params in
    let row_is : call.row ≡ row_of row.kind = ap (λ (x : Call). x.row) is.3 ∙ same.row in
    let kind_is : kind_of call.row ≡ row.kind = ap kind_of row_is ∙ kind_of_row row.kind in
    let buckets_are : call.buckets ≡ names_at (codes "{bucket}") row.path segs = ap (λ (x : Call). x.buckets) is.3 ∙ same.buckets in
    let objects_are : call.objects ≡ names_at (codes "{object}") row.path segs = ap (λ (x : Call). x.objects) is.3 ∙ same.objects in
    record {
      row = row_is ∙ ap row_of (sym kind_is);
      buckets = ap length buckets_are ∙ names_counted (codes "{bucket}") row.path segs fit ∙ holds.buckets ∙ ap buckets_in (sym kind_is);
      objects = ap length objects_are ∙ names_counted (codes "{object}") row.path segs fit ∙ holds.objects ∙ ap objects_in (sym kind_is);
      bucket_names = rw buckets_are (buckets_by_rule text row.path segs pass.0);
      object_names = rw objects_are (objects_by_rule text row.path segs pass.0);
      params = subst (λ kind. HasParams kind call) (sym kind_is) (subst (HasParams row.kind) (sym is.3) (holds.params q start is.1 accepted));
    }

-- and so is the call that a request is
pub of_table : (method target : List ℕ) (call : Call) → IsCall method target call → IsOfTable call
of_table method target call is =
    let text = query_of target in
    let segs = segments (path_of target) in
    let row = is.0 in
    let at = found routes method segs row all_rows is.1 in
    of_row (row_by (pairs_of text) row) segs text call (row_holds (pairs_of text) row at.0)
    (subst (λ path. fits path segs ≡ true) (sym (same_path (pairs_of text) row)) at.1) is.2
