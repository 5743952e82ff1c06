-- What parameters that are accepted leave in a call.
use Rattle.std.proofs.Common.{if◌then◌else◌, ◌≡◌, ◌≢◌, ℕ, true, false, subst, refl, ◌∙◌, List, [], ◌∷◌, inl, codes, bytes_eq, map, Some, IsSome, arith, Bool}
use Rattle.std.specs.Option.{ForSome}
use Rattle.std.specs.Char.{to_ascii_lowercase}
use Rattle.std.specs.Str.Parse.{digits_value}
use Rattle.std.proofs.lemmas.Slice.Eq.{bytes_eq-Decides}
use Rattle.gcs_names.specs.Name.{IsObjectName}
use Rattle.gcs_query.specs.Query.{Pair}
use Rattle.gcs_meaning.specs.declared.reason.Key.TheVariants as key
use Rattle.gcs_meaning.specs.declared.reason.Reason.TheVariants.{Required, Invalid}
use Rattle.gcs_route.specs.declared.call.Call.{Call}
use Rattle.gcs_route.specs.declared.call.UploadKind.TheVariants.{Media, Multipart, Resumable}
use Rattle.gcs_route.specs.declared.table.Param.{Param}
use Rattle.gcs_route.specs.declared.table.Param.TheVariants.{Alt, GenerationOfGet, Name, MaxResults, NeededGeneration, NeededMetageneration, UploadId}
use Rattle.gcs_route.specs.Params.{text_at, IsNoCount, IsNoName, Accepts}
use Rattle.gcs_route.specs.Filling.{number_of, given, flag_of, upload_of, most_of, filled, all_filled}
use Rattle.gcs_route.specs.OfTable.{IsPageSize}
use Rattle.gcs_route.proofs.Stable.{sure_object}

-- no parameter changes the row or the names of a call
pub record HasSameNames (call other : Call) : Type 0 where
  pub row : call.row ≡ other.row
  pub buckets : call.buckets ≡ other.buckets
  pub objects : call.objects ≡ other.objects

same_by_one : (q : List Pair) (call : Call) (p : Param) → HasSameNames (filled q call p) call
same_by_one q call Alt = record { row = refl; buckets = refl; objects = refl }
same_by_one q call _ = record { row = refl; buckets = refl; objects = refl }

pub same_names : (q : List Pair) (call : Call) (ps : List Param) → HasSameNames (all_filled q call ps) call
same_names q call [] = record { row = refl; buckets = refl; objects = refl }
same_names q call (p ∷ ps) =
    let rest = same_names q (filled q call p) ps in
    let one = same_by_one q call p in
    record { row = rest.row ∙ one.row; buckets = rest.buckets ∙ one.buckets; objects = rest.objects ∙ one.objects }

size_of : (text : List ℕ) → ¬ IsNoCount text → IsPageSize (most_of (number_of text))
size_of [] right = (omega arith, omega arith)
size_of (b ∷ bs) right =
    let some : digits_value 10 (b ∷ bs) ≢ 0 = λ none. right ((λ empty. cc), λ _. none) in
    (omega (arith, some), omega arith)

-- a page has a size
pub page_size : (q : List Pair) → Accepts q MaxResults → IsPageSize (most_of (number_of (text_at q key.MaxResults)))
page_size q accepts = size_of (text_at q key.MaxResults) (λ wrong. accepts (Invalid key.MaxResults) (refl, wrong))

number_there : (text : List ℕ) → text ≢ [] → IsSome (number_of text)
number_there [] some = absurd (some refl)
number_there (b ∷ bs) some = refl

-- a number that is required is there
pub needed_generation : (q : List Pair) → Accepts q NeededGeneration → IsSome (number_of (text_at q key.Generation))
needed_generation q accepts = number_there _ (λ none. accepts (Required key.Generation) (inl (refl, none)))

pub needed_metageneration : (q : List Pair) → Accepts q NeededMetageneration → IsSome (number_of (text_at q key.IfMetagenerationMatch))
needed_metageneration q accepts = number_there _ (λ none. accepts (Required key.IfMetagenerationMatch) (inl (refl, none)))

pub needed_upload : (q : List Pair) → Accepts q UploadId → IsSome (number_of (text_at q key.UploadId))
needed_upload q accepts = number_there _ (λ none. accepts (Required key.UploadId) (inl (refl, none)))

-- so is the generation of a soft-deleted version
pub soft_generation : (q : List Pair) → Accepts q GenerationOfGet → flag_of (text_at q key.SoftDeleted) ≡ true → IsSome (number_of (text_at q key.Generation))
soft_generation q accepts soft =
    let set = (bytes_eq-Decides (map to_ascii_lowercase (text_at q key.SoftDeleted)) (codes "true")).0 soft in
    number_there _ (λ none. accepts (Required key.Generation) (inl (set, (refl, none))))

kind_there : (media multipart : Bool) → IsSome (if media then Some Media else if multipart then Some Multipart else Some Resumable)
kind_there true multipart = refl
kind_there false true = refl
kind_there false false = refl

-- an upload has a way in which it is made
pub upload_there : (text : List ℕ) → IsSome (upload_of text)
upload_there text = kind_there (bytes_eq text (codes "media")) (bytes_eq text (codes "multipart"))

name_of : (text : List ℕ) → ¬ IsNoName text → ForSome (given text) IsObjectName
name_of [] right x is = cc
name_of (b ∷ bs) right x is =
    let same : (b ∷ bs) ≡ x = cc in
    subst IsObjectName same (sure_object (b ∷ bs) (λ fails. right ((λ none. cc), fails)))

-- a name in the query is one by its rule
pub name_by_rule : (q : List Pair) → Accepts q Name → ForSome (given (text_at q key.Name)) IsObjectName
name_by_rule q accepts = name_of (text_at q key.Name) (λ wrong. accepts (Invalid key.Name) (refl, wrong))
