-- The names in a path: as many as its row has places for, each by its rule.
use Rattle.std.proofs.Common.{◌≡◌, ℕ, ◌+◌, Bool, true, false, ◌&&◌, ◌||◌, sym, subst, refl, List, [], ◌∷◌, ◌++◌, length, All, codes, bytes_eq, if◌then◌else◌, arith}
use Rattle.std.proofs.lemmas.Bool.{true≢false}
use Rattle.std.proofs.lemmas.List.Elements.{All-nil, All-cons}
use Rattle.std.proofs.lemmas.Slice.Eq.{bytes_eq-Decides}
use Rattle.percent_encoding.specs.Percent.{percent_decode}
use Rattle.gcs_names.specs.Name.{IsBucketName, IsObjectName}
use Rattle.gcs_meaning.specs.declared.reason.Key.TheVariants.{Bucket, Object}
use Rattle.gcs_meaning.specs.declared.reason.Reason.TheVariants.{Invalid}
use Rattle.gcs_route.specs.Finding.{is_hole, fits}
use Rattle.gcs_route.specs.Refusals.{Test, bucket, object, name_test, name_tests, names_at, AllPass}
use Rattle.gcs_route.proofs.Stable.{sure_bucket, sure_object}

-- how many places for such names a path has
abbrev pub places : List ℕ → List (List ℕ) → ℕ
places hole [] = 0
places hole (p ∷ ps) = if bytes_eq p hole then places hole ps + 1 else places hole ps

right_part : (a b : Bool) → (a && b) ≡ true → b ≡ true
right_part true b e = e
right_part false b e = cc

one_more : (here : Bool) (x : List ℕ) (rest : List (List ℕ)) (n : ℕ) → length rest ≡ n → length ((if here then x ∷ [] else []) ++ rest) ≡ (if here then n + 1 else n)
one_more true x rest n e = omega (arith, e)
one_more false x rest n e = e

-- a path that fits has a name for each place
pub names_counted : (hole : List ℕ) (path segs : List (List ℕ)) → fits path segs ≡ true → length (names_at hole path segs) ≡ places hole path
names_counted hole [] [] e = refl
names_counted hole [] (s ∷ ss) e = refl
names_counted hole (p ∷ ps) [] e = cc
names_counted hole (p ∷ ps) (s ∷ ss) e = one_more (bytes_eq p hole) (percent_decode s) (names_at hole ps ss) (places hole ps) (names_counted hole ps ss (right_part (is_hole p || bytes_eq p s) (fits ps ss) e))

-- the tests of two lists pass each
pub both_pass : (text : List ℕ) (ts us : List Test) → AllPass text (ts ++ us) → AllPass text ts × AllPass text us
both_pass text [] us all = (tt, all)
both_pass text (t ∷ ts) us all = let rest = both_pass text ts us all.1 in ((all.0, rest.0), rest.1)

bucket_here : (text : List ℕ) (is_bucket is_object : Bool) (name : List ℕ) (rest : List (List ℕ)) → AllPass text (if is_bucket then bucket name ∷ [] else if is_object then object name ∷ [] else [])
    → All IsBucketName rest → All IsBucketName ((if is_bucket then name ∷ [] else []) ++ rest)
bucket_here text true is_object name rest pass all = All-cons IsBucketName name rest (sure_bucket name (λ fails. pass.0 (Invalid Bucket) (refl, fails))) all
bucket_here text false is_object name rest pass all = all

-- each bucket's name in a path that passes is by its rule
pub buckets_by_rule : (text : List ℕ) (path segs : List (List ℕ)) → AllPass text (name_tests path segs) → All IsBucketName (names_at (codes "{bucket}") path segs)
buckets_by_rule text [] segs pass = All-nil IsBucketName
buckets_by_rule text (p ∷ ps) [] pass = All-nil IsBucketName
buckets_by_rule text (p ∷ ps) (s ∷ ss) pass =
    let both = both_pass text (name_test p s) (name_tests ps ss) pass in
    bucket_here text (bytes_eq p (codes "{bucket}")) (bytes_eq p (codes "{object}")) (percent_decode s) (names_at (codes "{bucket}") ps ss) both.0 (buckets_by_rule text ps ss both.1)

object_here : (text : List ℕ) (is_bucket is_object : Bool) (name : List ℕ) (rest : List (List ℕ)) → (is_bucket ≡ true → is_object ≡ true → ⊥) → AllPass text (if is_bucket then bucket name ∷ [] else if is_object then object name ∷ [] else [])
    → All IsObjectName rest → All IsObjectName ((if is_object then name ∷ [] else []) ++ rest)
object_here text true true name rest one pass all = absurd (one refl refl)
object_here text true false name rest one pass all = all
object_here text false true name rest one pass all = All-cons IsObjectName name rest (sure_object name (λ fails. pass.0 (Invalid Object) (refl, fails))) all
object_here text false false name rest one pass all = all

-- no piece of a path stands for both
one_kind : (p : List ℕ) → bytes_eq p (codes "{bucket}") ≡ true → bytes_eq p (codes "{object}") ≡ true → ⊥
one_kind p is_bucket is_object =
    let e : p ≡ codes "{bucket}" = (bytes_eq-Decides p (codes "{bucket}")).0 is_bucket in
    let no : bytes_eq (codes "{bucket}") (codes "{object}") ≡ true = subst (λ x. bytes_eq x (codes "{object}") ≡ true) e is_object in
    true≢false (sym no)

-- and each object's name
pub objects_by_rule : (text : List ℕ) (path segs : List (List ℕ)) → AllPass text (name_tests path segs) → All IsObjectName (names_at (codes "{object}") path segs)
objects_by_rule text [] segs pass = All-nil IsObjectName
objects_by_rule text (p ∷ ps) [] pass = All-nil IsObjectName
objects_by_rule text (p ∷ ps) (s ∷ ss) pass =
    let both = both_pass text (name_test p s) (name_tests ps ss) pass in
    object_here text (bytes_eq p (codes "{bucket}")) (bytes_eq p (codes "{object}")) (percent_decode s) (names_at (codes "{object}") ps ss) (one_kind p) both.0 (objects_by_rule text ps ss both.1)
