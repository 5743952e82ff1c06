-- The refusals of a request, as a list of tests: the first that fails tells the reason.
use Rattle.std.specs.Prelude.{◌≡◌, ℕ, List, [], ◌∷◌, ◌++◌, ◌⊎◌, map, codes, bytes_eq, if◌then◌else◌}
use Rattle.gcs_names.specs.Name.{IsBucketName, IsObjectName}
use Rattle.gcs_query.specs.Query.{pairs_of, IsFirstBad}
use Rattle.percent_encoding.specs.Percent.{percent_decode}
use Rattle.gcs_meaning.specs.declared.reason.Key.{Key}
use Rattle.gcs_meaning.specs.declared.reason.Key.TheVariants.{Bucket, Object, Query}
use Rattle.gcs_meaning.specs.declared.reason.Reason.{Reason}
use Rattle.gcs_meaning.specs.declared.reason.Reason.TheVariants.{Invalid}
use Rattle.gcs_route.specs.declared.fault.RouteFault.{RouteFault}
use Rattle.gcs_route.specs.declared.fault.RouteFault.TheVariants.{Refused, NoMemory}
use Rattle.gcs_route.specs.declared.table.Masking.{Masking}
use Rattle.gcs_route.specs.declared.table.Masking.TheVariants.{Unread, Tested, Kept}
use Rattle.gcs_route.specs.declared.table.Param.{Param}
use Rattle.gcs_route.specs.Table.{Row}
use Rattle.gcs_route.specs.Params.{Refuses}
use Rattle.gcs_route.specs.Masks.{RefusesMask}

-- a test: of a bucket's name, of an object's name, of the query's text, of a parameter, of the mask
pub data Test : Type 0 where
  bucket : List ℕ → Test
  object : List ℕ → Test
  query : Test
  param : Param → Test
  mask : Test

-- the test of a piece of the row's path and the segment that stands there
abbrev pub name_test : List ℕ → List ℕ → List Test
name_test p s =
    if bytes_eq p (codes "{bucket}") then bucket (percent_decode s) ∷ []
    else if bytes_eq p (codes "{object}") then object (percent_decode s) ∷ []
    else []

-- the names in the order of the path
abbrev pub name_tests : List (List ℕ) → List (List ℕ) → List Test
name_tests [] ss = []
name_tests (p ∷ ps) [] = []
name_tests (p ∷ ps) (s ∷ ss) = name_test p s ++ name_tests ps ss

-- the test of the mask, where the row has it
abbrev pub mask_tests : Masking → List Test
mask_tests Unread = []
mask_tests Tested = mask ∷ []
mask_tests Kept = []

-- the parameters in the order of the row, and the mask
abbrev pub value_tests : Row → List Test
value_tests row = map param row.params ++ mask_tests row.masking

-- all tests of a row, in their order
abbrev pub tests : Row → List (List ℕ) → List Test
tests row segments = name_tests row.path segments ++ query ∷ value_tests row

-- the test of a request with this query fails for that reason
abbrev pub Fails : List ℕ → Test → Reason → Type 0
Fails text (bucket name) reason = (reason ≡ Invalid Bucket) × ¬ IsBucketName name
Fails text (object name) reason = (reason ≡ Invalid Object) × ¬ IsObjectName name
Fails text query reason = (reason ≡ Invalid Query) × ((n : ℕ) × IsFirstBad text n)
Fails text (param p) reason = Refuses (pairs_of text) p reason
Fails text mask reason = RefusesMask (pairs_of text) reason

abbrev pub Passes : List ℕ → Test → Type 0
Passes text test = (reason : Reason) → Fails text test reason → ⊥

abbrev pub AllPass : List ℕ → List Test → Type 0
AllPass text [] = Unit {0}
AllPass text (t ∷ ts) = Passes text t × AllPass text ts

-- the first test that fails does so for that reason
abbrev pub FirstFails : List ℕ → List Test → Reason → Type 0
FirstFails text [] reason = ⊥
FirstFails text (t ∷ ts) reason = Fails text t reason ⊎ (Passes text t × FirstFails text ts reason)

-- a fault of the first test that fails: its reason, or want of memory
abbrev pub IsFirstFault : List ℕ → List Test → RouteFault → Type 0
IsFirstFault text ts (Refused r) = FirstFails text ts r
IsFirstFault text ts NoMemory = Unit {0}

-- a fault of a name: that it is none, or want of memory
abbrev pub IsNameFault : Type 0 → Key → RouteFault → Type 0
IsNameFault Is key (Refused r) = (r ≡ Invalid key) × ¬ Is
IsNameFault Is key NoMemory = Unit {0}

-- the name that a segment is, where the piece of the row's path stands for such a name
abbrev pub name_at : List ℕ → List ℕ → List ℕ → List (List ℕ)
name_at hole p s = if bytes_eq p hole then percent_decode s ∷ [] else []

-- the names that stand in a path for this piece of the row
abbrev pub names_at : List ℕ → List (List ℕ) → List (List ℕ) → List (List ℕ)
names_at hole [] ss = []
names_at hole (p ∷ ps) [] = []
names_at hole (p ∷ ps) (s ∷ ss) = name_at hole p s ++ names_at hole ps ss

-- whatever the query is, these tests pass
abbrev pub AlwaysPass : List Test → Type 0
AlwaysPass ts = (text : List ℕ) → AllPass text ts

-- whatever the query is, it is a fault of the first test that fails
abbrev pub IsAlwaysFirstFault : List Test → RouteFault → Type 0
IsAlwaysFirstFault ts fault = (text : List ℕ) → IsFirstFault text ts fault
