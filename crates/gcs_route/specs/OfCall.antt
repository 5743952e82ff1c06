-- Which request a call is, and the names that stand in its path.
use Rattle.std.specs.Prelude.{ℕ, ◌<◌, ◌-◌, List, [], ◌∷◌, length, slice_get, unwrap_or}
use Rattle.gcs_route.specs.declared.call.Call.{Call}
use Rattle.gcs_route.specs.declared.kind.RequestKind.{RequestKind}
use Rattle.gcs_route.specs.Kinds.{kind_of}

-- the request that a call is
abbrev pub request_kind : Call → RequestKind
request_kind call = kind_of call.row

-- the first of these names, and an empty one where there is none
abbrev pub first_of : List (List ℕ) → List ℕ
first_of [] = []
first_of (name ∷ _) = name

-- the last of these names, and an empty one where there is none
abbrev pub last_of : List (List ℕ) → List ℕ
last_of names = unwrap_or (slice_get names (length names - 1)) []

-- the first bucket of the path
abbrev pub first_bucket : Call → List ℕ
first_bucket call = first_of call.buckets

-- the first object of the path
abbrev pub first_object : Call → List ℕ
first_object call = first_of call.objects

-- the last bucket of the path: of a copy that of its destination
abbrev pub last_bucket : Call → List ℕ
last_bucket call = last_of call.buckets

-- the last object of the path: of a copy its destination
abbrev pub last_object : Call → List ℕ
last_object call = last_of call.objects

-- the path names a bucket
abbrev pub NamesBucket : Call → Type 0
NamesBucket call = 0 < length call.buckets

-- the path names an object in a bucket
pub record NamesObject (call : Call) : Type 0 where
  pub bucket : NamesBucket call
  pub object : 0 < length call.objects
