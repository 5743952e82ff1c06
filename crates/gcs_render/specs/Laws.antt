-- The fields of each resource stand in the byte order of their keys, and no key stands twice.
use Rattle.std.specs.Prelude.{◌≡◌, ℕ, List, [], ◌∷◌, Bool, true, ◌&&◌, map, Option}
use Rattle.std.specs.Cmp.Lexicographic.{slice_cmp}
use Rattle.std.specs.Ordering.{nat_cmp, is_gt}
use Rattle.gcs_meaning.specs.declared.version.Row.{Row}
use Rattle.gcs_meaning.specs.declared.version.BucketRow.{BucketRow}
use Rattle.gcs_meaning.specs.declared.settings.Retention.{Retention}
use Rattle.gcs_meaning.specs.declared.settings.Settings.{Settings}
use Rattle.gcs_meaning.specs.declared.listing.Page.{Page}
use Rattle.gcs_meaning.specs.declared.rewriting.RewriteReply.{RewriteReply}
use Rattle.serde_json.specs.Data.{Data}
use Rattle.gcs_render.specs.Fields.{Field}
use Rattle.gcs_render.specs.Resources.{object_fields, bucket_fields, soft_policy_fields, retention_fields}
use Rattle.gcs_render.specs.Lists.{list_fields, buckets_fields, rewrite_fields}
use Rattle.gcs_render.specs.Refusals.{detail_fields, error_fields}

-- the key is below each of these, in byte order
abbrev pub is_below : List ℕ → List (List ℕ) → Bool
is_below key [] = true
is_below key (other ∷ others) = is_gt (slice_cmp nat_cmp other key) && is_below key others

-- the keys rise in byte order
abbrev pub rise : List (List ℕ) → Bool
rise [] = true
rise (key ∷ keys) = is_below key keys && rise keys

-- the keys of these fields rise
abbrev pub DoRise : List Field → Type 0
DoRise fields = rise (map (λ field. field.0) fields) ≡ true

-- of an object
abbrev pub ObjectFieldsRise : Type 0
ObjectFieldsRise = (bucket : List ℕ) (row : Row) (settings : Settings) → DoRise (object_fields bucket row settings)

-- of a bucket
abbrev pub BucketFieldsRise : Type 0
BucketFieldsRise = (row : BucketRow) → DoRise (bucket_fields row)

-- of a bucket's soft-delete policy
abbrev pub SoftPolicyFieldsRise : Type 0
SoftPolicyFieldsRise = (settings : Settings) → DoRise (soft_policy_fields settings)

-- of its retention policy
abbrev pub RetentionFieldsRise : Type 0
RetentionFieldsRise = (policy : Retention) → DoRise (retention_fields policy)

-- of a page of objects
abbrev pub PageFieldsRise : Type 0
PageFieldsRise = (bucket : List ℕ) (page : Page) → DoRise (list_fields bucket page)

-- of a page of buckets
abbrev pub BucketPageFieldsRise : Type 0
BucketPageFieldsRise = (rows : List BucketRow) (token : Option (List ℕ)) → DoRise (buckets_fields rows token)

-- of a rewrite's answer
abbrev pub RewriteFieldsRise : Type 0
RewriteFieldsRise = (reply : RewriteReply) (resource : Option Data) → DoRise (rewrite_fields reply resource)

-- of an error
abbrev pub ErrorFieldsRise : Type 0
ErrorFieldsRise = (code : ℕ) (message word : List ℕ) → DoRise (error_fields code message word)

-- of an error's detail
abbrev pub DetailFieldsRise : Type 0
DetailFieldsRise = (message word : List ℕ) → DoRise (detail_fields message word)
