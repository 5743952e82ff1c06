-- What replies show has no float, so that its compact text is known.
use Rattle.std.proofs.Common.{◌≡◌, ℕ, List, [], ◌∷◌, ◌++◌, Bool, true, false, ◌||◌, Option, Some, None, option_map, option_and_then, Ordering, Less, Equal, Greater, nat_cmp, map, refl, if◌then◌else◌}
use Rattle.std.proofs.lemmas.Bool.{or_parts}
use Rattle.std.specs.Cmp.Lexicographic.{slice_cmp}
use Rattle.std.specs.Option.{ForSome}
use Rattle.std.specs.Ordering.{match_ordering}
use Rattle.gcs_meaning.specs.declared.settings.Retention.{Retention}
use Rattle.gcs_meaning.specs.declared.settings.Settings.{Settings}
use Rattle.gcs_meaning.specs.declared.listing.Page.{Page}
use Rattle.gcs_meaning.specs.declared.rewriting.RewriteReply.{RewriteReply}
use Rattle.gcs_meaning.specs.declared.version.BucketRow.{BucketRow}
use Rattle.gcs_meaning.specs.declared.version.Row.{Row}
use Rattle.serde_json.specs.Data.{Data, string, Members, no_members, member, put}
use Rattle.serde_json.specs.Read.{read}
use Rattle.serde_json.specs.View.{view, items_of}
use Rattle.serde_json.specs.declared.value.Value.{Value}
use Rattle.serde_json.specs.Written.{has_float, items_have_float, members_have_float}
use Rattle.gcs_render.specs.Fields.{Field, put_where, with_fields, object_of, text_if, count_if, where_true, time_if, with_pairs, pairs_if, array_if}
use Rattle.gcs_render.specs.Lists.{object_list, list_fields, list_data, bucket_list, buckets_fields, buckets_data, rewrite_fields, rewrite_data, where_done}
use Rattle.gcs_meaning.specs.Tokens.{page_token}
use Rattle.gcs_render.specs.Resources.{noncurrent_since, soft_since, hard_time, retention_end, object_from_bucket, object_from_crc, object_from_kind, object_from_soft, object_fields, object_data, retention_if, versioning_if, if_whole, whole_value, bucket_fields, bucket_data}

-- ---- members

-- whether the value of a field has a float, where the field stands
abbrev value_has_float : Option Data → Bool
value_has_float None = false
value_has_float (Some value) = has_float value

-- whether the value of some field has one
abbrev fields_have_float : List Field → Bool
fields_have_float [] = false
fields_have_float (field ∷ fields) = value_has_float field.1 || fields_have_float fields

-- two tables without a float make one without
fields_have_float-append : (xs ys : List Field) → fields_have_float xs ≡ false → fields_have_float ys ≡ false → fields_have_float (xs ++ ys) ≡ false
fields_have_float-append [] ys whole more = more
fields_have_float-append (field ∷ xs) ys whole more =
    let parts = or_parts (value_has_float field.1) (fields_have_float xs) whole in
    rw (parts.0, fields_have_float-append xs ys parts.1 more)

-- one of three lists of members has no float where none has
chosen-whole : (order : Ordering) (a b c : Members) → members_have_float a ≡ false → members_have_float b ≡ false → members_have_float c ≡ false
    → members_have_float (match_ordering order a b c) ≡ false
chosen-whole Less a b c less equal greater = less
chosen-whole Equal a b c less equal greater = equal
chosen-whole Greater a b c less equal greater = greater

-- a value without a float brings none into the members
put-whole : (key : List ℕ) (value : Data) (before : Members) → has_float value ≡ false → members_have_float before ≡ false → members_have_float (put key value before) ≡ false
put-whole key value no_members whole held = rw whole
put-whole key value (member other first rest) whole held =
    let parts = or_parts (has_float first) (members_have_float rest) held in
    chosen-whole (slice_cmp nat_cmp key other) _ _ _ (rw (whole, held)) (rw (whole, parts.1)) (rw (parts.0, put-whole key value rest whole parts.1))

-- the same, where there may be no value
put_where-whole : (key : List ℕ) (value : Option Data) (before : Members) → value_has_float value ≡ false → members_have_float before ≡ false → members_have_float (put_where key value before) ≡ false
put_where-whole key None before whole held = held
put_where-whole key (Some value) before whole held = put-whole key value before whole held

-- nor do fields without one
with_fields-whole : (fields : List Field) (before : Members) → fields_have_float fields ≡ false → members_have_float before ≡ false → members_have_float (with_fields fields before) ≡ false
with_fields-whole [] before whole held = held
with_fields-whole (field ∷ fields) before whole held =
    let parts = or_parts (value_has_float field.1) (fields_have_float fields) whole in
    with_fields-whole fields _ parts.1 (put_where-whole field.0 field.1 before parts.0 held)

-- an object whose fields have no float has none
object_of-whole : (fields : List Field) → fields_have_float fields ≡ false → has_float (object_of fields) ≡ false
object_of-whole fields whole = with_fields-whole fields no_members whole refl

-- texts bring none
with_pairs-whole : (pairs : List (List ℕ × List ℕ)) (before : Members) → members_have_float before ≡ false → members_have_float (with_pairs pairs before) ≡ false
with_pairs-whole [] before held = held
with_pairs-whole (pair ∷ pairs) before held = with_pairs-whole pairs _ (put-whole pair.0 (string pair.1) before refl held)

-- ---- values of fields: what each word of Fields.antt makes has no float

text_if-whole : (bytes : Option (List ℕ)) → value_has_float (text_if bytes) ≡ false
text_if-whole None = refl
text_if-whole (Some bytes) = refl

count_if-whole : (n : Option ℕ) → value_has_float (count_if n) ≡ false
count_if-whole None = refl
count_if-whole (Some n) = refl

where_true-whole : (value : Bool) → value_has_float (where_true value) ≡ false
where_true-whole false = refl
where_true-whole true = refl

time_if-whole : (moment : Option ℕ) → value_has_float (time_if moment) ≡ false
time_if-whole None = refl
time_if-whole (Some moment) = refl

pairs_if-whole : (pairs : List (List ℕ × List ℕ)) → value_has_float (pairs_if pairs) ≡ false
pairs_if-whole [] = refl
pairs_if-whole (pair ∷ pairs) = with_pairs-whole (pair ∷ pairs) no_members refl

array_if-whole : (values : List Data) → items_have_float (items_of values) ≡ false → value_has_float (array_if values) ≡ false
array_if-whole [] whole = refl
array_if-whole (value ∷ values) whole = whole

retention_if-whole : (policy : Option Retention) → value_has_float (retention_if policy) ≡ false
retention_if-whole None = refl
retention_if-whole (Some policy) = refl

versioning_if-whole : (versioned : Bool) → value_has_float (versioning_if versioned) ≡ false
versioning_if-whole false = refl
versioning_if-whole true = refl

-- a value that may be absent has none where what is there has none
some-whole : (value : Option Data) → ForSome value (λ d. has_float d ≡ false) → value_has_float value ≡ false
some-whole None whole = refl
some-whole (Some value) whole = whole value refl

-- ---- objects, by the groups of their fields

from_bucket-whole : (bucket : List ℕ) (row : Row) → fields_have_float (object_from_bucket bucket row) ≡ false
from_bucket-whole bucket row =
    rw (
      text_if-whole row.meta.cache_control,
      count_if-whole row.components,
      text_if-whole row.meta.content_disposition,
      text_if-whole row.meta.content_encoding,
      text_if-whole row.meta.content_language,
    )

from_crc-whole : (bucket : List ℕ) (row : Row) → fields_have_float (object_from_crc bucket row) ≡ false
from_crc-whole bucket row = rw (time_if-whole row.meta.custom_time, where_true-whole _, time_if-whole (hard_time row.kind))

from_kind-whole : (row : Row) (settings : Settings) → fields_have_float (object_from_kind row settings) ≡ false
from_kind-whole row settings = rw (text_if-whole _, pairs_if-whole row.meta.custom, time_if-whole (retention_end row settings))

from_soft-whole : (row : Row) (settings : Settings) → fields_have_float (object_from_soft row settings) ≡ false
from_soft-whole row settings =
    rw (time_if-whole (soft_since row.kind), where_true-whole row.meta.temporary_hold, time_if-whole (noncurrent_since row.kind))

-- the resource of an object has no float
pub object_data-whole : (bucket : List ℕ) (row : Row) (settings : Settings) → has_float (object_data bucket row settings) ≡ false
unfolding object_data
object_data-whole bucket row settings =
    let first = object_from_bucket bucket row ++ object_from_crc bucket row in
    let first_whole = fields_have_float-append (object_from_bucket bucket row) (object_from_crc bucket row) (from_bucket-whole bucket row) (from_crc-whole bucket row) in
    let more = first ++ object_from_kind row settings in
    let more_whole = fields_have_float-append first (object_from_kind row settings) first_whole (from_kind-whole row settings) in
    let all_whole = fields_have_float-append more (object_from_soft row settings) more_whole (from_soft-whole row settings) in
    object_of-whole (object_fields bucket row settings) all_whole

-- ---- buckets

value-whole : (value : Data) (b : Bool) → has_float value ≡ b → value_has_float (if b then None else Some value) ≡ false
value-whole value true is = refl
value-whole value false is = is

if_whole-whole : (value : Option Data) → value_has_float (option_and_then if_whole value) ≡ false
if_whole-whole None = refl
if_whole-whole (Some value) = value-whole value (has_float value) refl

lifecycle-whole : (text : Option (List ℕ)) → value_has_float (option_and_then whole_value text) ≡ false
lifecycle-whole None = refl
lifecycle-whole (Some text) = if_whole-whole (read text)

bucket_fields-whole : (row : BucketRow) → fields_have_float (bucket_fields row) ≡ false
bucket_fields-whole row =
    rw (
      where_true-whole row.settings.default_event_hold,
      pairs_if-whole row.settings.labels,
      lifecycle-whole row.settings.lifecycle,
      retention_if-whole row.settings.retention,
      versioning_if-whole row.settings.versioned,
    )

-- the resource of a bucket has no float
pub bucket_data-whole : (row : BucketRow) → has_float (bucket_data row) ≡ false
unfolding bucket_data
bucket_data-whole row = object_of-whole (bucket_fields row) (bucket_fields-whole row)

-- ---- lists and rewrites

-- nor have the resources of several versions
object_list-whole : (bucket : List ℕ) (rows : List Row) (settings : Settings) → items_have_float (items_of (object_list bucket rows settings)) ≡ false
object_list-whole bucket [] settings = refl
object_list-whole bucket (row ∷ rows) settings = rw (object_data-whole bucket row settings, object_list-whole bucket rows settings)

-- nor has a list of texts
texts-whole : (texts : List (List ℕ)) → items_have_float (items_of (map string texts)) ≡ false
texts-whole [] = refl
texts-whole (text ∷ texts) = texts-whole texts

-- a page of a listing has no float
pub list_data-whole : (bucket : List ℕ) (page : Page) → has_float (list_data bucket page) ≡ false
list_data-whole bucket page =
    let items = array_if-whole (object_list bucket page.items page.settings) (object_list-whole bucket page.items page.settings) in
    let prefixes = array_if-whole (map string page.prefixes) (texts-whole page.prefixes) in
    object_of-whole (list_fields bucket page) (rw (items, text_if-whole (option_map page_token page.next), prefixes))

-- nor have the resources of several buckets
bucket_list-whole : (rows : List BucketRow) → items_have_float (items_of (bucket_list rows)) ≡ false
bucket_list-whole [] = refl
bucket_list-whole (row ∷ rows) = rw (bucket_data-whole row, bucket_list-whole rows)

-- a page of the list of buckets has no float
pub buckets_data-whole : (rows : List BucketRow) (token : Option (List ℕ)) → has_float (buckets_data rows token) ≡ false
buckets_data-whole rows token =
    object_of-whole (buckets_fields rows token) (rw (array_if-whole (bucket_list rows) (bucket_list-whole rows), text_if-whole token))

-- a resource that is shown where a rewrite is done has no float where it has none
where_done-whole : (token : Option (List ℕ)) (resource : Option Data) → ForSome resource (λ d. has_float d ≡ false) → value_has_float (where_done token resource) ≡ false
where_done-whole None resource whole = some-whole resource whole
where_done-whole (Some token) resource whole = refl

-- a rewrite's answer has no float where its resource has none
pub rewrite_data-whole : (reply : RewriteReply) (resource : Option Data) → ForSome resource (λ d. has_float d ≡ false) → has_float (rewrite_data reply resource) ≡ false
rewrite_data-whole reply resource whole = object_of-whole (rewrite_fields reply resource) (rw (where_done-whole reply.token resource whole, text_if-whole reply.token))

-- what a clause says of a value that is handed in holds of its data
pub shown-whole : (resource : Option Value) → ForSome resource (λ shown. has_float (view shown) ≡ false) → ForSome (option_map view resource) (λ d. has_float d ≡ false)
shown-whole None whole d is = cc
shown-whole (Some value) whole d is = let same : view value ≡ d = cc in rw (← same) (whole value refl)
