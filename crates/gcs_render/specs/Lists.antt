-- Lists of resources (Cloud Storage JSON API, "Objects: list" and "Buckets: list"), and a rewrite's answer ("Objects: rewrite"). The fields
-- of each stand in the byte order of their keys.
use Rattle.std.specs.Prelude.{ℕ, List, [], ◌∷◌, ◌++◌, not, Option, Some, None, option_map, is_some, map, codes}
use Rattle.gcs_meaning.specs.declared.version.Row.{Row}
use Rattle.gcs_meaning.specs.declared.version.BucketRow.{BucketRow}
use Rattle.gcs_meaning.specs.declared.listing.Page.{Page}
use Rattle.gcs_meaning.specs.declared.rewriting.RewriteReply.{RewriteReply}
use Rattle.gcs_meaning.specs.declared.settings.Settings.{Settings}
use Rattle.serde_json.specs.Data.{Data, string}
use Rattle.gcs_render.specs.Fields.{Field, object_of, text, text_if, long, truth, array_if}
use Rattle.gcs_render.specs.Resources.{object_data, bucket_data}
use Rattle.gcs_meaning.specs.Tokens.{page_token}

-- the resources of these versions
abbrev pub object_list : List ℕ → List Row → Settings → List Data
object_list bucket rows settings = map (λ row. object_data bucket row settings) rows

-- a page of a listing: its items and its prefixes where it has some, and a token where more is left
abbrev pub list_fields : List ℕ → Page → List Field
list_fields bucket page =
    (codes "items", array_if (object_list bucket page.items page.settings))
    ∷ (codes "kind", text (codes "storage#objects"))
    ∷ (codes "nextPageToken", text_if (option_map page_token page.next))
    ∷ (codes "prefixes", array_if (map string page.prefixes))
    ∷ []

-- the same as a value
abbrev pub list_data : List ℕ → Page → Data
list_data bucket page = object_of (list_fields bucket page)

-- the resources of these buckets
abbrev pub bucket_list : List BucketRow → List Data
bucket_list rows = map (λ row. bucket_data row) rows

-- a page of the list of buckets
abbrev pub buckets_fields : List BucketRow → Option (List ℕ) → List Field
buckets_fields rows token =
    (codes "items", array_if (bucket_list rows))
    ∷ (codes "kind", text (codes "storage#buckets"))
    ∷ (codes "nextPageToken", text_if token)
    ∷ []

-- the same as a value
abbrev pub buckets_data : List BucketRow → Option (List ℕ) → Data
buckets_data rows token = object_of (buckets_fields rows token)

-- what stands where a rewrite is done, and not where it has a token to go on with
abbrev pub where_done : Option (List ℕ) → Option Data → Option Data
where_done None resource = resource
where_done (Some token) resource = None

-- a rewrite's answer up to the resource: it is done where it has no token
abbrev pub rewrite_start : RewriteReply → List Field
rewrite_start reply =
    (codes "done", truth (not (is_some reply.token)))
    ∷ (codes "kind", text (codes "storage#rewriteResponse"))
    ∷ (codes "objectSize", long reply.size)
    ∷ []

-- and behind the resource
abbrev pub rewrite_end : RewriteReply → List Field
rewrite_end reply =
    (codes "rewriteToken", text_if reply.token)
    ∷ (codes "totalBytesRewritten", long reply.rewritten)
    ∷ []

-- all of it: only where it is done it shows a resource
abbrev pub rewrite_fields : RewriteReply → Option Data → List Field
rewrite_fields reply resource = rewrite_start reply ++ (codes "resource", where_done reply.token resource) ∷ rewrite_end reply

-- the same as a value
abbrev pub rewrite_data : RewriteReply → Option Data → Data
rewrite_data reply resource = object_of (rewrite_fields reply resource)

-- the resource of a version with its bucket's settings, where there is one
abbrev pub version_data : List ℕ → Option (Row × Settings) → Option Data
version_data bucket version = option_map (λ v. object_data bucket v.0 v.1) version
