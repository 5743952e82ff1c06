-- The tokens of pages (Cloud Storage JSON API, "Objects: list" and "Buckets: list", `nextPageToken`): base64 with the URL-safe
-- alphabet and no padding (RFC 4648, 5).
use Rattle.std.specs.Prelude.{ℕ, List, ◌++◌, codes, decimal}
use Rattle.base64.specs.Engines.{url_safe_no_pad}
use Rattle.base64.specs.GeneralPurpose.{encode_of}
use Rattle.gcs_meaning.specs.declared.listing.Unit as unit

-- the token of a page of objects: the number of its last unit, a colon and the unit's text
abbrev pub page_token : unit.Unit → List ℕ
page_token u = encode_of url_safe_no_pad (decimal u.number ++ (codes ":" ++ u.text))

-- the token of a page of buckets: its last name
abbrev pub bucket_token : List ℕ → List ℕ
bucket_token name = encode_of url_safe_no_pad name
