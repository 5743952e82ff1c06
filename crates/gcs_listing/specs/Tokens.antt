-- What the tokens of pages name: what they are read as, where that has the token and no other text has.
use Rattle.std.specs.Prelude.{◌≡◌, ◌≤◌, ◌<◌, ◌^◌, ◌==◌, ◌*◌, ◌+◌, ◌-◌, ◌&&◌, nat_le, nat_lt, ℕ, Bool, List, [], ◌∷◌, length, Option, None, Some, if◌then◌else◌, option_and_then, IsUtf8}
use Rattle.std.specs.Str.{bytes_eq, is_utf8}
use Rattle.base64.specs.Engines.{url_safe_no_pad}
use Rattle.base64.specs.GeneralPurpose.{decoded_of}
use Rattle.gcs_meaning.specs.declared.listing.Unit as unit
use Rattle.gcs_meaning.specs.Order.{unit_at}
use Rattle.gcs_meaning.specs.Tokens.{bucket_token, page_token}
use Rattle.gcs_names.specs.Name.{is_bucket_name, IsBucketName}

-- a unit that a token can name
pub record HasToken (u : unit.Unit) : Type 0 where
  pub least : 1 ≤ length u.text
  pub most : length u.text ≤ 1024
  pub text : IsUtf8 u.text
  pub number : u.number < 2 ^ 64

-- the same, as a test
abbrev pub has_token : unit.Unit → Bool
has_token u = nat_le 1 (length u.text) && (nat_le (length u.text) 1024 && (is_utf8 u.text && nat_lt u.number (2 ^ 64)))

-- what stands before the first colon as a number, after n, and what stands behind it
abbrev pub unit_from : ℕ → List ℕ → Option unit.Unit
unit_from n [] = None
unit_from n (b ∷ bs) = if b == 58 then Some (unit_at bs n) else unit_from (n * 10 + (b - 48)) bs

-- the unit, where a token can name it and this is the token
abbrev pub unit_if : List ℕ → unit.Unit → Option unit.Unit
unit_if token u = if has_token u && bytes_eq (page_token u) token then Some u else None

-- the unit that has this token, where one has
unfoldable pub unit_of_token : List ℕ → Option unit.Unit
unit_of_token token = option_and_then (unit_if token) (option_and_then (unit_from 0) (decoded_of url_safe_no_pad token))

-- the name, where a bucket may have it and this is the token
abbrev pub name_if : List ℕ → List ℕ → Option (List ℕ)
name_if token name = if is_bucket_name name && bytes_eq (bucket_token name) token then Some name else None

-- the bucket's name that has this token, where one has
unfoldable pub bucket_of_token : List ℕ → Option (List ℕ)
bucket_of_token token = option_and_then (name_if token) (decoded_of url_safe_no_pad token)

-- what tokens name is what they are written for, and nothing has two tokens
pub record TokensAreExact : Type 0 where
  pub read : (u : unit.Unit) → HasToken u → unit_of_token (page_token u) ≡ Some u
  pub only : (token : List ℕ) (u : unit.Unit) → unit_of_token token ≡ Some u → (page_token u ≡ token) × HasToken u
  pub read_bucket : (name : List ℕ) → IsBucketName name → bucket_of_token (bucket_token name) ≡ Some name
  pub only_bucket : (token name : List ℕ) → bucket_of_token token ≡ Some name → (bucket_token name ≡ token) × IsBucketName name
