-- The names that buckets and objects may have (Google's Cloud Storage, "Bucket names" and "Object names")
use Rattle.std.specs.Prelude.{◌≡◌, ◌≢◌, ◌↔◌, ℕ, ◌-◌, ◌≤◌, List, length, take, codes, slice_index, bytes_eq, Bool, true, not, ◌&&◌, ◌||◌, ◌==◌, nat_le, All, IsUtf8}
use Rattle.std.specs.List.{list_all}

-- a lower-case letter or a digit
abbrev pub is_letter_or_digit : ℕ → Bool
is_letter_or_digit b = (nat_le 97 b && nat_le b 122) || (nat_le 48 b && nat_le b 57)

-- a byte that a bucket's name may have: a lower-case letter, a digit, `-` or `_`
abbrev pub is_bucket_byte : ℕ → Bool
is_bucket_byte b = is_letter_or_digit b || (b == 45) || (b == 95)

-- a bucket may have this name
pub record IsBucketName (name : List ℕ) : Type 0 where
  pub least : 3 ≤ length name
  pub most : length name ≤ 63
  pub bytes : All (λ b. is_bucket_byte b ≡ true) name
  pub first : is_letter_or_digit (slice_index name 0) ≡ true
  pub last : is_letter_or_digit (slice_index name (length name - 1)) ≡ true
  pub kept_back : take 4 name ≢ codes "goog"

-- the same, as a test
unfoldable pub is_bucket_name : List ℕ → Bool
is_bucket_name name =
    nat_le 3 (length name) && nat_le (length name) 63 && list_all is_bucket_byte name
    && is_letter_or_digit (slice_index name 0) && is_letter_or_digit (slice_index name (length name - 1))
    && not (bytes_eq (take 4 name) (codes "goog"))

-- the test passes exactly where a bucket may have the name
abbrev pub TestIsTheRule : Type 0
TestIsTheRule = (name : List ℕ) → (is_bucket_name name ≡ true) ↔ IsBucketName name

-- LF or CR
abbrev pub is_line_byte : ℕ → Bool
is_line_byte b = (b == 10) || (b == 13)

-- an object may have this name
pub record IsObjectName (name : List ℕ) : Type 0 where
  pub least : 1 ≤ length name
  pub most : length name ≤ 1024
  pub text : IsUtf8 name
  pub one_line : All (λ b. is_line_byte b ≢ true) name
  pub no_dot : name ≢ codes "."
  pub no_dots : name ≢ codes ".."
  pub kept_back : take 27 name ≢ codes ".well-known/acme-challenge/"
