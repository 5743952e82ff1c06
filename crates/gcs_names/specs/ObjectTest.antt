-- The rule for an object's name, as a test (Google's Cloud Storage, "Object names").
use Rattle.std.specs.Prelude.{◌≡◌, ◌↔◌, ℕ, List, length, take, codes, bytes_eq, Bool, true, not, ◌&&◌, nat_le}
use Rattle.std.specs.List.{list_all}
use Rattle.std.specs.Str.{is_utf8}
use Rattle.gcs_names.specs.Name.{is_line_byte, IsObjectName}

-- the text is neither a dot nor two, and does not begin as those by which a certificate authority tests who has a host
abbrev pub is_free : List ℕ → Bool
is_free name =
    not (bytes_eq name (codes ".")) && not (bytes_eq name (codes "..")) && not (bytes_eq (take 27 name) (codes ".well-known/acme-challenge/"))

-- an object may have this name
unfoldable pub is_object_name : List ℕ → Bool
is_object_name name =
    nat_le 1 (length name) && nat_le (length name) 1024 && is_utf8 name && list_all (λ b. not (is_line_byte b)) name && is_free name

-- the test passes exactly where an object may have the name
abbrev pub ObjectTestIsTheRule : Type 0
ObjectTestIsTheRule = (name : List ℕ) → (is_object_name name ≡ true) ↔ IsObjectName name
