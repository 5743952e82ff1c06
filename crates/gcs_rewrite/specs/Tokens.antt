-- The tokens of rewrites (Cloud Storage JSON API, "Objects: rewrite", `rewriteToken`): base64 with the URL-safe alphabet and no
-- padding (RFC 4648, 5).
use Rattle.std.specs.Prelude.{◌≡◌, ◌≤◌, ◌<◌, ◌^◌, ◌==◌, ◌&&◌, not, nat_le, nat_lt, ℕ, Bool, List, [], ◌∷◌, ◌++◌, take_while, decimal, Option, None, Some, if◌then◌else◌, option_and_then}
use Rattle.std.specs.Str.{bytes_eq}
use Rattle.std.specs.Str.Parse.{digits_value}
use Rattle.base64.specs.Engines.{url_safe_no_pad}
use Rattle.base64.specs.GeneralPurpose.{decoded_of, encode_of}
use Rattle.gcs_meaning.specs.declared.rewriting.RewriteToken.{RewriteToken}
use Rattle.gcs_names.specs.Name.{is_bucket_name, IsBucketName, IsObjectName}
use Rattle.gcs_names.specs.ObjectTest.{is_object_name}
use Rattle.gcs_route.specs.Paths.{with_front}

-- ---- lines

-- the bytes in front of the first LF
abbrev pub first_line : List ℕ → List ℕ
first_line = take_while (λ b. not (b == 10))

-- the lines between the LF bytes
abbrev pub lines_of : List ℕ → List (List ℕ)
lines_of [] = [] ∷ []
lines_of (b ∷ bs) = if b == 10 then [] ∷ lines_of bs else with_front b (lines_of bs)

-- these lines, with LF between them
abbrev pub with_ends : List (List ℕ) → List ℕ
with_ends [] = []
with_ends (line ∷ []) = line
with_ends (line ∷ next ∷ lines) = line ++ 10 ∷ with_ends (next ∷ lines)

-- ---- texts

-- the lines of a token: the generation of the source, the bytes that are done, and the names of the source and of the destination
abbrev pub token_lines : RewriteToken → List (List ℕ)
token_lines k = decimal k.generation ∷ decimal k.done ∷ k.from_bucket ∷ k.from_name ∷ k.to_bucket ∷ k.to_name ∷ []

-- the text of a token
abbrev pub rewrite_token : RewriteToken → List ℕ
rewrite_token k = encode_of url_safe_no_pad (with_ends (token_lines k))

-- a rewrite that a token can tell of
pub record HasRewriteToken (k : RewriteToken) : Type 0 where
  pub generation : k.generation < 2 ^ 64
  pub least : 1 ≤ k.done
  pub done : k.done < 2 ^ 64
  pub from_bucket : IsBucketName k.from_bucket
  pub from_name : IsObjectName k.from_name
  pub to_bucket : IsBucketName k.to_bucket
  pub to_name : IsObjectName k.to_name

-- its numbers are in their limits
abbrev pub has_numbers : RewriteToken → Bool
has_numbers k = nat_lt k.generation (2 ^ 64) && (nat_le 1 k.done && nat_lt k.done (2 ^ 64))

-- its names are names
abbrev pub has_names : RewriteToken → Bool
has_names k = (is_bucket_name k.from_bucket && is_object_name k.from_name) && (is_bucket_name k.to_bucket && is_object_name k.to_name)

-- ---- reading

-- what six lines tell
abbrev pub token_in : List (List ℕ) → Option RewriteToken
token_in (generation ∷ done ∷ from_bucket ∷ from_name ∷ to_bucket ∷ to_name ∷ []) = Some record {
  generation = digits_value 10 generation;
  done = digits_value 10 done;
  from_bucket = from_bucket;
  from_name = from_name;
  to_bucket = to_bucket;
  to_name = to_name;
}
token_in _ = None

-- the rewrite, where a token can tell of it and this is the token
abbrev pub token_if : List ℕ → RewriteToken → Option RewriteToken
token_if text k = if (has_numbers k && has_names k) && bytes_eq (rewrite_token k) text then Some k else None

-- the rewrite that this token tells of, where there is one
unfoldable pub rewrite_of_token : List ℕ → Option RewriteToken
rewrite_of_token text = option_and_then (token_if text) (option_and_then (λ bytes. token_in (lines_of bytes)) (decoded_of url_safe_no_pad text))

-- what tokens tell of is what they are written for, and nothing has two tokens
pub record RewriteTokensAreExact : Type 0 where
  pub read : (k : RewriteToken) → HasRewriteToken k → rewrite_of_token (rewrite_token k) ≡ Some k
  pub only : (text : List ℕ) (k : RewriteToken) → rewrite_of_token text ≡ Some k → (rewrite_token k ≡ text) × HasRewriteToken k
