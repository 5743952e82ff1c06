-- What tokens of rewrites tell of, and what they are written for.
use Rattle.std.proofs.Common.{◌≡◌, ◌≤◌, ◌<◌, ◌+◌, ◌%◌, ◌∙◌, ℕ, Bool, true, false, sym, ap, refl, List, [], ◌∷◌, ◌++◌, arith, subst, Some, None, Option, lt-ltb, ltb-true, zero, suc}
use Rattle.std.specs.Prelude.{◌^◌, ◌==◌, ◌&&◌, ◌||◌, not, if◌then◌else◌, nat_le, nat_lt, decimal, option_and_then, Ok}
use Rattle.std.specs.List.{list_all, AllByRecursion}
use Rattle.std.specs.Result.{result_ok}
use Rattle.std.specs.Str.{bytes_eq}
use Rattle.std.proofs.lemmas.Bool.{and_from, and_parts, le-leb, leb-true}
use Rattle.std.proofs.lemmas.Bool.Decides.{nat_tests}
use Rattle.std.proofs.lemmas.List.Elements.{All-weaker}
use Rattle.std.proofs.lemmas.List.Sums.{list_all-from_AllPass}
use Rattle.std.proofs.lemmas.Fmt.{decimal_by_steps, decimal_is_IsNumeral}
use Rattle.base64.specs.Engines.{url_safe_no_pad}
use Rattle.base64.specs.GeneralPurpose.{decode_of, decoded_of, IsBytes}
use Rattle.base64.proofs.EngineFacts.{decode_of-encode_of}
use Rattle.gcs_meaning.specs.declared.rewriting.RewriteToken.{RewriteToken}
use Rattle.gcs_names.specs.Name.{is_bucket_byte, is_line_byte, IsBucketName, IsObjectName}
use Rattle.gcs_names.proofs.BucketNames.{is_bucket_name-iff, not-yes}
use Rattle.gcs_names.proofs.ObjectNames.{is_object_name-iff}
use Rattle.gcs_listing.proofs.ByteLemmas.{are_low, AreLow}
use Rattle.gcs_listing.proofs.SeekLemmas.{bytes_eq_from}
use Rattle.gcs_listing.proofs.UnitLemmas.{bytes_same}
use Rattle.gcs_rewrite.specs.Tokens.{has_names, has_numbers, lines_of, rewrite_of_token, rewrite_token, token_if, token_in, token_lines, with_ends, HasRewriteToken, RewriteTokensAreExact}
use Rattle.gcs_rewrite.proofs.Lines.{lines_back, lines_bytes, IsInLine}

-- ---- the lines of a token have no LF

no_end : (m : ℕ) → m < 10 → ((48 + m) == 10) ≡ false
no_end m h = grind (arith, nat_tests)

both_in_line : (xs ys : List ℕ) → IsInLine xs → IsInLine ys → IsInLine (xs ++ ys)
both_in_line [] ys a b = b
both_in_line (x ∷ xs) ys a b = (a.0, both_in_line xs ys a.1 b)

digits_in_line : (n : ℕ) → n < 2 ^ 64 → IsInLine (decimal n)
digits_in_line n small = decimal_by_steps (λ n ds. IsInLine ds) one more n small
  where
    one : (n : ℕ) → n < 10 → IsInLine ((48 + n) ∷ [])
    one n h = ((no_end n h, omega (arith, h)), tt)

    more : (n : ℕ) (ds : List ℕ) → 10 ≤ n → IsInLine ds → IsInLine (ds ++ (48 + n % 10) ∷ [])
    more n ds h before =
        let digit : n % 10 < 10 = omega arith in
        both_in_line ds ((48 + n % 10) ∷ []) before (one (n % 10) digit)

bucket_byte : (b : ℕ) → is_bucket_byte b ≡ true → ((b == 10) ≡ false) × (b < 256)
bucket_byte b h = (grind (arith, nat_tests), grind (arith, nat_tests))

bucket_in_line : (name : List ℕ) → IsBucketName name → IsInLine name
bucket_in_line name is = each name (list_all-from_AllPass is_bucket_byte name is.bytes)
  where
    each : (bs : List ℕ) → list_all is_bucket_byte bs ≡ true → IsInLine bs
    each [] all = tt
    each (b ∷ bs) all = let two = and_parts (is_bucket_byte b) (list_all is_bucket_byte bs) all in (bucket_byte b two.0, each bs two.1)

not_end : (end return : Bool) → not (end || return) ≡ true → end ≡ false
not_end true return h = cc
not_end false return h = refl

object_in_line : (name : List ℕ) → IsObjectName name → IsInLine name
object_in_line name is =
    each name (are_low name is.text)
    (list_all-from_AllPass (λ b. not (is_line_byte b)) name (All-weaker _ _ (λ b passes. not-yes (is_line_byte b) passes) name is.one_line))
  where
    each : (bs : List ℕ) → AreLow bs → list_all (λ b. not (is_line_byte b)) bs ≡ true → IsInLine bs
    each [] low all = tt
    each (b ∷ bs) low all =
        let two = and_parts (not (is_line_byte b)) (list_all (λ b. not (is_line_byte b)) bs) all in
        ((not_end (b == 10) (b == 13) two.0, omega (arith, low.0)), each bs low.1 two.1)

all_in_line : (k : RewriteToken) → HasRewriteToken k → AllByRecursion IsInLine (token_lines k)
all_in_line k has = (
  digits_in_line k.generation has.generation,
  (
    digits_in_line k.done has.done,
    (
      bucket_in_line k.from_bucket has.from_bucket,
      (
        object_in_line k.from_name has.from_name,
        (bucket_in_line k.to_bucket has.to_bucket, (object_in_line k.to_name has.to_name, tt)),
      ),
    ),
  ),
)

-- ---- bytes

bytes_from : (xs : List ℕ) → AllByRecursion (λ b. b < 256) xs → IsBytes xs
bytes_from [] all i = omega arith
bytes_from (x ∷ xs) all zero = all.0
bytes_from (x ∷ xs) all (suc i) = bytes_from xs all.1 i

-- the lines of a token behind its first
abbrev later_lines : RewriteToken → List (List ℕ)
later_lines k = decimal k.done ∷ k.from_bucket ∷ k.from_name ∷ k.to_bucket ∷ k.to_name ∷ []

bytes_in : (k : RewriteToken) → HasRewriteToken k → AllByRecursion (λ b. b < 256) (with_ends (token_lines k))
bytes_in k has = lines_bytes (decimal k.generation) (later_lines k) (all_in_line k has)

cut_back : (k : RewriteToken) → HasRewriteToken k → lines_of (with_ends (token_lines k)) ≡ token_lines k
cut_back k has = lines_back (decimal k.generation) (later_lines k) (all_in_line k has)

decodes : (k : RewriteToken) → HasRewriteToken k → decode_of url_safe_no_pad (rewrite_token k) ≡ Ok (with_ends (token_lines k))
decodes k has = decode_of-encode_of url_safe_no_pad (with_ends (token_lines k)) refl (bytes_from (with_ends (token_lines k)) (bytes_in k has))

-- ---- what a token tells of

told : (k : RewriteToken) → HasRewriteToken k → token_in (token_lines k) ≡ Some k
told k has =
    let generation = (decimal_is_IsNumeral k.generation has.generation).1 in
    let done = (decimal_is_IsNumeral k.done has.done).1 in
    λ i. Some record { generation = generation i; done = done i; from_bucket = k.from_bucket; from_name = k.from_name; to_bucket = k.to_bucket; to_name = k.to_name }

has_yes : (k : RewriteToken) → HasRewriteToken k → (has_numbers k && has_names k) ≡ true
has_yes k has =
    and_from (has_numbers k) (has_names k)
    (and_from (nat_lt k.generation (2 ^ 64)) _ (lt-ltb k.generation (2 ^ 64) has.generation)
    (and_from (nat_le 1 k.done) (nat_lt k.done (2 ^ 64)) (le-leb 1 k.done has.least) (lt-ltb k.done (2 ^ 64) has.done)))
    (and_from _ _
    (and_from _ _ ((is_bucket_name-iff k.from_bucket).1 has.from_bucket) ((is_object_name-iff k.from_name).1 has.from_name))
    (and_from _ _ ((is_bucket_name-iff k.to_bucket).1 has.to_bucket) ((is_object_name-iff k.to_name).1 has.to_name)))

has_from : (k : RewriteToken) → (has_numbers k && has_names k) ≡ true → HasRewriteToken k
has_from k h =
    let all = and_parts (has_numbers k) (has_names k) h in
    let numbers = and_parts (nat_lt k.generation (2 ^ 64)) _ all.0 in
    let done = and_parts (nat_le 1 k.done) (nat_lt k.done (2 ^ 64)) numbers.1 in
    let names = and_parts _ _ all.1 in
    let from = and_parts _ _ names.0 in
    let to = and_parts _ _ names.1 in
    record {
      generation = ltb-true k.generation (2 ^ 64) numbers.0;
      least = leb-true 1 k.done done.0;
      done = ltb-true k.done (2 ^ 64) done.1;
      from_bucket = (is_bucket_name-iff k.from_bucket).0 from.0;
      from_name = (is_object_name-iff k.from_name).0 from.1;
      to_bucket = (is_bucket_name-iff k.to_bucket).0 to.0;
      to_name = (is_object_name-iff k.to_name).0 to.1;
    }

token_read : (k : RewriteToken) → HasRewriteToken k → rewrite_of_token (rewrite_token k) ≡ Some k
unfolding rewrite_of_token decoded_of
token_read k has =
    ap (λ r. option_and_then (token_if (rewrite_token k)) (option_and_then (λ bytes. token_in (lines_of bytes)) (result_ok r))) (decodes k has)
    ∙ ap (λ lines. option_and_then (token_if (rewrite_token k)) (token_in lines)) (cut_back k has)
    ∙ ap (option_and_then (token_if (rewrite_token k))) (told k has)
    ∙ ap (λ (b : Bool). if b then Some k else None) (and_from (has_numbers k && has_names k) _ (has_yes k has) (bytes_eq_from (rewrite_token k) (rewrite_token k) refl))

chosen : {X : Type 0} (test : Bool) (x y : X) → (if test then Some x else None) ≡ Some y → (test ≡ true) × (x ≡ y)
chosen true x y h = (refl, cc)
chosen false x y h = absurd (cc)

token_only : (text : List ℕ) (k : RewriteToken) → rewrite_of_token text ≡ Some k → (rewrite_token k ≡ text) × HasRewriteToken k
unfolding rewrite_of_token
token_only text k h = by (option_and_then (λ bytes. token_in (lines_of bytes)) (decoded_of url_safe_no_pad text)) h
  where
    by : (o : Option RewriteToken) → option_and_then (token_if text) o ≡ Some k → (rewrite_token k ≡ text) × HasRewriteToken k
    by None e = absurd (cc)
    by (Some v) e =
        let got = chosen ((has_numbers v && has_names v) && bytes_eq (rewrite_token v) text) v k e in
        let two = and_parts (has_numbers v && has_names v) (bytes_eq (rewrite_token v) text) got.0 in
        subst (λ w. (rewrite_token w ≡ text) × HasRewriteToken w) got.1 (bytes_same (rewrite_token v) text two.1, has_from v two.0)

pub tokens_are_exact : RewriteTokensAreExact
tokens_are_exact = record { read = token_read; only = token_only }

-- ---- for the reader

-- a rewrite that was read, and is written as it was read
pub read_is : (text : List ℕ) (k : RewriteToken) → HasRewriteToken k → rewrite_token k ≡ text → rewrite_of_token text ≡ Some k
read_is text k has own = subst (λ t. rewrite_of_token t ≡ Some k) own (token_read k has)

-- a token that tells of nothing
pub tells_none : (text : List ℕ) → ((k : RewriteToken) → rewrite_token k ≡ text → HasRewriteToken k → ⊥) → rewrite_of_token text ≡ None
tells_none text none = by (rewrite_of_token text) refl
  where
    by : (o : Option RewriteToken) → rewrite_of_token text ≡ o → rewrite_of_token text ≡ None
    by None e = e
    by (Some k) e = let got = token_only text k e in absurd (none k got.0 got.1)

-- the lines of a token, where it tells of something
pub lines_are : (text bytes : List ℕ) (k : RewriteToken) → decode_of url_safe_no_pad text ≡ Ok bytes → rewrite_token k ≡ text → HasRewriteToken k → lines_of bytes ≡ token_lines k
lines_are text bytes k is own has =
    let there : decode_of url_safe_no_pad text ≡ Ok (with_ends (token_lines k)) = ap (decode_of url_safe_no_pad) (sym own) ∙ decodes k has in
    let both : Ok bytes ≡ Ok (with_ends (token_lines k)) = sym is ∙ there in
    let same : bytes ≡ with_ends (token_lines k) = cc in
    ap lines_of same ∙ cut_back k has

pub decoded_not : (text : List ℕ) → decoded_of url_safe_no_pad text ≡ None → rewrite_of_token text ≡ None
unfolding rewrite_of_token
decoded_not text none = ap (λ o. option_and_then (token_if text) (option_and_then (λ bytes. token_in (lines_of bytes)) o)) none
