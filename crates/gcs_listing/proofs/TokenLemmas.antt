-- What tokens name, and what they are written for.
use Rattle.std.proofs.Common.{◌≡◌, ◌≤◌, ◌<◌, ◌+◌, ◌-◌, ◌*◌, ◌/◌, ◌%◌, ◌∙◌, ℕ, zero, suc, Bool, true, false, sym, ap, refl, cond, List, [], ◌∷◌, ◌++◌, length, take, drop, arith, subst, Some, None, Option, append_assoc, length-append, IsUtf8, lt-ltb, ltb-true}
use Rattle.std.specs.Prelude.{◌^◌, ◌==◌, ◌&&◌, not, if◌then◌else◌, nat_le, nat_lt, decimal, option_and_then, Result, Ok, Err}
use Rattle.std.specs.List.{after_first, before_first, list_all, position_or_len, prefix_len, AllByRecursion}
use Rattle.std.specs.Result.{result_ok}
use Rattle.std.specs.Str.{bytes_eq, is_utf8, IsAscii}
use Rattle.std.proofs.lemmas.Bool.{and_from, and_parts, le-leb, leb-true}
use Rattle.std.proofs.lemmas.Bool.Decides.{nat_tests}
use Rattle.std.proofs.lemmas.List.Sums.{list_all-from_AllPass}
use Rattle.std.proofs.lemmas.Fmt.{decimal_by_steps, parse-decimal, IsAscii-decimal}
use Rattle.std.specs.Str.Parse.{ParsesUnsigned}
use Rattle.std.proofs.lemmas.Str.{IsUtf8-append, IsUtf8-from_ascii, IsUtf8-from_is_utf8, is_utf8-from_IsUtf8}
use Rattle.base64.specs.Engines.{url_safe_no_pad}
use Rattle.base64.specs.GeneralPurpose.{decode_of, decoded_of, IsBytes}
use Rattle.base64.specs.declared.decode.DecodeError.{DecodeError}
use Rattle.base64.proofs.EngineFacts.{decode_of-encode_of}
use Rattle.gcs_meaning.specs.declared.listing.Unit as unit
use Rattle.gcs_meaning.specs.Order.{unit_at}
use Rattle.gcs_meaning.specs.Tokens.{bucket_token, page_token}
use Rattle.gcs_names.specs.Name.{is_bucket_byte, is_bucket_name, IsBucketName}
use Rattle.gcs_names.proofs.BucketNames.{is_bucket_name-iff}
use Rattle.gcs_listing.specs.Tokens.{bucket_of_token, has_token, name_if, unit_from, unit_if, unit_of_token, HasToken, TokensAreExact}
use Rattle.gcs_listing.proofs.ByteLemmas.{are_low, AreLow}
use Rattle.gcs_listing.proofs.SeekLemmas.{bytes_eq_from}
use Rattle.gcs_listing.proofs.UnitLemmas.{bytes_same}

-- what a unit's token encodes
abbrev pub spelled : unit.Unit → List ℕ
spelled u = decimal u.number ++ 58 ∷ u.text

-- ---- digits
no_colon : (m : ℕ) → m < 10 → ((48 + m) == 58) ≡ false
no_colon m h = grind (arith, nat_tests)

reads : (n : ℕ) → n < 2 ^ 64 → (t : List ℕ) → unit_from 0 (decimal n ++ t) ≡ unit_from n t
reads n small = decimal_by_steps (λ n ds. (t : List ℕ) → unit_from 0 (ds ++ t) ≡ unit_from n t) one more n small
  where
    one : (n : ℕ) → n < 10 → (t : List ℕ) → unit_from 0 ((48 + n) ∷ t) ≡ unit_from n t
    one n h t =
        let sum : 0 * 10 + (48 + n - 48) ≡ n = omega arith in
        ap (λ (b : Bool). if b then Some (unit_at t 0) else unit_from (0 * 10 + (48 + n - 48)) t) (no_colon n h) ∙ ap (λ m. unit_from m t) sum

    more : (n : ℕ) (ds : List ℕ) → 10 ≤ n → ((t : List ℕ) → unit_from 0 (ds ++ t) ≡ unit_from (n / 10) t) → (t : List ℕ) → unit_from 0 ((ds ++ (48 + n % 10) ∷ []) ++ t) ≡ unit_from n t
    more n ds h before t =
        let digit : n % 10 < 10 = omega arith in
        let sum : n / 10 * 10 + (48 + n % 10 - 48) ≡ n = omega arith in
        ap (unit_from 0) (append_assoc ds ((48 + n % 10) ∷ []) t)
        ∙ before ((48 + n % 10) ∷ t)
        ∙ ap (λ (b : Bool). if b then Some (unit_at t (n / 10)) else unit_from (n / 10 * 10 + (48 + n % 10 - 48)) t) (no_colon (n % 10) digit)
        ∙ ap (λ m. unit_from m t) sum

abbrev pub ArePlain : List ℕ → Type 0
ArePlain ds = AllByRecursion (λ b. ((b == 58) ≡ false) × (b < 256)) ds

plain_append : (xs ys : List ℕ) → ArePlain xs → ArePlain ys → ArePlain (xs ++ ys)
plain_append [] ys a b = b
plain_append (x ∷ xs) ys a b = (a.0, plain_append xs ys a.1 b)

-- no digit is a colon
pub digits_plain : (n : ℕ) → n < 2 ^ 64 → ArePlain (decimal n)
digits_plain n small = decimal_by_steps (λ n ds. ArePlain ds) one more n small
  where
    one : (n : ℕ) → n < 10 → ArePlain ((48 + n) ∷ [])
    one n h = ((no_colon n h, omega (arith, h)), tt)

    more : (n : ℕ) (ds : List ℕ) → 10 ≤ n → ArePlain ds → ArePlain (ds ++ (48 + n % 10) ∷ [])
    more n ds h before =
        let digit : n % 10 < 10 = omega arith in
        plain_append ds ((48 + n % 10) ∷ []) before (one (n % 10) digit)

-- ---- the first colon
pub colon_at : (ds t : List ℕ) → ArePlain ds → position_or_len (λ b. b == 58) (ds ++ 58 ∷ t) ≡ length ds
colon_at [] t all = refl
colon_at (d ∷ ds) t all =
    let rest : position_or_len (λ b. b == 58) (ds ++ 58 ∷ t) ≡ length ds = colon_at ds t all.1 in
    let here : position_or_len (λ b. b == 58) (d ∷ (ds ++ 58 ∷ t)) ≡ 1 + position_or_len (λ b. b == 58) (ds ++ 58 ∷ t) =
    ap (λ (x : Bool). cond (not x) (1 + prefix_len (λ b. not (b == 58)) (ds ++ 58 ∷ t)) 0) all.0.0 in
    omega (arith, here, rest)

pub front_is : (ds t : List ℕ) → take (length ds) (ds ++ t) ≡ ds
front_is [] t = refl
front_is (d ∷ ds) t = ap (λ l. d ∷ l) (front_is ds t)

pub back_is : (ds t : List ℕ) → drop (length ds + 1) (ds ++ 58 ∷ t) ≡ t
back_is ds t = let e : length ds + 1 ≡ suc (length ds) = omega arith in ap (λ n. drop n (ds ++ 58 ∷ t)) e ∙ by ds
  where
    by : (xs : List ℕ) → drop (suc (length xs)) (xs ++ 58 ∷ t) ≡ t
    by [] = refl
    by (x ∷ xs) = by xs

-- ---- bytes
bytes_from : (xs : List ℕ) → AllByRecursion (λ b. b < 256) xs → IsBytes xs
bytes_from [] all i = omega arith
bytes_from (x ∷ xs) all zero = all.0
bytes_from (x ∷ xs) all (suc i) = bytes_from xs all.1 i

spelled_bytes : (u : unit.Unit) → HasToken u → IsBytes (spelled u)
spelled_bytes u has = bytes_from (spelled u) (join (decimal u.number) (digits_plain u.number has.number))
  where
    text : (xs : List ℕ) → AreLow xs → AllByRecursion (λ b. b < 256) xs
    text [] all = tt
    text (x ∷ xs) all = (omega (arith, all.0), text xs all.1)

    join : (xs : List ℕ) → ArePlain xs → AllByRecursion (λ b. b < 256) (xs ++ 58 ∷ u.text)
    join [] all = (omega arith, text u.text (are_low u.text has.text))
    join (x ∷ xs) all = (all.0.1, join xs all.1)

pub decodes : (u : unit.Unit) → HasToken u → decode_of url_safe_no_pad (page_token u) ≡ Ok (spelled u)
decodes u has = decode_of-encode_of url_safe_no_pad (spelled u) refl (spelled_bytes u has)

-- ---- what a token names
pub has_yes : (u : unit.Unit) → HasToken u → has_token u ≡ true
has_yes u has =
    and_from (nat_le 1 (length u.text)) _ (le-leb 1 (length u.text) has.least)
    (and_from (nat_le (length u.text) 1024) _ (le-leb (length u.text) 1024 has.most)
    (and_from (is_utf8 u.text) (nat_lt u.number (2 ^ 64)) (is_utf8-from_IsUtf8 u.text has.text) (lt-ltb u.number (2 ^ 64) has.number)))

pub has_from : (u : unit.Unit) → has_token u ≡ true → HasToken u
has_from u h =
    let a = and_parts (nat_le 1 (length u.text)) _ h in
    let b = and_parts (nat_le (length u.text) 1024) _ a.1 in
    let d = and_parts (is_utf8 u.text) (nat_lt u.number (2 ^ 64)) b.1 in
    record { least = leb-true 1 (length u.text) a.0; most = leb-true (length u.text) 1024 b.0; text = IsUtf8-from_is_utf8 u.text d.0; number = ltb-true u.number (2 ^ 64) d.1 }

pub token_read : (u : unit.Unit) → HasToken u → unit_of_token (page_token u) ≡ Some u
unfolding unit_of_token decoded_of
token_read u has =
    ap (λ r. option_and_then (unit_if (page_token u)) (option_and_then (unit_from 0) (result_ok r))) (decodes u has)
    ∙ ap (option_and_then (unit_if (page_token u))) (reads u.number has.number (58 ∷ u.text))
    ∙ ap (λ (b : Bool). if b then Some u else None) (and_from (has_token u) (bytes_eq (page_token u) (page_token u)) (has_yes u has) (bytes_eq_from (page_token u) (page_token u) refl))

chosen : {X : Type 0} (test : Bool) (x y : X) → (if test then Some x else None) ≡ Some y → (test ≡ true) × (x ≡ y)
chosen true x y h = (refl, cc)
chosen false x y h = absurd (cc)

pub token_only : (token : List ℕ) (u : unit.Unit) → unit_of_token token ≡ Some u → (page_token u ≡ token) × HasToken u
unfolding unit_of_token
token_only token u h = by (option_and_then (unit_from 0) (decoded_of url_safe_no_pad token)) h
  where
    by : (o : Option unit.Unit) → option_and_then (unit_if token) o ≡ Some u → (page_token u ≡ token) × HasToken u
    by None e = absurd (cc)
    by (Some v) e =
        let got = chosen (has_token v && bytes_eq (page_token v) token) v u e in
        let both = and_parts (has_token v) (bytes_eq (page_token v) token) got.0 in
        subst (λ w. (page_token w ≡ token) × HasToken w) got.1 (bytes_same (page_token v) token both.1, has_from v both.0)

-- a token that names nothing
pub names_none : (token : List ℕ) → ((u : unit.Unit) → page_token u ≡ token → HasToken u → ⊥) → unit_of_token token ≡ None
names_none token none = by (unit_of_token token) refl
  where
    by : (o : Option unit.Unit) → unit_of_token token ≡ o → unit_of_token token ≡ None
    by None e = e
    by (Some u) e = let got = token_only token u e in absurd (none u got.0 got.1)

-- what a token is decoded to, where it names something
pub decoded_is : (token bytes : List ℕ) (u : unit.Unit) → decode_of url_safe_no_pad token ≡ Ok bytes → page_token u ≡ token → HasToken u → bytes ≡ spelled u
decoded_is token bytes u is own has =
    let there : decode_of url_safe_no_pad token ≡ Ok (spelled u) = ap (decode_of url_safe_no_pad) (sym own) ∙ decodes u has in
    let both : Ok bytes ≡ Ok (spelled u) = sym is ∙ there in
    cc

pub decoded_not : (token : List ℕ) → decoded_of url_safe_no_pad token ≡ None → unit_of_token token ≡ None
unfolding unit_of_token
decoded_not token none = ap (λ o. option_and_then (unit_if token) (option_and_then (unit_from 0) o)) none

pub decoded_failed : (token : List ℕ) (fault : DecodeError) → decode_of url_safe_no_pad token ≡ Err fault → decoded_of url_safe_no_pad token ≡ None
unfolding decoded_of
decoded_failed token fault failed = ap result_ok failed

-- ---- the parts round the first colon
colon_ascii : IsAscii (58 ∷ [])
colon_ascii zero = omega arith
colon_ascii (suc i) = omega arith

pub spelled_utf8 : (n : ℕ) (t : List ℕ) → n < 2 ^ 64 → IsUtf8 t → IsUtf8 (decimal n ++ 58 ∷ t)
spelled_utf8 n t small is =
    IsUtf8-append (decimal n) (58 ∷ t) (IsUtf8-from_ascii (decimal n) (IsAscii-decimal n small)) (IsUtf8-append (58 ∷ []) t (IsUtf8-from_ascii (58 ∷ []) colon_ascii) is)

pub colon_there : {X : Type 0} (s : List ℕ) (n : ℕ) (t : List ℕ) → n < 2 ^ 64 → s ≡ decimal n ++ 58 ∷ t → position_or_len (λ b. b == 58) s ≡ length s → X
colon_there s n t small same end =
    let at : position_or_len (λ b. b == 58) s ≡ length (decimal n) = ap (position_or_len (λ b. b == 58)) same ∙ colon_at (decimal n) t (digits_plain n small) in
    let all : length s ≡ length (decimal n) + length (58 ∷ t) = ap length same ∙ length-append (decimal n) (58 ∷ t) in
    absurd (omega (arith, at, all, end))

pub front_of : (s front : List ℕ) (n : ℕ) (t : List ℕ) → n < 2 ^ 64 → s ≡ decimal n ++ 58 ∷ t → front ≡ before_first (λ b. b == 58) s → front ≡ decimal n
front_of s front n t small same is =
    is ∙ ap (before_first (λ b. b == 58)) same ∙ ap (λ m. take m (decimal n ++ 58 ∷ t)) (colon_at (decimal n) t (digits_plain n small)) ∙ front_is (decimal n) (58 ∷ t)

pub back_of : (s back : List ℕ) (n : ℕ) (t : List ℕ) → n < 2 ^ 64 → s ≡ decimal n ++ 58 ∷ t → back ≡ after_first (λ b. b == 58) s → back ≡ t
back_of s back n t small same is =
    is ∙ ap (after_first (λ b. b == 58)) same ∙ ap (λ m. drop (m + 1) (decimal n ++ 58 ∷ t)) (colon_at (decimal n) t (digits_plain n small)) ∙ back_is (decimal n) t

pub parsed : (E : Type 0) (n m : ℕ) (ds : List ℕ) → n < 2 ^ 64 → ds ≡ decimal n → ParsesUnsigned {E = E} 64 10 ds (Ok m) → m ≡ n
parsed E n m ds small e p = let both : ◌≡◌ {A = Result ℕ E} (Ok m) (Ok n) = parse-decimal 64 n ds (Ok m) small small e p in cc

pub not_failed : {X : Type 0} (E : Type 0) (n : ℕ) (ds : List ℕ) (error : E) → n < 2 ^ 64 → ds ≡ decimal n → ParsesUnsigned {E = E} 64 10 ds (Err error) → X
not_failed E n ds error small e p = let both : ◌≡◌ {A = Result ℕ E} (Err error) (Ok n) = parse-decimal 64 n ds (Err error) small small e p in absurd (cc)

-- a unit that was read, and is written as it was read
pub read_is : (token : List ℕ) (u : unit.Unit) → HasToken u → page_token u ≡ token → unit_of_token token ≡ Some u
read_is token u has own = subst (λ t. unit_of_token t ≡ Some u) own (token_read u has)

pub has_of : (u : unit.Unit) → (nat_le 1 (length u.text) && nat_le (length u.text) 1024) ≡ true → IsUtf8 u.text → u.number < 2 ^ 64 → HasToken u
has_of u size text number =
    let both = and_parts (nat_le 1 (length u.text)) (nat_le (length u.text) 1024) size in
    record { least = leb-true 1 (length u.text) both.0; most = leb-true (length u.text) 1024 both.1; text = text; number = number }

pub fits_has : (u : unit.Unit) → HasToken u → (nat_le 1 (length u.text) && nat_le (length u.text) 1024) ≡ true
fits_has u has = and_from (nat_le 1 (length u.text)) (nat_le (length u.text) 1024) (le-leb 1 (length u.text) has.least) (le-leb (length u.text) 1024 has.most)

-- ---- buckets
byte_small : (b : ℕ) → is_bucket_byte b ≡ true → b < 256
byte_small b h = grind (arith, nat_tests)

names_bytes : (name : List ℕ) → list_all is_bucket_byte name ≡ true → AllByRecursion (λ b. b < 256) name
names_bytes [] h = tt
names_bytes (b ∷ name) h = let both = and_parts (is_bucket_byte b) (list_all is_bucket_byte name) h in (byte_small b both.0, names_bytes name both.1)

pub bucket_read : (name : List ℕ) → IsBucketName name → bucket_of_token (bucket_token name) ≡ Some name
unfolding bucket_of_token decoded_of
bucket_read name is =
    let bytes : IsBytes name = bytes_from name (names_bytes name (list_all-from_AllPass is_bucket_byte name is.bytes)) in
    ap (λ r. option_and_then (name_if (bucket_token name)) (result_ok r)) (decode_of-encode_of url_safe_no_pad name refl bytes)
    ∙ ap (λ (b : Bool). if b then Some name else None) (and_from (is_bucket_name name) (bytes_eq (bucket_token name) (bucket_token name)) ((is_bucket_name-iff name).1 is) (bytes_eq_from (bucket_token name) (bucket_token name) refl))

pub bucket_only : (token name : List ℕ) → bucket_of_token token ≡ Some name → (bucket_token name ≡ token) × IsBucketName name
unfolding bucket_of_token
bucket_only token name h = by (decoded_of url_safe_no_pad token) h
  where
    by : (o : Option (List ℕ)) → option_and_then (name_if token) o ≡ Some name → (bucket_token name ≡ token) × IsBucketName name
    by None e = absurd (cc)
    by (Some v) e =
        let got = chosen (is_bucket_name v && bytes_eq (bucket_token v) token) v name e in
        let both = and_parts (is_bucket_name v) (bytes_eq (bucket_token v) token) got.0 in
        subst (λ w. (bucket_token w ≡ token) × IsBucketName w) got.1 (bytes_same (bucket_token v) token both.1, (is_bucket_name-iff v).0 both.0)

pub bucket_is : (token name : List ℕ) → IsBucketName name → bucket_token name ≡ token → bucket_of_token token ≡ Some name
bucket_is token name is own = subst (λ t. bucket_of_token t ≡ Some name) own (bucket_read name is)

pub bucket_not : (token : List ℕ) → decoded_of url_safe_no_pad token ≡ None → bucket_of_token token ≡ None
unfolding bucket_of_token
bucket_not token none = ap (option_and_then (name_if token)) none

-- bytes that are no name
pub bucket_no_name : (token bytes : List ℕ) → decode_of url_safe_no_pad token ≡ Ok bytes → (IsBucketName bytes → ⊥) → bucket_of_token token ≡ None
unfolding bucket_of_token decoded_of
bucket_no_name token bytes is none = ap (λ r. option_and_then (name_if token) (result_ok r)) is ∙ by (is_bucket_name bytes) refl
  where
    by : (t : Bool) → is_bucket_name bytes ≡ t → name_if token bytes ≡ None
    by true e = absurd (none ((is_bucket_name-iff bytes).0 e))
    by false e = ap (λ (s : Bool). if s && bytes_eq (bucket_token bytes) token then Some bytes else None) e

pub tokens_are_exact : TokensAreExact
tokens_are_exact = record { read = token_read; only = token_only; read_bucket = bucket_read; only_bucket = bucket_only }
