-- A content type names the boundary that is read of it.
use Rattle.std.proofs.Common.{◌≡◌, ◌∙◌, ℕ, ◌-◌, ◌++◌, ◌∷◌, ◌==◌, Bool, true, false, List, [], length, get_or, take, drop, map, codes, Option, Some, None, refl, ap, sym, arith, ◌⊎◌, inl, inr}
use Rattle.std.specs.Prelude.{◌&&◌, ◌||◌, not, nat_le, nat_lt, slice_index, option_and_then, if◌then◌else◌}
use Rattle.std.specs.Char.{to_ascii_lowercase}
use Rattle.std.specs.List.{list_all}
use Rattle.std.proofs.lemmas.Bool.{false≢true}
use Rattle.std.proofs.lemmas.List.{length-map, take-append-drop, take-map, take-take, take_at, drop_at}
use Rattle.std.proofs.lemmas.Slice.Eq.{bytes_eq-Decides}
use Rattle.gcs_multipart.specs.Delimiter.{IsBoundary}
use Rattle.std.specs.Str.{str_eq_ignore_ascii_case}
use Rattle.gcs_multipart.specs.Parameters.{ended, read}
use Rattle.gcs_multipart.specs.ContentType.{is_boundary_byte, is_boundary, is_type, behind_type, checked, boundary_of, print_items, IsBoundaryText}
use Rattle.gcs_multipart.proofs.ParameterItems.{Items}
use Rattle.gcs_multipart.proofs.ParametersTold.{told}
use Rattle.gcs_multipart.proofs.ParametersRead.{reads}

first-of : (a b : Bool) → (a && b) ≡ true → a ≡ true
first-of true b e = refl
first-of false b e = absurd (false≢true e)

last-of : (a b : Bool) → (a && b) ≡ true → b ≡ true
last-of true b e = e
last-of false b e = absurd (false≢true e)

-- ---- a boundary has no CR

return-none : is_boundary_byte 13 ≡ false
unfolding is_boundary_byte
return-none = refl

no-returns : (text : List ℕ) → list_all is_boundary_byte text ≡ true → IsBoundary text
no-returns [] e = tt
no-returns (x ∷ text) e = (
  (λ (h : x ≡ 13). false≢true (sym return-none ∙ ap is_boundary_byte (sym h) ∙ first-of (is_boundary_byte x) (list_all is_boundary_byte text) e)),
  no-returns text (last-of (is_boundary_byte x) (list_all is_boundary_byte text) e),
)

pub boundary_fits : (text : List ℕ) → is_boundary text ≡ true → IsBoundary text
unfolding is_boundary
boundary_fits text e =
    let ends = not (slice_index text (length text - 1) == 32) in
    let bytes = list_all is_boundary_byte text in
    no-returns text (last-of ends bytes (last-of (nat_le (length text) 70) (ends && bytes) (last-of (nat_lt 0 (length text)) (nat_le (length text) 70 && (ends && bytes)) e)))

-- ---- the type

-- the same words are of one length
same_length : (a b : List ℕ) → str_eq_ignore_ascii_case a b ≡ true → length a ≡ length b
same_length a b e =
    sym (length-map a to_ascii_lowercase) ∙ ap length ((bytes_eq-Decides (map to_ascii_lowercase a) (map to_ascii_lowercase b)).0 e) ∙ length-map b to_ascii_lowercase

-- a type, and what stands behind it
record IsTyped (text rest : List ℕ) : Type 0 where
  kind : List ℕ
  spelled : text ≡ kind ++ rest
  is : is_type kind ≡ true

or_right : (a b : Bool) → b ≡ true → (a || b) ≡ true
or_right true b e = refl
or_right false b e = e

typed_by : (text rest : List ℕ) (s t : Bool) → str_eq_ignore_ascii_case (take 17 text) (codes "multipart/related") ≡ s → str_eq_ignore_ascii_case (take 15 text) (codes "multipart/mixed") ≡ t
    → (if s then Some (drop 17 text) else (if t then Some (drop 15 text) else None)) ≡ Some rest → IsTyped text rest
typed_by text rest true t p q e =
    let same : drop 17 text ≡ rest = cc in
    record { kind = take 17 text; spelled = sym (take-append-drop 17 text) ∙ ap (λ (u : List ℕ). take 17 text ++ u) same; is = ap (λ (u : Bool). u || str_eq_ignore_ascii_case (take 17 text) (codes "multipart/mixed")) p }
typed_by text rest false true p q e =
    let same : drop 15 text ≡ rest = cc in
    record { kind = take 15 text; spelled = sym (take-append-drop 15 text) ∙ ap (λ (u : List ℕ). take 15 text ++ u) same; is = or_right (str_eq_ignore_ascii_case (take 15 text) (codes "multipart/related")) _ q }
typed_by text rest false false p q e = absurd (cc)

type_told : (text rest : List ℕ) → behind_type text ≡ Some rest → IsTyped text rest
unfolding behind_type
type_told text rest e = typed_by text rest _ _ refl refl e

-- the words are the same but for case
same_text : (a b : List ℕ) → str_eq_ignore_ascii_case a b ≡ true → map to_ascii_lowercase a ≡ map to_ascii_lowercase b
same_text a b e = (bytes_eq-Decides (map to_ascii_lowercase a) (map to_ascii_lowercase b)).0 e

one-of : (a b : Bool) → (a || b) ≡ true → (a ≡ true) ⊎ (b ≡ true)
one-of true b e = inl refl
one-of false b e = inr e

apart_at : (let m : ℕ = 109 in m ≡ 114) → ⊥
apart_at e = omega (arith, e)

-- a text doesn't begin with both types
other_type : (text : List ℕ) → str_eq_ignore_ascii_case (take 17 text) (codes "multipart/related") ≡ true → str_eq_ignore_ascii_case (take 15 text) (codes "multipart/mixed") ≡ true → ⊥
other_type text p q =
    let front : map to_ascii_lowercase (take 15 text) ≡ take 15 (map to_ascii_lowercase (take 17 text)) =
    ap (map to_ascii_lowercase) (sym (take-take 15 17 text (omega arith))) ∙ sym (take-map to_ascii_lowercase 15 (take 17 text)) in
    let e : map to_ascii_lowercase (codes "multipart/mixed") ≡ take 15 (map to_ascii_lowercase (codes "multipart/related")) =
    sym (same_text (take 15 text) (codes "multipart/mixed") q) ∙ front ∙ ap (take 15) (same_text (take 17 text) (codes "multipart/related") p) in
    apart_at (ap (λ (t : List ℕ). get_or t 10 0) e)

related_read : (kind rest : List ℕ) → str_eq_ignore_ascii_case kind (codes "multipart/related") ≡ true → behind_type (kind ++ rest) ≡ Some rest
unfolding behind_type
related_read kind rest e =
    let text = kind ++ rest in
    let len : length kind ≡ 17 = same_length kind (codes "multipart/related") e in
    ap (λ (t : Bool). if t then Some (drop 17 text) else (if str_eq_ignore_ascii_case (take 15 text) (codes "multipart/mixed") then Some (drop 15 text) else None))
    (ap (λ (k : List ℕ). str_eq_ignore_ascii_case k (codes "multipart/related")) (take_at kind rest 17 len) ∙ e)
    ∙ ap Some (drop_at kind rest 17 len)

first_false : (t : Bool) → (t ≡ true → ⊥) → t ≡ false
first_false true never = absurd (never refl)
first_false false never = refl

mixed_read : (kind rest : List ℕ) → str_eq_ignore_ascii_case kind (codes "multipart/mixed") ≡ true → behind_type (kind ++ rest) ≡ Some rest
unfolding behind_type
mixed_read kind rest e =
    let text = kind ++ rest in
    let len : length kind ≡ 15 = same_length kind (codes "multipart/mixed") e in
    let here : str_eq_ignore_ascii_case (take 15 text) (codes "multipart/mixed") ≡ true = ap (λ (k : List ℕ). str_eq_ignore_ascii_case k (codes "multipart/mixed")) (take_at kind rest 15 len) ∙ e in
    ap (λ (t : Bool). if t then Some (drop 17 text) else (if str_eq_ignore_ascii_case (take 15 text) (codes "multipart/mixed") then Some (drop 15 text) else None))
    (first_false (str_eq_ignore_ascii_case (take 17 text) (codes "multipart/related")) (λ p. other_type text p here))
    ∙ ap (λ (t : Bool). if t then Some (drop 15 text) else None) here
    ∙ ap Some (drop_at kind rest 15 len)

type_read : (kind rest : List ℕ) → is_type kind ≡ true → behind_type (kind ++ rest) ≡ Some rest
type_read kind rest e = elim (one-of (str_eq_ignore_ascii_case kind (codes "multipart/related")) (str_eq_ignore_ascii_case kind (codes "multipart/mixed")) e) [
  | inl h ↦ related_read kind rest h
  | inr h ↦ mixed_read kind rest h
]

-- ---- whole texts

-- what comes behind a value that is there
bound : (k : List ℕ → Option (List ℕ)) (o : Option (List ℕ)) (r : List ℕ) → option_and_then k o ≡ Some r → (x : List ℕ) × (o ≡ Some x) × (k x ≡ Some r)
bound k None r e = absurd (cc)
bound k (Some x) r e = (x, refl, e)

check_by : (text r : List ℕ) (t : Bool) → is_boundary text ≡ t → (if t then Some text else None) ≡ Some r → (text ≡ r) × (is_boundary text ≡ true)
check_by text r true p e = (cc, p)
check_by text r false p e = absurd (cc)

pub boundary_told : (text r : List ℕ) → boundary_of text ≡ Some r → IsBoundaryText text r
unfolding boundary_of
boundary_told text r e =
    let b = bound checked (option_and_then (read ended None) (behind_type text)) r e in
    let v = bound (read ended None) (behind_type text) b.0 b.1 in
    let c = check_by b.0 r (is_boundary b.0) refl b.2 in
    let t = type_told text v.0 v.1 in
    let k = told ended None v.0 b.0 v.2 in
    record {
      kind = t.kind;
      items = k.items;
      spelled = t.spelled ∙ ap (λ (u : List ℕ). t.kind ++ u) k.spelled;
      is_kind = t.is;
      all = k.all;
      first = k.first ∙ ap Some c.0;
      fits = sym (ap is_boundary c.0) ∙ c.1;
    }

pub boundary_read : (text r : List ℕ) → IsBoundaryText text r → boundary_of text ≡ Some r
unfolding boundary_of
boundary_read text r k =
    let items : Items None (print_items k.items) r = record { items = k.items; spelled = refl; all = k.all; first = k.first } in
    ap (λ (o : Option (List ℕ)). option_and_then checked (option_and_then (read ended None) o)) (ap behind_type k.spelled ∙ type_read k.kind (print_items k.items) k.is_kind)
    ∙ ap (option_and_then checked) (reads ended None (print_items k.items) r items)
    ∙ ap (λ (t : Bool). if t then Some r else None) k.fits
