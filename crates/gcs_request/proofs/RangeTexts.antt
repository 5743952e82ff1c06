-- Which texts tell which ranges: the reading of a text is that of the grammar.
use Rattle.std.proofs.Common.{◌≡◌, ◌∙◌, ℕ, ◌≤◌, ◌++◌, ◌∷◌, Bool, true, false, nat_eq, nat_le, nat_lt, List, [], length, drop, codes, Option, Some, None, option_map, refl, ap, ap₂, sym, subst, if◌then◌else◌}
use Rattle.std.specs.List.{list_all, starts_with}
use Rattle.std.specs.Option.{option_and_then}
use Rattle.std.specs.Char.{is_ascii_digit}
use Rattle.std.specs.Str.Parse.{digits_value}
use Rattle.std.proofs.lemmas.Bool.{false≢true, le-leb, leb-true}
use Rattle.std.proofs.lemmas.Bool.Decides.{Decides-eqb}
use Rattle.std.proofs.lemmas.Option.{option_and_then_some}
use Rattle.std.proofs.lemmas.Slice.Eq.{starts_is}
use Rattle.gcs_decimal.specs.Decimal.{is_decimal}
use Rattle.gcs_rewrite.specs.declared.range.Range.{Range}
use Rattle.gcs_rewrite.specs.declared.range.Range.TheVariants.{Between, From, Last}
use Rattle.gcs_request.proofs.Marks.{around-first, around-told, digits-apart, last-of}
use Rattle.gcs_request.specs.Ranges.{around, number_of, range_between, range_by, read_range, IsNumberText, IsRangeText}

-- ---- numbers

-- what a test chose
pub chosen : (t : Bool) (v n : ℕ) → (if t then Some v else None) ≡ Some n → (t ≡ true) × (v ≡ n)
chosen true v n e = (refl, cc)
chosen false v n e = absurd (cc)

pub number-told : (text : List ℕ) (n : ℕ) → number_of text ≡ Some n → IsNumberText text n
number-told text n e = let x = chosen (is_decimal 18 text) (digits_value 10 text) n e in record { digits = x.0; value = sym x.1 }

pub number-reads : (text : List ℕ) (n : ℕ) → IsNumberText text n → number_of text ≡ Some n
number-reads text n x = ap (λ (t : Bool). if t then Some (digits_value 10 text) else None) x.digits ∙ ap Some (sym x.value)

-- a number is digits
pub all-digits : (text : List ℕ) (n : ℕ) → IsNumberText text n → list_all is_ascii_digit text ≡ true
all-digits text n x = last-of (nat_le (length text) 18) (list_all is_ascii_digit text) (last-of (nat_lt 0 (length text)) _ x.digits)

-- ---- the texts around a `-`

-- two texts tell a range
abbrev IsParts : List ℕ → List ℕ → Range → Type 0
IsParts a b (Between first last) = IsNumberText a first × IsNumberText b last × (first ≤ last)
IsParts a b (From first) = IsNumberText a first × (b ≡ [])
IsParts a b (Last n) = (a ≡ []) × IsNumberText b n

mapped : (f : ℕ → Range) (o : Option ℕ) (r : Range) → option_map f o ≡ Some r → (n : ℕ) × (o ≡ Some n) × (f n ≡ r)
mapped f None r e = absurd (cc)
mapped f (Some n) r e = (n, refl, cc)

-- both numbers are there, in order
pub record IsOrdered (a b : Option ℕ) (r : Range) : Type 0 where
  first : ℕ
  last : ℕ
  first_is : a ≡ Some first
  last_is : b ≡ Some last
  order : first ≤ last
  range : Between first last ≡ r

in-order : (t : Bool) (first last : ℕ) (r : Range) → nat_le first last ≡ t → (if t then Some (Between first last) else None) ≡ Some r → IsOrdered (Some first) (Some last) r
in-order true first last r le e = record { first = first; last = last; first_is = refl; last_is = refl; order = leb-true first last le; range = cc }
in-order false first last r le e = absurd (cc)

ordered : (a b : Option ℕ) (r : Range) → range_between a b ≡ Some r → IsOrdered a b r
ordered None b r e = absurd (cc)
ordered (Some first) None r e = absurd (cc)
ordered (Some first) (Some last) r e = in-order (nat_le first last) first last r refl e

parts-told : (a b : List ℕ) (r : Range) → range_by a b ≡ Some r → IsParts a b r
parts-told [] b r e =
    let m = mapped (λ n. Last n) (number_of b) r e in
    subst (λ (q : Range). IsParts [] b q) m.2 (refl, number-told b m.0 m.1)
parts-told (x ∷ a) [] r e =
    let m = mapped (λ n. From n) (number_of (x ∷ a)) r e in
    subst (λ (q : Range). IsParts (x ∷ a) [] q) m.2 (number-told (x ∷ a) m.0 m.1, refl)
parts-told (x ∷ a) (y ∷ b) r e =
    let m = ordered (number_of (x ∷ a)) (number_of (y ∷ b)) r e in
    subst (λ (q : Range). IsParts (x ∷ a) (y ∷ b) q) m.range (number-told (x ∷ a) m.first m.first_is, number-told (y ∷ b) m.last m.last_is, m.order)

parts-read : (a b : List ℕ) (r : Range) → IsParts a b r → range_by a b ≡ Some r
parts-read [] b (Between first last) p = absurd (false≢true p.0.digits)
parts-read (x ∷ a) [] (Between first last) p = absurd (false≢true p.1.digits)
parts-read (x ∷ a) (y ∷ b) (Between first last) p =
    ap₂ range_between (number-reads (x ∷ a) first p.0) (number-reads (y ∷ b) last p.1)
    ∙ ap (λ (t : Bool). if t then Some (Between first last) else None) (le-leb first last p.2)
parts-read [] b (From first) p = absurd (false≢true p.0.digits)
parts-read (x ∷ a) b (From first) p =
    ap (λ (l : List ℕ). range_by (x ∷ a) l) p.1 ∙ ap (λ (o : Option ℕ). option_map (λ n. From n) o) (number-reads (x ∷ a) first p.0)
parts-read a b (Last n) p =
    ap (λ (l : List ℕ). range_by l b) p.0 ∙ ap (λ (o : Option ℕ). option_map (λ m. Last m) o) (number-reads b n p.1)

-- ---- whole texts

-- a text that begins as a range does, and its parts
spelled : (text a b : List ℕ) (r : Range) → text ≡ codes "bytes=" ++ (a ++ 45 ∷ b) → IsParts a b r → IsRangeText text r
spelled text a b (Between first last) is p = (a, b, is, p.0, p.1, p.2)
spelled text a b (From first) is p = (a, is ∙ ap (λ (l : List ℕ). codes "bytes=" ++ (a ++ 45 ∷ l)) p.1, p.0)
spelled text a b (Last n) is p = (b, is ∙ ap (λ (l : List ℕ). codes "bytes=" ++ (l ++ 45 ∷ b)) p.0, p.1)

-- what stands behind a test that held
taken : (t : Bool) (o : Option Range) (r : Range) → (if t then o else None) ≡ Some r → (t ≡ true) × (o ≡ Some r)
taken true o r e = (refl, e)
taken false o r e = absurd (cc)

-- the range of the texts around a `-`
abbrev range_around : Option (List ℕ × List ℕ) → Option Range
range_around o = option_and_then (λ texts. range_by texts.0 texts.1) o

pub range-told : (text : List ℕ) (r : Range) → read_range text ≡ Some r → IsRangeText text r
unfolding read_range
range-told text r e =
    let x = taken (starts_with nat_eq text (codes "bytes=")) (range_around (around 45 (drop 6 text))) r e in
    let rest : List ℕ = drop 6 text in
    let begins : text ≡ codes "bytes=" ++ rest = (starts_is Decides-eqb text (codes "bytes=") _ refl).0 x.0 in
    option_and_then_some (λ texts. range_by texts.0 texts.1) (around 45 rest) r x.1
    (λ texts is told. spelled text texts.0 texts.1 r (begins ∙ ap (λ (l : List ℕ). codes "bytes=" ++ l) (around-told 45 rest texts is)) (parts-told texts.0 texts.1 r told))

parted : (text a b : List ℕ) (r : Range) → text ≡ codes "bytes=" ++ (a ++ 45 ∷ b) → list_all is_ascii_digit a ≡ true → IsParts a b r → read_range text ≡ Some r
unfolding read_range
parted text a b r is digits p =
    let rest : List ℕ = a ++ 45 ∷ b in
    let begins : starts_with nat_eq text (codes "bytes=") ≡ true = (starts_is Decides-eqb text (codes "bytes=") _ refl).1 rest is in
    ap (λ (t : Bool). if t then range_around (around 45 (drop 6 text)) else None) begins
    ∙ ap (λ (l : List ℕ). range_around (around 45 (drop 6 l))) is
    ∙ ap range_around (around-first 45 a b (digits-apart 45 a refl digits)) ∙ parts-read a b r p

pub range-read : (text : List ℕ) (r : Range) → IsRangeText text r → read_range text ≡ Some r
range-read text (Between first last) x = parted text x.0 x.1 (Between first last) x.2 (all-digits x.0 first x.3) (x.3, x.4, x.5)
range-read text (From first) x = parted text x.0 [] (From first) x.1 (all-digits x.0 first x.2) (x.2, refl)
range-read text (Last n) x = parted text [] x.0 (Last n) x.1 refl (refl, x.2)
