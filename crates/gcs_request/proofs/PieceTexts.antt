-- Which texts tell what of a piece: the reading of a text is that of the grammar.
use Rattle.std.proofs.Common.{◌≡◌, ◌∙◌, ℕ, ◌≤◌, ◌++◌, ◌∷◌, ◌&&◌, Bool, true, false, nat_eq, nat_le, List, drop, codes, bytes_eq, Option, Some, None, option_map, refl, ap, ap₂, sym, subst, if◌then◌else◌}
use Rattle.std.specs.List.{starts_with}
use Rattle.std.specs.Option.{option_and_then}
use Rattle.std.proofs.lemmas.Bool.{false≢true, le-leb, leb-true, lt-ltb, ltb-true}
use Rattle.std.proofs.lemmas.Bool.Decides.{Decides-eqb}
use Rattle.std.proofs.lemmas.List.{append_assoc}
use Rattle.std.proofs.lemmas.Option.{option_and_then_some}
use Rattle.std.proofs.lemmas.Slice.Eq.{bytes_eq-Decides, starts_is}
use Rattle.gcs_request.proofs.Marks.{around-first, around-told, both-apart, digits-apart, first-of, last-of}
use Rattle.gcs_request.proofs.RangeTexts.{all-digits, number-reads, number-told}
use Rattle.gcs_request.specs.declared.piece_ranges.PieceRange.{PieceRange}
use Rattle.gcs_request.specs.declared.piece_ranges.PieceRange.TheVariants.{Whole, Bytes, Status}
use Rattle.gcs_request.specs.PieceRanges.{bytes_by, is_inside, length_of, piece_by, piece_in, IsBytesText, IsInside, IsLengthText, IsPieceText}
use Rattle.gcs_request.specs.Ranges.{around, number_of, IsNumberText}

-- ---- the length of the whole content

length-by : (star : Bool) (text : List ℕ) (n : Option ℕ) (total : Option ℕ) → bytes_eq text (codes "*") ≡ star → number_of text ≡ n
    → (if star then Some None else option_map (λ m. Some m) n) ≡ Some total → IsLengthText text total
length-by true text n total is read e = subst (IsLengthText text) (let same : None ≡ total = cc in same) ((bytes_eq-Decides text (codes "*")).0 is)
length-by false text None total is read e = absurd (cc)
length-by false text (Some n) total is read e = subst (IsLengthText text) (let same : Some n ≡ total = cc in same) (number-told text n read)

length-told : (text : List ℕ) (total : Option ℕ) → length_of text ≡ Some total → IsLengthText text total
length-told text total e = length-by (bytes_eq text (codes "*")) text (number_of text) total refl refl e

-- a number is no `*`
number-apart : (star : Bool) (text : List ℕ) (n : ℕ) → bytes_eq text (codes "*") ≡ star → IsNumberText text n → star ≡ false
number-apart true text n is number =
    let told : IsNumberText (codes "*") n = subst (λ (l : List ℕ). IsNumberText l n) ((bytes_eq-Decides text (codes "*")).0 is) number in
    absurd (false≢true told.digits)
number-apart false text n is number = refl

length-reads : (text : List ℕ) (total : Option ℕ) → IsLengthText text total → length_of text ≡ Some total
length-reads text None is = ap length_of is
length-reads text (Some n) is =
    ap₂ (λ (star : Bool) (o : Option ℕ). if star then Some None else option_map (λ m. Some m) o) (number-apart (bytes_eq text (codes "*")) text n refl is) (number-reads text n is)

-- ---- the places

inside-told : (last : ℕ) (total : Option ℕ) → is_inside last total ≡ true → IsInside last total
inside-told last None e = tt
inside-told last (Some total) e = ltb-true last total e

inside-reads : (last : ℕ) (total : Option ℕ) → IsInside last total → is_inside last total ≡ true
inside-reads last None is = refl
inside-reads last (Some total) is = lt-ltb last total is

-- both places are there, in order and in the content
record ArePlaces (from to : Option ℕ) (total : Option ℕ) (range : PieceRange) : Type 0 where
  first : ℕ
  last : ℕ
  first_is : from ≡ Some first
  last_is : to ≡ Some last
  order : first ≤ last
  inside : IsInside last total
  range_is : Bytes first last total ≡ range

placed : (holds : Bool) (first last : ℕ) (total : Option ℕ) (range : PieceRange) → (nat_le first last && is_inside last total) ≡ holds
    → (if holds then Some (Bytes first last total) else None) ≡ Some range → ArePlaces (Some first) (Some last) total range
placed true first last total range holds e = record {
  first = first;
  last = last;
  first_is = refl;
  last_is = refl;
  order = leb-true first last (first-of (nat_le first last) (is_inside last total) holds);
  inside = inside-told last total (last-of (nat_le first last) (is_inside last total) holds);
  range_is = cc;
}
placed false first last total range holds e = absurd (cc)

places-told : (from to : Option ℕ) (total : Option ℕ) (range : PieceRange) → bytes_by from to total ≡ Some range → ArePlaces from to total range
places-told None to total range e = absurd (cc)
places-told (Some first) None total range e = absurd (cc)
places-told (Some first) (Some last) total range e = placed (nat_le first last && is_inside last total) first last total range refl e

places-read : (first last : ℕ) (total : Option ℕ) → first ≤ last → IsInside last total → bytes_by (Some first) (Some last) total ≡ Some (Bytes first last total)
places-read first last total order inside =
    ap₂ (λ (t u : Bool). if t && u then Some (Bytes first last total) else None) (le-leb first last order) (inside-reads last total inside)

-- ---- whole texts

-- the texts before and after a `/` tell this of a piece
abbrev IsParted : List ℕ → List ℕ → PieceRange → Type 0
IsParted places length range = (text : List ℕ) → text ≡ codes "bytes " ++ (places ++ 47 ∷ length) → IsPieceText text range

bytes-parted : (places length : List ℕ) (total : Option ℕ) (range : PieceRange) → IsLengthText length total
    → option_and_then (λ texts. bytes_by (number_of texts.0) (number_of texts.1) total) (around 45 places) ≡ Some range → IsParted places length range
bytes-parted places length total range is e = λ text begins.
    option_and_then_some (λ texts. bytes_by (number_of texts.0) (number_of texts.1) total) (around 45 places) range e
    (λ texts split told.
    let it = places-told (number_of texts.0) (number_of texts.1) total range told in
    let spelled : places ++ 47 ∷ length ≡ texts.0 ++ 45 ∷ (texts.1 ++ 47 ∷ length) =
    ap (λ (l : List ℕ). l ++ 47 ∷ length) (around-told 45 places texts split) ∙ append_assoc texts.0 (45 ∷ texts.1) (47 ∷ length) in
    subst (IsPieceText text) it.range_is
    (record {
      from = texts.0;
      to = texts.1;
      length = length;
      text_is = begins ∙ ap (λ (l : List ℕ). codes "bytes " ++ l) spelled;
      first_is = number-told texts.0 it.first it.first_is;
      last_is = number-told texts.1 it.last it.last_is;
      total_is = is;
      order = it.order;
      inside = it.inside;
    }))

star-parted : (star : Bool) (places length : List ℕ) (total : Option ℕ) (range : PieceRange) → bytes_eq places (codes "*") ≡ star → IsLengthText length total
    → (if star then Some (Status total) else option_and_then (λ texts. bytes_by (number_of texts.0) (number_of texts.1) total) (around 45 places)) ≡ Some range
    → IsParted places length range
star-parted true places length total range star is e = λ text begins.
    let same : Status total ≡ range = cc in
    subst (IsPieceText text) same
    (length, begins ∙ ap (λ (l : List ℕ). codes "bytes " ++ (l ++ 47 ∷ length)) ((bytes_eq-Decides places (codes "*")).0 star), is)
star-parted false places length total range star is e = bytes-parted places length total range is e

parted : (places length : List ℕ) (total : Option (Option ℕ)) (range : PieceRange) → length_of length ≡ total → piece_by places total ≡ Some range → IsParted places length range
parted places length None range read e = absurd (cc)
parted places length (Some total) range read e = star-parted (bytes_eq places (codes "*")) places length total range refl (length-told length total read) e

-- what stands behind a test that held
taken : (t : Bool) (o : Option PieceRange) (r : PieceRange) → (if t then o else None) ≡ Some r → (t ≡ true) × (o ≡ Some r)
taken true o r e = (refl, e)
taken false o r e = absurd (cc)

pub piece-told : (text : List ℕ) (range : PieceRange) → piece_in text ≡ Some range → IsPieceText text range
unfolding piece_in
piece-told text range e =
    let rest : List ℕ = drop 6 text in
    let x = taken (starts_with nat_eq text (codes "bytes ")) (option_and_then (λ texts. piece_by texts.0 (length_of texts.1)) (around 47 rest)) range e in
    let begins : text ≡ codes "bytes " ++ rest = (starts_is Decides-eqb text (codes "bytes ") _ refl).0 x.0 in
    option_and_then_some (λ texts. piece_by texts.0 (length_of texts.1)) (around 47 rest) range x.1
    (λ texts split told. parted texts.0 texts.1 (length_of texts.1) range refl told text (begins ∙ ap (λ (l : List ℕ). codes "bytes " ++ l) (around-told 47 rest texts split)))

-- a text is read by the texts before and after its `/`
read-parted : (text places length : List ℕ) (total : Option ℕ) (range : PieceRange) → text ≡ codes "bytes " ++ (places ++ 47 ∷ length)
    → around 47 (places ++ 47 ∷ length) ≡ Some (places, length) → IsLengthText length total → piece_by places (Some total) ≡ Some range → piece_in text ≡ Some range
unfolding piece_in
read-parted text places length total range is split whole reads =
    let rest : List ℕ = places ++ 47 ∷ length in
    let begins : starts_with nat_eq text (codes "bytes ") ≡ true = (starts_is Decides-eqb text (codes "bytes ") _ refl).1 rest is in
    let by : Option (List ℕ × List ℕ) → Option PieceRange = λ o. option_and_then (λ texts. piece_by texts.0 (length_of texts.1)) o in
    ap (λ (t : Bool). if t then by (around 47 (drop 6 text)) else None) begins
    ∙ ap (λ (l : List ℕ). by (around 47 (drop 6 l))) is
    ∙ ap by split ∙ ap (piece_by places) (length-reads length total whole) ∙ reads

-- a text with a `-` is no `*`
star-apart : (star : Bool) (places : List ℕ) (texts : List ℕ × List ℕ) → bytes_eq places (codes "*") ≡ star → around 45 places ≡ Some texts → star ≡ false
star-apart true places texts is split =
    let none : around 45 (codes "*") ≡ Some texts = subst (λ (l : List ℕ). around 45 l ≡ Some texts) ((bytes_eq-Decides places (codes "*")).0 is) split in
    absurd (cc)
star-apart false places texts is split = refl

bytes-read : (text : List ℕ) (first last : ℕ) (total : Option ℕ) → IsBytesText text first last total → piece_in text ≡ Some (Bytes first last total)
bytes-read text first last total x =
    let places : List ℕ = x.from ++ 45 ∷ x.to in
    let from = all-digits x.from first x.first_is in
    let to = all-digits x.to last x.last_is in
    let split : around 45 places ≡ Some (x.from, x.to) = around-first 45 x.from x.to (digits-apart 45 x.from refl from) in
    let slash = around-first 47 places x.length (both-apart 47 45 x.from x.to refl (digits-apart 47 x.from refl from) (digits-apart 47 x.to refl to)) in
    let by : Option (List ℕ × List ℕ) → Option PieceRange = λ o. option_and_then (λ texts. bytes_by (number_of texts.0) (number_of texts.1) total) o in
    read-parted text places x.length total (Bytes first last total)
    (x.text_is ∙ ap (λ (l : List ℕ). codes "bytes " ++ l) (sym (append_assoc x.from (45 ∷ x.to) (47 ∷ x.length)))) slash x.total_is
    (ap (λ (star : Bool). if star then Some (Status total) else by (around 45 places)) (star-apart (bytes_eq places (codes "*")) places (x.from, x.to) refl split)
    ∙ ap by split ∙ ap₂ (λ (a b : Option ℕ). bytes_by a b total) (number-reads x.from first x.first_is) (number-reads x.to last x.last_is)
    ∙ places-read first last total x.order x.inside)

pub piece-read : (text : List ℕ) (range : PieceRange) → IsPieceText text range → piece_in text ≡ Some range
piece-read text Whole is = absurd is
piece-read text (Bytes first last total) is = bytes-read text first last total is
piece-read text (Status total) is = read-parted text (codes "*") is.0 total (Status total) is.1 (around-first 47 (codes "*") is.0 refl) is.2 refl
