-- Texts around the first byte that is a mark.
use Rattle.std.proofs.Common.{◌≡◌, ◌∙◌, ℕ, suc, ◌+◌, ◌++◌, ◌∷◌, ◌&&◌, not, Bool, true, false, nat_eq, nat_lt, List, [], length, take, drop, position, Option, Some, None, option_map, refl, ap, ap₂, sym, subst, arith, if◌then◌else◌}
use Rattle.std.specs.List.{list_all, position_or_len}
use Rattle.std.specs.Char.{is_ascii_digit}
use Rattle.std.proofs.Math.Seq.{drop-cons}
use Rattle.std.proofs.lemmas.Bool.{eqb-true, false≢true, lt-ltb}
use Rattle.std.proofs.lemmas.Bool.Decides.{Decides-eqb}
use Rattle.std.proofs.lemmas.List.{drop_at, drop-drop, length-append, take-append-drop, take_at}
use Rattle.std.proofs.lemmas.List.Folds.{list_all-append}
use Rattle.std.proofs.lemmas.List.Quantifiers.{position-Some}
use Rattle.gcs_request.specs.Ranges.{around}

pub last-of : (a b : Bool) → (a && b) ≡ true → b ≡ true
last-of true b e = e
last-of false b e = absurd (false≢true e)

pub first-of : (a b : Bool) → (a && b) ≡ true → a ≡ true
first-of true b e = refl
first-of false b e = absurd (false≢true e)

-- no byte of the text is the mark
abbrev pub has_no : ℕ → List ℕ → Bool
has_no mark text = list_all (λ x. not (nat_eq x mark)) text

-- behind other bytes the first mark is the one that follows them
mark-behind : (mark : ℕ) (a b : List ℕ) → has_no mark a ≡ true → position_or_len (λ x. nat_eq x mark) (a ++ mark ∷ b) ≡ length a
mark-behind mark [] b e =
    ap (λ (t : Bool). if not t then 1 + position_or_len (λ x. nat_eq x mark) b else 0) ((Decides-eqb mark mark).1 refl)
mark-behind mark (x ∷ a) b e =
    let more : 1 + length a ≡ length (x ∷ a) = omega arith in
    ap (λ (t : Bool). if t then 1 + position_or_len (λ y. nat_eq y mark) (a ++ mark ∷ b) else 0) (first-of (not (nat_eq x mark)) (has_no mark a) e)
    ∙ ap (λ (n : ℕ). 1 + n) (mark-behind mark a b (last-of (not (nat_eq x mark)) (has_no mark a) e)) ∙ more

-- a text without the mark is what stands before the first mark
pub around-first : (mark : ℕ) (a b : List ℕ) → has_no mark a ≡ true → around mark (a ++ mark ∷ b) ≡ Some (a, b)
around-first mark a b e =
    let text : List ℕ = a ++ mark ∷ b in
    let within : nat_lt (length a) (length text) ≡ true = lt-ltb (length a) (length text) (omega (arith, length-append a (mark ∷ b))) in
    let found : position (λ x. nat_eq x mark) text ≡ Some (length a) =
    ap (λ (n : ℕ). if nat_lt n (length text) then Some n else None) (mark-behind mark a b e) ∙ ap (λ (t : Bool). if t then Some (length a) else None) within in
    let behind : drop (length a + 1) text ≡ b = sym (drop-drop 1 (length a) text) ∙ ap (λ (l : List ℕ). drop 1 l) (drop_at a (mark ∷ b) (length a) refl) in
    ap (λ (o : Option ℕ). option_map (λ n. (take n text, drop (n + 1) text)) o) found
    ∙ ap₂ (λ (x y : List ℕ). Some (x, y)) (take_at a (mark ∷ b) (length a) refl) behind

split-at : (mark : ℕ) (text : List ℕ) (at : ℕ) → position (λ x. nat_eq x mark) text ≡ Some at → text ≡ take at text ++ mark ∷ drop (at + 1) text
split-at mark text at e =
    let found = position-Some (λ x. nat_eq x mark) text at 0 e in
    let next : suc at ≡ at + 1 = omega arith in
    sym (take-append-drop at text)
    ∙ ap (λ (l : List ℕ). take at text ++ l)
    (drop-cons text at 0 found.0 ∙ ap₂ (λ (x n : ℕ). x ∷ drop n text) (eqb-true _ _ found.1) next)

split-by : (mark : ℕ) (text : List ℕ) (at : Option ℕ) (texts : List ℕ × List ℕ) → position (λ x. nat_eq x mark) text ≡ at
    → option_map (λ n. (take n text, drop (n + 1) text)) at ≡ Some texts → text ≡ texts.0 ++ mark ∷ texts.1
split-by mark text None texts is e = absurd (cc)
split-by mark text (Some at) texts is e =
    let same : (take at text, drop (at + 1) text) ≡ texts = cc in
    subst (λ (t : List ℕ × List ℕ). text ≡ t.0 ++ mark ∷ t.1) same (split-at mark text at is)

-- a text is what stands before its first mark, the mark, and what stands after it
pub around-told : (mark : ℕ) (text : List ℕ) (texts : List ℕ × List ℕ) → around mark text ≡ Some texts → text ≡ texts.0 ++ mark ∷ texts.1
around-told mark text texts e = split-by mark text (position (λ x. nat_eq x mark) text) texts refl e

-- a digit is no other byte
digit-apart : (same : Bool) (mark x : ℕ) → nat_eq x mark ≡ same → is_ascii_digit mark ≡ false → is_ascii_digit x ≡ true → not same ≡ true
digit-apart true mark x e other digit = absurd (false≢true (sym other ∙ ap is_ascii_digit (sym (eqb-true x mark e)) ∙ digit))
digit-apart false mark x e other digit = refl

-- digits have no mark among them
pub digits-apart : (mark : ℕ) (text : List ℕ) → is_ascii_digit mark ≡ false → list_all is_ascii_digit text ≡ true → has_no mark text ≡ true
digits-apart mark [] other digits = refl
digits-apart mark (x ∷ text) other digits =
    ap₂ ◌&&◌ (digit-apart (nat_eq x mark) mark x refl other (first-of (is_ascii_digit x) (list_all is_ascii_digit text) digits))
    (digits-apart mark text other (last-of (is_ascii_digit x) (list_all is_ascii_digit text) digits))

-- nor have two texts of digits with another byte between them
pub both-apart : (mark other : ℕ) (a b : List ℕ) → nat_eq other mark ≡ false → has_no mark a ≡ true → has_no mark b ≡ true → has_no mark (a ++ other ∷ b) ≡ true
both-apart mark other a b differs first second =
    list_all-append (λ x. not (nat_eq x mark)) a (other ∷ b)
    ∙ ap₂ ◌&&◌ first (ap₂ (λ (t u : Bool). not t && u) differs second)
