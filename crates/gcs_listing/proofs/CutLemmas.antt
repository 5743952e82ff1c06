-- Beginnings and cuts, as slices give them.
use Rattle.std.proofs.Common.{◌≡◌, ℕ, zero, suc, ◌+◌, ◌-◌, ◌<◌, ◌≤◌, ◌∙◌, sym, ap, ap₂, refl, List, [], ◌∷◌, ◌++◌, length, take, drop, arith, subst, Some, None, length-drop, length-append, eq-eqb}
use Rattle.std.specs.Prelude.{Bool, slice_range, true, false, ◌&&◌, ◌==◌, if◌then◌else◌, nat_eq}
use mathlib.Core.Bool.{true≢false}
use Rattle.std.specs.Option.{option_map}
use Rattle.std.specs.List.{starts_with}
use Rattle.std.proofs.lemmas.Bool.{and_parts, and_from, eqb-true}
use Rattle.std.specs.Str.Pattern.{FindsText, LacksTextAt}
use Rattle.gcs_meaning.specs.Texts.{begins, cut, folded}

pub starts_begins : (p x : List ℕ) → starts_with nat_eq x p ≡ begins p x
starts_begins [] x = refl
starts_begins (a ∷ p) [] = refl
starts_begins (a ∷ p) (b ∷ x) = ap (λ t. (a == b) && t) (starts_begins p x)

pub begins_take : (p x : List ℕ) → begins p x ≡ true → take (length p) x ≡ p
begins_take [] x h = refl
begins_take (a ∷ p) [] h = absurd (true≢false (sym h))
begins_take (a ∷ p) (b ∷ x) h = let both = and_parts (a == b) (begins p x) h in ap₂ (λ n l. n ∷ l) (sym (eqb-true a b both.0)) (begins_take p x both.1)

pub begins_length : (p x : List ℕ) → begins p x ≡ true → length p ≤ length x
begins_length [] x h = omega arith
begins_length (a ∷ p) [] h = absurd (true≢false (sym h))
begins_length (a ∷ p) (b ∷ x) h = omega (arith, begins_length p x (and_parts (a == b) (begins p x) h).1)

pub cut_at : (d x : List ℕ) (i : ℕ) → ((j : ℕ) → j < i → begins d (drop j x) ≡ false) → i < length x → begins d (drop i x) ≡ true → cut d x ≡ Some (take (i + length d) x)
cut_at d [] i before within here = absurd (omega arith)
cut_at d (b ∷ x) zero before within here =
    let e : 0 + length d ≡ length d = omega arith in
    ap (λ t. if t then Some d else option_map (λ p. b ∷ p) (cut d x)) here
    ∙ ap Some (sym (ap (λ n. take n (b ∷ x)) e ∙ begins_take d (b ∷ x) here))
cut_at d (b ∷ x) (suc i) before within here =
    let e : suc i + length d ≡ suc (i + length d) = omega arith in
    ap (λ t. if t then Some d else option_map (λ p. b ∷ p) (cut d x)) (before 0 (omega arith))
    ∙ ap (option_map (λ p. b ∷ p)) (cut_at d x i (λ j below. before (suc j) (omega arith)) (omega arith) here)
    ∙ ap (λ n. Some (take n (b ∷ x))) (sym e)

pub cut_no : (d x : List ℕ) → ((j : ℕ) → j < length x → begins d (drop j x) ≡ false) → cut d x ≡ None
cut_no d [] none = refl
cut_no d (b ∷ x) none =
    ap (λ t. if t then Some d else option_map (λ p. b ∷ p) (cut d x)) (none 0 (omega arith))
    ∙ ap (option_map (λ p. b ∷ p)) (cut_no d x (λ j below. none (suc j) (omega arith)))

pub take_joined : (p x : List ℕ) (n : ℕ) → begins p x ≡ true → p ++ take n (drop (length p) x) ≡ take (length p + n) x
take_joined [] x n h = let e : n ≡ 0 + n = omega arith in ap (λ m. take m x) e
take_joined (a ∷ p) [] n h = absurd (true≢false (sym h))
take_joined (a ∷ p) (b ∷ x) n h =
    let both = and_parts (a == b) (begins p x) h in
    let e : suc (length p + n) ≡ suc (length p) + n = omega arith in
    ap₂ (λ m l. m ∷ l) (eqb-true a b both.0) (take_joined p x n both.1) ∙ ap (λ m. take m (b ∷ x)) e

-- what the delimiter cuts off, put behind the prefix
pub fold_some : (p d x : List ℕ) (n : ℕ) → 1 ≤ length d → begins p x ≡ true → Some (take n (drop (length p) x)) ≡ cut d (drop (length p) x) → Some (take (length p + n) x) ≡ folded p d x
fold_some p [] x n some h e = absurd (omega arith)
fold_some p (c ∷ d) x n some h e = ap Some (sym (take_joined p x n h)) ∙ ap (option_map (λ q. p ++ q)) e

pub fold_none : (p d x : List ℕ) → 1 ≤ length d → None ≡ cut d (drop (length p) x) → None ≡ folded p d x
fold_none p [] x some e = absurd (omega arith)
fold_none p (c ∷ d) x some e = ap (option_map (λ q. p ++ q)) e

-- the part of a text from a place on
pub tail_is : (n : ℕ) (xs : List ℕ) → n ≤ length xs → take (length xs - n) (drop n xs) ≡ drop n xs
tail_is n xs h = subst (λ m. take m (drop n xs) ≡ drop n xs) (length-drop n xs) (take_all_of (drop n xs))
  where
    take_all_of : (ys : List ℕ) → take (length ys) ys ≡ ys
    take_all_of [] = refl
    take_all_of (y ∷ ys) = ap (λ l. y ∷ l) (take_all_of ys)

begins_joined : (d r : List ℕ) → begins d (d ++ r) ≡ true
begins_joined [] r = refl
begins_joined (c ∷ d) r = and_from (c == c) (begins d (d ++ r)) (eq-eqb c c refl) (begins_joined d r)

begins_split : (d x : List ℕ) → begins d x ≡ true → x ≡ d ++ drop (length d) x
begins_split [] x h = refl
begins_split (c ∷ d) [] h = absurd (true≢false (sym h))
begins_split (c ∷ d) (b ∷ x) h = let both = and_parts (c == b) (begins d x) h in ap₂ (λ n l. n ∷ l) (sym (eqb-true c b both.0)) (begins_split d x both.1)

lacks : (d s : List ℕ) (i : ℕ) → LacksTextAt d s i → begins d (drop i s) ≡ false
lacks d s i none = by (begins d (drop i s)) refl
  where
    by : (b : Bool) → begins d (drop i s) ≡ b → b ≡ false
    by false e = refl
    by true e = absurd (none (drop (length d) (drop i s)) (begins_split d (drop i s) e))

-- the first place of the delimiter behind the prefix, as a search finds it
pub fold_found : (p d x r : List ℕ) (at j : ℕ) → 1 ≤ length d → begins p x ≡ true → FindsText d (drop (length p) x) (Some (at, j)) → r ≡ slice_range x 0 (length p + at + length d) → Some r ≡ folded p d x
fold_found p d x r at j some h found is =
    let s : List ℕ = drop (length p) x in
    let split : drop at s ≡ d ++ drop j s = found.1.split in
    let lens : length (drop at s) ≡ length (d ++ drop j s) = ap length split in
    let within : at < length s = omega (arith, lens, length-drop at s, length-append d (drop j s), some) in
    let cuts : cut d s ≡ Some (take (at + length d) s) =
    cut_at d s at (λ i below. lacks d s i (found.0 i below)) within (subst (λ y. begins d y ≡ true) (sym split) (begins_joined d (drop j s))) in
    let sum : length p + (at + length d) ≡ length p + at + length d - 0 = omega arith in
    ap Some is ∙ sym (ap (λ n. Some (take n x)) sum) ∙ fold_some p d x (at + length d) some h (sym cuts)

pub fold_lacks : (p d x : List ℕ) → 1 ≤ length d → FindsText d (drop (length p) x) None → None ≡ folded p d x
fold_lacks p d x some none =
    let s : List ℕ = drop (length p) x in
    fold_none p d x some (sym (cut_no d s (λ i below. lacks d s i (none i (omega (arith, below))))))
