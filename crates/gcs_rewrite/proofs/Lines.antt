-- Where a text is cut into lines, and where lines are put together.
use Rattle.std.proofs.Common.{◌≡◌, ℕ, zero, suc, Bor, get_or, ◌+◌, ◌<◌, ◌≤◌, Bool, true, false, not, ◌==◌, cond, if◌then◌else◌, List, [], ◌∷◌, ◌++◌, length, map, take, drop, subst, append_assoc, ap, refl, sym, ◌∙◌, arith}
use Rattle.std.specs.List.{AllByRecursion}
use Rattle.std.proofs.lemmas.List.Sums.{take_while-cons}
use Rattle.std.proofs.lemmas.List.{map-append}
use Rattle.gcs_route.specs.Paths.{with_front}
use Rattle.gcs_rewrite.specs.Tokens.{first_line, lines_of, with_ends}

cut_by : (t : Bool) (b : ℕ) (bs f : List ℕ) → (b == 10) ≡ t → f ≡ cond (not t) (b ∷ first_line bs) []
    → (length (first_line bs) < length bs → lines_of bs ≡ take (length (first_line bs)) bs ∷ lines_of (drop (length (first_line bs) + 1) bs))
    → length f < suc (length bs)
    → lines_of (b ∷ bs) ≡ take (length f) (b ∷ bs) ∷ lines_of (drop (length f + 1) (b ∷ bs))
cut_by true b bs f e is more h = rw is (ap (λ t. if t then [] ∷ lines_of bs else with_front b (lines_of bs)) e)
cut_by false b bs f e is more h =
    let inside : length (first_line bs) < length bs = omega (arith, h, ap length is) in
    let next : suc (length (first_line bs)) + 1 ≡ suc (length (first_line bs) + 1) = omega arith in
    ap (λ t. if t then [] ∷ lines_of bs else with_front b (lines_of bs)) e ∙ ap (with_front b) (more inside)
    ∙ rw is (ap (λ n. (b ∷ take (length (first_line bs)) bs) ∷ lines_of (drop n (b ∷ bs))) (sym next))

-- a text with an LF is its first line, then the lines behind it
pub lines-cut : (bs : List ℕ) → length (first_line bs) < length bs → lines_of bs ≡ take (length (first_line bs)) bs ∷ lines_of (drop (length (first_line bs) + 1) bs)
lines-cut [] h = absurd (omega (arith, h))
lines-cut (b ∷ bs) h = cut_by (b == 10) b bs (first_line (b ∷ bs)) refl (take_while-cons (λ x. not (x == 10)) b bs) (lines-cut bs) h

whole_by : (t : Bool) (b : ℕ) (bs f : List ℕ) → (b == 10) ≡ t → f ≡ cond (not t) (b ∷ first_line bs) []
    → (length bs ≤ length (first_line bs) → lines_of bs ≡ bs ∷ [])
    → suc (length bs) ≤ length f
    → lines_of (b ∷ bs) ≡ (b ∷ bs) ∷ []
whole_by true b bs f e is more h = absurd (omega (arith, h, ap length is))
whole_by false b bs f e is more h =
    let whole : length bs ≤ length (first_line bs) = omega (arith, h, ap length is) in
    ap (λ t. if t then [] ∷ lines_of bs else with_front b (lines_of bs)) e ∙ ap (with_front b) (more whole)

-- a text without an LF is one line
pub lines-whole : (bs : List ℕ) → length bs ≤ length (first_line bs) → lines_of bs ≡ bs ∷ []
lines-whole [] h = refl
lines-whole (b ∷ bs) h = whole_by (b == 10) b bs (first_line (b ∷ bs)) refl (take_while-cons (λ x. not (x == 10)) b bs) (lines-whole bs) h

-- one more line was cut off
pub cut_more : {A : Type 0} (f : A → List ℕ) (text : List ℕ) (lines more : List A) (x : A) (rest after : List ℕ) (at : ℕ)
    → lines_of text ≡ map f lines ++ lines_of rest → at ≡ length (first_line rest) → at < length rest
    → f x ≡ take at rest → after ≡ drop (at + 1) rest → more ≡ lines ++ x ∷ []
    → lines_of text ≡ map f more ++ lines_of after
cut_more f text lines more x rest after at so_far at_is inside x_is after_is more_is =
    let cut : lines_of rest ≡ take at rest ∷ lines_of (drop (at + 1) rest) = rw at_is (lines-cut rest (subst (λ (n : ℕ). n < length rest) at_is inside)) in
    rw (more_is, after_is) (so_far ∙ ap (λ s. map f lines ++ s) (cut ∙ ap (λ t. t ∷ lines_of (drop (at + 1) rest)) (sym x_is))
    ∙ sym (append_assoc (map f lines) (f x ∷ []) (lines_of (drop (at + 1) rest)))
    ∙ ap (λ s. s ++ lines_of (drop (at + 1) rest)) (sym (map-append f lines (x ∷ []))))

-- the last line
pub cut_last : {A : Type 0} (f : A → List ℕ) (text : List ℕ) (lines more : List A) (x : A) (rest : List ℕ) (at : ℕ)
    → lines_of text ≡ map f lines ++ lines_of rest → at ≡ length (first_line rest) → length rest ≤ at → f x ≡ rest → more ≡ lines ++ x ∷ []
    → map f more ≡ lines_of text
cut_last f text lines more x rest at so_far at_is end x_is more_is =
    rw more_is (map-append f lines (x ∷ []) ∙ ap (λ t. map f lines ++ t ∷ []) x_is
    ∙ ap (λ s. map f lines ++ s) (sym (lines-whole rest (omega (arith, at_is, end)))) ∙ sym so_far)

-- ---- lines put together

-- bytes without an LF
abbrev pub IsInLine : List ℕ → Type 0
IsInLine bs = AllByRecursion (λ b. ((b == 10) ≡ false) × (b < 256)) bs

one_line : (line rest : List ℕ) → IsInLine line → lines_of (line ++ 10 ∷ rest) ≡ line ∷ lines_of rest
one_line [] rest all = refl
one_line (b ∷ bs) rest all =
    ap (λ t. if t then [] ∷ lines_of (bs ++ 10 ∷ rest) else with_front b (lines_of (bs ++ 10 ∷ rest))) all.0.0
    ∙ ap (with_front b) (one_line bs rest all.1)

last_line : (line : List ℕ) → IsInLine line → lines_of line ≡ line ∷ []
last_line [] all = refl
last_line (b ∷ bs) all = ap (λ t. if t then [] ∷ lines_of bs else with_front b (lines_of bs)) all.0.0 ∙ ap (with_front b) (last_line bs all.1)

-- lines that were put together are cut where they were put together
pub lines_back : (line : List ℕ) (lines : List (List ℕ)) → AllByRecursion IsInLine (line ∷ lines) → lines_of (with_ends (line ∷ lines)) ≡ line ∷ lines
lines_back line [] all = last_line line all.0
lines_back line (next ∷ lines) all = one_line line (with_ends (next ∷ lines)) all.0 ∙ ap (λ ls. line ∷ ls) (lines_back next lines all.1)

-- and they are bytes
pub lines_bytes : (line : List ℕ) (lines : List (List ℕ)) → AllByRecursion IsInLine (line ∷ lines) → AllByRecursion (λ b. b < 256) (with_ends (line ∷ lines))
lines_bytes line [] all = alone line all.0
  where
    alone : (bs : List ℕ) → IsInLine bs → AllByRecursion (λ b. b < 256) bs
    alone [] all = tt
    alone (b ∷ bs) all = (all.0.1, alone bs all.1)
lines_bytes line (next ∷ lines) all = before line all.0 (lines_bytes next lines all.1)
  where
    before : (bs : List ℕ) → IsInLine bs → AllByRecursion (λ b. b < 256) (with_ends (next ∷ lines)) → AllByRecursion (λ b. b < 256) (bs ++ 10 ∷ with_ends (next ∷ lines))
    before [] within later = (omega arith, later)
    before (b ∷ bs) within later = (within.0.1, before bs within.1 later)

-- the line at a place, and its bytes
pub line_at : (lines : List (Bor (List ℕ))) (i : ℕ) (d : Bor (List ℕ)) → (get_or lines i d).now ≡ get_or (map (λ line. line.now) lines) i d.now
line_at [] i d = refl
line_at (line ∷ lines) zero d = refl
line_at (line ∷ lines) (suc i) d = line_at lines i d
