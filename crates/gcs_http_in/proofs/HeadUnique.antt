-- A text begins with at most one head text, and with none while one is open.
use Rattle.std.proofs.Common.{◌≡◌, ℕ, Bool, true, false, List, [], ◌∷◌, ◌++◌, refl, sym, ◌∙◌, arith, append_assoc}
use Rattle.std.specs.Prelude.{not}
use Rattle.std.specs.List.{AllByRecursion}
use Rattle.gcs_http_in.specs.Lines.{print_line, print_lines, is_blank, IsLine, IsHeadText, OpensHead}

-- a line ends with its first LF
pub line_unique : (a b x y : List ℕ) → IsLine a → IsLine b → print_line a ++ x ≡ print_line b ++ y → (a ≡ b) × (x ≡ y)
line_unique [] [] x y f g e = (refl, cc)
line_unique [] (b ∷ bs) x y f g e = absurd (g.0 (cc))
line_unique (a ∷ as') [] x y f g e = absurd (f.0 (cc))
line_unique (a ∷ as') (b ∷ bs) x y f g e =
    let h : a ≡ b = cc in
    let t : print_line as' ++ x ≡ print_line bs ++ y = cc in
    let r = line_unique as' bs x y f.1 g.1 t in
    (cc, r.1)

-- what holds no LF has no line
pub line_open : (tail q y : List ℕ) → IsLine tail → tail ≡ print_line q ++ y → ⊥
line_open [] [] y f e = cc
line_open [] (c ∷ q) y f e = cc
line_open (b ∷ tail) [] y f e = f.0 (cc)
line_open (b ∷ tail) (c ∷ q) y f e = line_open tail q y f.1 (cc)

-- lines that are all empty, or all nonempty
abbrev pub Alike : Bool → List ℕ → Type 0
Alike t line = IsLine line × (is_blank line ≡ t)

-- an empty line is no nonempty one
differ : (t : Bool) (a b : List ℕ) → a ≡ b → is_blank a ≡ t → is_blank b ≡ not t → ⊥
differ true a b e p q = let h : true ≡ false = cc in cc
differ false a b e p q = let h : true ≡ false = cc in cc

-- bytes after a line
after_line : (line rest t : List ℕ) → (print_line line ++ rest) ++ t ≡ print_line line ++ (rest ++ t)
after_line line rest t = append_assoc (print_line line) rest t

-- a run of alike lines ends where a line of the other kind begins
pub run_unique : (t : Bool) (xs ys : List (List ℕ)) (p q x y : List ℕ) → AllByRecursion (Alike t) xs → AllByRecursion (Alike t) ys
    → Alike (not t) p → Alike (not t) q → print_lines xs ++ (print_line p ++ x) ≡ print_lines ys ++ (print_line q ++ y)
    → (xs ≡ ys) × (p ≡ q) × (x ≡ y)
run_unique t [] [] p q x y a b f g e = let r = line_unique p q x y f.0 g.0 e in (refl, r.0, r.1)
run_unique t [] (m ∷ ys) p q x y a b f g e =
    let r = line_unique p m x _ f.0 b.0.0 (e ∙ after_line m (print_lines ys) (print_line q ++ y)) in
    absurd (differ t m p (sym r.0) b.0.1 f.1)
run_unique t (l ∷ xs) [] p q x y a b f g e =
    let r = line_unique q l y _ g.0 a.0.0 (sym e ∙ after_line l (print_lines xs) (print_line p ++ x)) in
    absurd (differ t l q (sym r.0) a.0.1 g.1)
run_unique t (l ∷ xs) (m ∷ ys) p q x y a b f g e =
    let r = line_unique l m _ _ a.0.0 b.0.0 (sym (after_line l (print_lines xs) (print_line p ++ x)) ∙ e ∙ after_line m (print_lines ys) (print_line q ++ y)) in
    let s = run_unique t xs ys p q x y a.1 b.1 f g r.1 in
    (cc, s.1, s.2)

-- a run that is open is the front of one that ends
pub run_open : (t : Bool) (xs ys : List (List ℕ)) (tail q y : List ℕ) → AllByRecursion (Alike t) xs → AllByRecursion (Alike t) ys
    → IsLine tail → Alike (not t) q → print_lines xs ++ tail ≡ print_lines ys ++ (print_line q ++ y) → ⊥
run_open t [] [] tail q y a b f g e = line_open tail q y f e
run_open t [] (m ∷ ys) tail q y a b f g e = line_open tail m _ f (e ∙ after_line m (print_lines ys) (print_line q ++ y))
run_open t (l ∷ xs) [] tail q y a b f g e =
    let r = line_unique q l y _ g.0 a.0.0 (sym e ∙ after_line l (print_lines xs) tail) in
    differ t l q (sym r.0) a.0.1 g.1
run_open t (l ∷ xs) (m ∷ ys) tail q y a b f g e =
    let r = line_unique l m _ _ a.0.0 b.0.0 (sym (after_line l (print_lines xs) tail) ∙ e ∙ after_line m (print_lines ys) (print_line q ++ y)) in
    run_open t xs ys tail q y a.1 b.1 f g r.1

-- a head text and more, from its first nonempty line
head_parts : (a : List ℕ) (blank ls : List (List ℕ)) (l last x : List ℕ) → a ≡ print_lines blank ++ (print_lines (l ∷ ls) ++ print_line last)
    → a ++ x ≡ print_lines blank ++ (print_line l ++ (print_lines ls ++ (print_line last ++ x)))
head_parts a blank ls l last x e = rw e (simp append_assoc)

-- a text has one head text at its front, with the same lines
pub head_unique : (a b x y : List ℕ) (blank blank' lines lines' : List (List ℕ)) (last last' : List ℕ)
    → IsHeadText a blank lines last → IsHeadText b blank' lines' last' → a ++ x ≡ b ++ y
    → (blank ≡ blank') × (lines ≡ lines') × (last ≡ last') × (x ≡ y)
head_unique a b x y blank blank' [] lines' last last' h k e = absurd (omega (arith, h.some))
head_unique a b x y blank blank' (l ∷ ls) [] last last' h k e = absurd (omega (arith, k.some))
head_unique a b x y blank blank' (l ∷ ls) (m ∷ ms) last last' h k e =
    let r = run_unique true blank blank' l m _ _ h.all_blank k.all_blank h.all_filled.0 k.all_filled.0
    (sym (head_parts a blank ls l last x h.spelled) ∙ e ∙ head_parts b blank' ms m last' y k.spelled) in
    let s = run_unique false ls ms last last' x y h.all_filled.1 k.all_filled.1 h.ends k.ends r.2 in
    (r.0, cc, s.1, s.2)

-- an open head with one line more
open_parts : (a : List ℕ) (blank ls : List (List ℕ)) (l tail : List ℕ) → a ≡ print_lines blank ++ (print_lines (l ∷ ls) ++ tail)
    → a ≡ print_lines blank ++ (print_line l ++ (print_lines ls ++ tail))
open_parts a blank ls l tail e = rw e (simp append_assoc)

-- an open head has no whole one at its front
pub open_none : (text a x : List ℕ) (blank blank' lines lines' : List (List ℕ)) (tail last : List ℕ)
    → OpensHead text blank lines tail → IsHeadText a blank' lines' last → text ≡ a ++ x → ⊥
open_none text a x blank blank' lines [] tail last o h e = omega (arith, h.some)
open_none text a x blank blank' [] (m ∷ ms) tail last o h e =
    run_open true blank blank' tail m _ o.all_blank h.all_blank o.open_line h.all_filled.0
    (sym o.spelled ∙ e ∙ head_parts a blank' ms m last x h.spelled)
open_none text a x blank blank' (l ∷ ls) (m ∷ ms) tail last o h e =
    let r = run_unique true blank blank' l m _ _ o.all_blank h.all_blank o.all_filled.0 h.all_filled.0
    (sym (open_parts text blank ls l tail o.spelled) ∙ e ∙ head_parts a blank' ms m last x h.spelled) in
    run_open false ls ms tail last x o.all_filled.1 h.all_filled.1 o.open_line h.ends r.2
