-- How the front of a head text goes on by a LF.
use Rattle.std.proofs.Common.{◌≡◌, ℕ, ◌+◌, ◌≤◌, true, false, List, [], ◌∷◌, ◌++◌, length, refl, ap, ◌∙◌, arith, append_assoc, length-append}
use Rattle.std.specs.List.{AllByRecursion}
use Rattle.std.proofs.lemmas.List.Concat.{flat_map-append}
use Rattle.gcs_http_in.specs.Lines.{print_line, print_lines, is_blank, IsBlank, IsFilled, OpensHead}

-- nothing more changes nothing
pub append_nil : {X : Type 0} (xs : List X) → xs ++ [] ≡ xs
append_nil [] = refl
append_nil (x ∷ xs) = ap (λ ys. x ∷ ys) (append_nil xs)

-- one more that has the property
pub All_push : {X : Type 0} (P : X → Type 0) (xs : List X) (x : X) → AllByRecursion P xs → P x → AllByRecursion P (xs ++ x ∷ [])
All_push P [] x all here = (here, tt)
All_push P (y ∷ ys) x all here = (all.0, All_push P ys x all.1 here)

-- one more line at the end
pub lines_push : (lines : List (List ℕ)) (line : List ℕ) → print_lines (lines ++ line ∷ []) ≡ print_lines lines ++ print_line line
lines_push lines line = flat_map-append print_line lines (line ∷ []) ∙ ap (λ t. print_lines lines ++ t) (append_nil (print_line line))

-- a nonempty line ends
pub fills_line : (text : List ℕ) (blank lines : List (List ℕ)) (tail : List ℕ) → OpensHead text blank lines tail
    → is_blank tail ≡ false → OpensHead (text ++ 10 ∷ []) blank (lines ++ tail ∷ []) []
fills_line text blank lines tail o e = record {
  spelled = rw (o.spelled, lines_push, append_nil) (simp append_assoc);
  all_blank = o.all_blank;
  all_filled = All_push IsFilled lines tail o.all_filled (o.open_line, e);
  open_line = tt;
}

-- a leading empty line ends
pub skips_line : (text : List ℕ) (blank lines : List (List ℕ)) (tail : List ℕ) → OpensHead text blank lines tail
    → is_blank tail ≡ true → length lines ≤ 0 → OpensHead (text ++ 10 ∷ []) (blank ++ tail ∷ []) [] []
skips_line text blank (line ∷ lines) tail o e none = absurd (omega arith)
skips_line text blank [] tail o e none = record {
  spelled = rw (o.spelled, lines_push, append_nil) (simp append_assoc);
  all_blank = All_push IsBlank blank tail o.all_blank (o.open_line, e);
  all_filled = tt;
  open_line = tt;
}

-- the text so far is what its lines are
pub length_skipped : (text : List ℕ) (blank lines : List (List ℕ)) (tail : List ℕ) → OpensHead text blank lines tail
    → length lines ≤ 0 → length text + 1 ≡ length (print_lines (blank ++ tail ∷ []))
length_skipped text blank (line ∷ lines) tail o none = absurd (omega arith)
length_skipped text blank [] tail o none =
    rw (o.spelled, lines_push) (simp (length-append) (omega arith))
