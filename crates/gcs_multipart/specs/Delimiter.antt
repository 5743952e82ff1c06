-- Delimiters, and the text up to the first one.
use Rattle.std.specs.Prelude.{◌≡◌, ◌≢◌, ℕ, List, [], ◌∷◌, ◌++◌}
use Rattle.std.specs.List.{AllByRecursion}
use Rattle.gcs_multipart.specs.declared.mark.Mark.{Mark}
use Rattle.gcs_multipart.specs.declared.mark.Mark.TheVariants.{Next, Last}

-- CR LF, `--` and the boundary
abbrev pub needle : List ℕ → List ℕ
needle boundary = 13 ∷ 10 ∷ 45 ∷ 45 ∷ boundary

-- CR LF, or `--` at the last delimiter
abbrev pub print_mark : Mark → List ℕ
print_mark Next = 13 ∷ 10 ∷ []
print_mark Last = 45 ∷ 45 ∷ []

-- a delimiter with that mark
abbrev pub delimiter : List ℕ → Mark → List ℕ
delimiter boundary mark = needle boundary ++ print_mark mark

-- a boundary has no CR
abbrev pub IsBoundary : List ℕ → Type 0
IsBoundary boundary = AllByRecursion (λ b. b ≢ 13) boundary

-- there is no delimiter in the text
abbrev pub HasNone : List ℕ → List ℕ → Type 0
HasNone boundary text =
    (mark : Mark) (front back : List ℕ) → text ≡ front ++ (delimiter boundary mark ++ back) → ⊥

-- the text is this content and then a delimiter, before whose last byte there is none
pub record EndsAt (boundary text content : List ℕ) (mark : Mark) : Type 0 where
  pub spelled : text ≡ content ++ delimiter boundary mark
  pub front : List ℕ
  pub last : ℕ
  pub split : text ≡ front ++ last ∷ []
  pub none : HasNone boundary front
