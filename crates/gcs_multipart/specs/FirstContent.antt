-- The content of the first part, which may be told before it is whole.
use Rattle.std.specs.Prelude.{◌≡◌, ℕ, List, ◌++◌, ◌⊎◌}
use Rattle.gcs_multipart.specs.declared.mark.Mark.{Mark}
use Rattle.gcs_multipart.specs.declared.mark.Mark.TheVariants.{Next}
use Rattle.gcs_multipart.specs.Delimiter.{EndsAt, HasNone}
use Rattle.gcs_multipart.specs.Head.{IsHead}
use Rattle.gcs_multipart.specs.Grammar.{IsPreamble}

-- the text begins with this content and a delimiter
pub record EndsThere (boundary text content : List ℕ) : Type 0 where
  pub mark : Mark
  pub found : List ℕ
  pub back : List ℕ
  pub split : text ≡ found ++ back
  pub ends : EndsAt boundary found content mark

-- the content goes up to the next delimiter, or to the end of the text where none comes
abbrev pub EndsSomewhere : List ℕ → List ℕ → List ℕ → Type 0
EndsSomewhere boundary text content =
    EndsThere boundary text content ⊎ (HasNone boundary text × (content ≡ text))

-- the content of the first part, up to the next delimiter, or to the end of the body where none comes
pub record IsFirstContent (boundary text content : List ℕ) : Type 0 where
  pub front : List ℕ
  pub head : List ℕ
  pub rest : List ℕ
  pub split : text ≡ front ++ (head ++ rest)
  pub preamble : IsPreamble boundary Next front
  pub lines : IsHead head
  pub ends : EndsSomewhere boundary rest content

-- a text has at most one first content
abbrev pub OneFirstContent : Type 0
OneFirstContent =
    (boundary text content other : List ℕ) → IsFirstContent boundary text content
    → IsFirstContent boundary text other → content ≡ other
