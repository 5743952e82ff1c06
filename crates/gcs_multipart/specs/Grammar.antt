-- A multipart body.
use Rattle.std.specs.Prelude.{◌≡◌, ℕ, List, [], ◌∷◌, ◌++◌}
use Rattle.gcs_multipart.specs.declared.mark.Mark.{Mark}
use Rattle.gcs_multipart.specs.declared.mark.Mark.TheVariants.{Next, Last}
use Rattle.gcs_multipart.specs.Delimiter.{EndsAt}
use Rattle.gcs_multipart.specs.Head.{IsHead}

-- a part: its lines with the empty one, and its content
pub record Part : Type 0 where
  pub head : List ℕ
  pub content : List ℕ

-- the bytes up to the first delimiter; at the body's begin its CR LF isn't needed
abbrev pub IsPreamble : List ℕ → Mark → List ℕ → Type 0
IsPreamble boundary mark text = (passed : List ℕ) × EndsAt boundary (13 ∷ 10 ∷ text) passed mark

-- a body up to a delimiter with this mark, with these parts, the newest first
abbrev pub AreParts : List ℕ → Mark → List Part → List ℕ → Type 0
AreParts boundary mark [] text = IsPreamble boundary mark text
AreParts boundary mark (part ∷ parts) text =
    (front : List ℕ) × (rest : List ℕ) × (text ≡ front ++ (part.head ++ rest))
    × AreParts boundary Next parts front × IsHead part.head × EndsAt boundary rest part.content mark

-- a whole body: behind the last delimiter bytes are passed over
abbrev pub IsBody : List ℕ → List Part → List ℕ → Type 0
IsBody boundary parts text =
    (front : List ℕ) × (passed : List ℕ) × (text ≡ front ++ passed) × AreParts boundary Last parts front

-- a body has one list of parts
abbrev pub OneBody : Type 0
OneBody =
    (boundary text : List ℕ) (parts others : List Part) → IsBody boundary parts text → IsBody boundary others text → parts ≡ others
