-- What was read of a multipart body.
use Rattle.std.specs.Prelude.{◌≡◌, ℕ, ◌<◌, ◌≤◌, List, [], ◌∷◌, ◌++◌, length, take, slice_range, Option, Some, None, ◌⊎◌}
use Rattle.gcs_multipart.specs.declared.mark.Mark.TheVariants as mark
use Rattle.gcs_multipart.specs.declared.parts.State.{State}
use Rattle.gcs_multipart.specs.declared.parts.State.TheVariants as state
use Rattle.gcs_multipart.specs.declared.parts.Step.{Step}
use Rattle.gcs_multipart.specs.declared.parts.Step.TheVariants as step
use Rattle.gcs_multipart.specs.declared.parts.PartTaken.{PartTaken}
use Rattle.gcs_multipart.specs.declared.parts.PartTaken.TheVariants as taken
use Rattle.gcs_multipart.specs.declared.parts.Parts.{Parts}
use Rattle.gcs_multipart.specs.declared.seek.Seeker.{Seeker}
use Rattle.gcs_multipart.specs.declared.head.HeadText.{HeadText}
use Rattle.gcs_multipart.specs.Delimiter.{IsBoundary}
use Rattle.gcs_multipart.specs.Seek.{IsFor, Seeks}
use Rattle.gcs_multipart.specs.Head.{IsHead, IsLongHead}
use Rattle.gcs_multipart.specs.Scan.{Scans, text_of}
use Rattle.gcs_multipart.specs.Grammar.{Part, AreParts, IsBody}

-- before the first delimiter
pub record InPreamble (seeker : Seeker) (boundary bytes : List ℕ) (parts : List Part) (current : Option Part) : Type 0 where
  pub none : parts ≡ []
  pub nothing : current ≡ None
  pub passed : List ℕ
  pub seeks : Seeks seeker boundary (13 ∷ 10 ∷ bytes) passed

-- in the lines of a part
pub record InHead (seeker : Seeker) (text : HeadText) (boundary bytes : List ℕ) (parts : List Part) (current : Option Part) : Type 0 where
  pub nothing : current ≡ None
  pub front : List ℕ
  pub head : List ℕ
  pub split : bytes ≡ front ++ head
  pub before : AreParts boundary mark.Next parts front
  pub scans : Scans text head
  pub buffer : IsFor boundary seeker.text.items

-- in the content of a part, the current one, whose lines the buffer has
pub record InContent (seeker : Seeker) (text : HeadText) (boundary bytes : List ℕ) (parts : List Part) (current : Option Part) : Type 0 where
  pub it : Part
  pub is : current ≡ Some it
  pub front : List ℕ
  pub rest : List ℕ
  pub split : bytes ≡ front ++ (it.head ++ rest)
  pub before : AreParts boundary mark.Next parts front
  pub head : IsHead it.head
  pub holds : text_of text ≡ it.head
  pub seeks : Seeks seeker boundary rest it.content

-- behind the last delimiter
pub record InLast (boundary bytes : List ℕ) (parts : List Part) (current : Option Part) : Type 0 where
  pub nothing : current ≡ None
  pub body : IsBody boundary parts bytes

-- the lines of a part are too long
pub record InBad (boundary bytes : List ℕ) (parts : List Part) (current : Option Part) : Type 0 where
  pub nothing : current ≡ None
  pub front : List ℕ
  pub head : List ℕ
  pub rest : List ℕ
  pub split : bytes ≡ front ++ (head ++ rest)
  pub before : AreParts boundary mark.Next parts front
  pub long : IsLongHead head

-- what the parts of a reader say, by its state
abbrev pub StandsIn : Seeker → HeadText → State → List ℕ → List ℕ → List Part → Option Part → Type 0
StandsIn seeker text state.Preamble boundary bytes parts current = InPreamble seeker boundary bytes parts current
StandsIn seeker text state.Head boundary bytes parts current = InHead seeker text boundary bytes parts current
StandsIn seeker text state.Content boundary bytes parts current = InContent seeker text boundary bytes parts current
StandsIn seeker text state.Last boundary bytes parts current = InLast boundary bytes parts current
StandsIn seeker text state.Bad boundary bytes parts current = InBad boundary bytes parts current

-- the bytes that were taken have these whole parts, the newest first, and then the current one so far
abbrev pub Stands : Parts → List ℕ → List ℕ → List Part → Option Part → Type 0
Stands p boundary bytes parts current = StandsIn p.seeker p.head p.state boundary bytes parts current

-- the bytes that were held and are content
abbrev pub held_of : Parts → List ℕ
held_of p = take p.seeker.given p.seeker.text.items

-- the current part, with more content
abbrev pub WithMore : Parts → List ℕ → List ℕ → List Part → Option Part → List ℕ → Type 0
WithMore p boundary bytes parts current more =
    (it : Part) × (current ≡ Some it) × Stands p boundary bytes parts (Some record { head = it.head; content = it.content ++ more })

-- what a byte brings
abbrev pub Pushed : Parts → List ℕ → Step → ℕ → List ℕ → List Part → Option Part → Type 0
Pushed p boundary step.More b bytes parts current = Stands p boundary bytes parts current
Pushed p boundary step.Head b bytes parts current =
    (current ≡ None) × ((head : List ℕ) × Stands p boundary bytes parts (Some record { head = head; content = [] }))
Pushed p boundary step.Given b bytes parts current =
    (b ≡ 13) × (p.state ≡ state.Content) × (p.seeker.held ≡ 1) × WithMore p boundary bytes parts current (held_of p)
Pushed p boundary step.Passed b bytes parts current =
    (p.state ≡ state.Content) × (p.seeker.held ≡ 0) × WithMore p boundary bytes parts current (held_of p ++ b ∷ [])
Pushed p boundary step.End b bytes parts current =
    (it : Part) × (current ≡ Some it) × Stands p boundary bytes (it ∷ parts) None
Pushed p boundary step.Last b bytes parts current =
    ((current ≡ None) × IsBody boundary parts bytes × Stands p boundary bytes parts None)
    ⊎ ((it : Part) × (current ≡ Some it) × IsBody boundary (it ∷ parts) bytes × Stands p boundary bytes (it ∷ parts) None)
Pushed p boundary step.Bad b bytes parts current = (p.state ≡ state.Bad) × InBad boundary bytes parts current

-- a byte brings this to a reader, whatever it has read
abbrev pub Brings : Parts → Parts → Step → ℕ → Type 0
Brings before after brought b =
    (boundary bytes : List ℕ) (parts : List Part) (current : Option Part) → IsBoundary boundary
    → Stands before boundary bytes parts current → Pushed after boundary brought b (bytes ++ b ∷ []) parts current

-- where content has come, no more than the last byte is held
abbrev pub HoldsFew : Parts → Step → Type 0
HoldsFew p step.More = Unit {0}
HoldsFew p step.Head = Unit {0}
HoldsFew p step.Given = p.seeker.held ≤ 1
HoldsFew p step.Passed = p.seeker.held ≤ 1
HoldsFew p step.End = Unit {0}
HoldsFew p step.Last = Unit {0}
HoldsFew p step.Bad = Unit {0}

-- what a call took lies in a piece of so many bytes: all of it, or at least a byte; and content lies in what was taken
abbrev pub IsInPiece : PartTaken → ℕ → Type 0
IsInPiece (taken.More n) size = n ≡ size
IsInPiece (taken.PartHead n) size = (0 < n) × (n ≤ size)
IsInPiece (taken.Content n from to) size = (0 < n) × (n ≤ size) × (from ≤ to) × (to ≤ n)
IsInPiece (taken.PartEnd n) size = (0 < n) × (n ≤ size)
IsInPiece (taken.Last n) size = (0 < n) × (n ≤ size)
IsInPiece (taken.BadPart n) size = (0 < n) × (n ≤ size)

-- what a call tells of the bytes that it took: all of the piece, or at least a byte
abbrev pub Told : Parts → List ℕ → PartTaken → List ℕ → List ℕ → List Part → Option Part → Type 0
Told p boundary (taken.More n) piece bytes parts current = (n ≡ length piece) × Stands p boundary (bytes ++ take n piece) parts current
Told p boundary (taken.PartHead n) piece bytes parts current =
    (0 < n) × (n ≤ length piece) × Pushed p boundary step.Head 0 (bytes ++ take n piece) parts current
Told p boundary (taken.Content n from to) piece bytes parts current =
    (0 < n) × (n ≤ length piece) × (from ≤ to) × (to ≤ n)
    × WithMore p boundary (bytes ++ take n piece) parts current (held_of p ++ slice_range piece from to)
Told p boundary (taken.PartEnd n) piece bytes parts current =
    (0 < n) × (n ≤ length piece) × Pushed p boundary step.End 0 (bytes ++ take n piece) parts current
Told p boundary (taken.Last n) piece bytes parts current =
    (0 < n) × (n ≤ length piece) × Pushed p boundary step.Last 0 (bytes ++ take n piece) parts current
Told p boundary (taken.BadPart n) piece bytes parts current =
    (0 < n) × (n ≤ length piece) × Pushed p boundary step.Bad 0 (bytes ++ take n piece) parts current

-- a call tells this of a piece, whatever the reader has read
abbrev pub Tells : Parts → Parts → PartTaken → List ℕ → Type 0
Tells before after result piece =
    (boundary bytes : List ℕ) (parts : List Part) (current : Option Part) → IsBoundary boundary
    → Stands before boundary bytes parts current → Told after boundary result piece bytes parts current
