-- How far a delimiter has come at the end of a text.
use Rattle.std.specs.Prelude.{◌≡◌, ℕ, ◌+◌, ◌≤◌, ◌==◌, List, [], ◌∷◌, ◌++◌, length, take, Option, Some, None, option_and_then, if◌then◌else◌}
use Rattle.gcs_multipart.specs.declared.mark.Sought.{Sought}
use Rattle.gcs_multipart.specs.declared.mark.Sought.TheVariants as sought
use Rattle.gcs_multipart.specs.declared.seek.Seeker.{Seeker}
use Rattle.gcs_multipart.specs.Delimiter.{needle, EndsAt}

-- what is left of the needle, or the first byte of a mark
pub data Stop : Type 0 where
  left : List ℕ → Stop
  return : Stop
  dash : Stop

-- a delimiter may begin with this byte
abbrev pub restart : List ℕ → ℕ → Stop
restart boundary b = if b == 13 then left (10 ∷ 45 ∷ 45 ∷ boundary) else left (needle boundary)

-- one byte on; none: a delimiter has come
abbrev pub step : List ℕ → Stop → ℕ → Option Stop
step boundary (left []) b =
    if b == 13 then Some return else (if b == 45 then Some dash else Some (restart boundary b))
step boundary (left (x ∷ xs)) b = if b == x then Some (left xs) else Some (restart boundary b)
step boundary return b = if b == 10 then None else Some (restart boundary b)
step boundary dash b = if b == 45 then None else Some (restart boundary b)

-- a text on; none: a delimiter has come
abbrev pub run : List ℕ → Stop → List ℕ → Option Stop
run boundary s [] = Some s
run boundary s (b ∷ bs) = option_and_then (λ t. run boundary t bs) (step boundary s b)

-- the bytes of a delimiter that are held at a stop
abbrev pub IsHeld : List ℕ → Stop → List ℕ → Type 0
IsHeld boundary (left xs) held = held ++ xs ≡ needle boundary
IsHeld boundary return held = held ≡ needle boundary ++ 13 ∷ []
IsHeld boundary dash held = held ≡ needle boundary ++ 45 ∷ []

-- the buffer of a seeker of this boundary: the needle, and the byte behind it that was held last
abbrev pub IsFor : List ℕ → List ℕ → Type 0
IsFor boundary buffer = (spare : ℕ) × (buffer ≡ needle boundary ++ spare ∷ [])

-- a text was seen, which is this content and then what is held, and no delimiter was in it;
-- the buffer has the needle and the byte behind it that was held last
pub record Sees (buffer : List ℕ) (count : ℕ) (boundary text content : List ℕ) : Type 0 where
  pub spare : ℕ
  pub whole : buffer ≡ needle boundary ++ spare ∷ []
  pub within : count ≤ length (needle boundary) + 1
  pub stop : Stop
  pub stops : run boundary (left (needle boundary)) text ≡ Some stop
  pub held : IsHeld boundary stop (take count buffer)
  pub spelled : text ≡ content ++ take count buffer

-- a seeker has seen this text, of which this is content
abbrev pub Seeks : Seeker → List ℕ → List ℕ → List ℕ → Type 0
Seeks s boundary text content = Sees s.text.items s.held boundary text content

-- a seeker has seen this text
abbrev pub HasSeen : Seeker → List ℕ → List ℕ → Type 0
HasSeen s boundary text = (content : List ℕ) × Seeks s boundary text content

-- what a byte makes of a seeker
abbrev pub NextOf : List ℕ → ℕ → ℕ → List ℕ → Sought → ℕ → List ℕ → List ℕ → Type 0
NextOf buffer held given boundary sought.Held b text content =
    Sees buffer held boundary (text ++ b ∷ []) content
NextOf buffer held given boundary sought.Given b text content =
    (b ≡ 13) × (held ≡ 1) × Sees buffer held boundary (text ++ b ∷ []) (content ++ take given buffer)
NextOf buffer held given boundary sought.Passed b text content =
    (held ≡ 0) × Sees buffer held boundary (text ++ b ∷ []) (content ++ (take given buffer ++ b ∷ []))
NextOf buffer held given boundary (sought.Found mark) b text content =
    EndsAt boundary (text ++ b ∷ []) content mark × IsFor boundary buffer

-- where bytes that were held are content, no more than the last byte is held then
abbrev pub HoldsFew : Seeker → Sought → Type 0
HoldsFew s sought.Held = Unit {0}
HoldsFew s sought.Given = s.held ≤ 1
HoldsFew s sought.Passed = s.held ≤ 1
HoldsFew s (sought.Found mark) = Unit {0}

-- a byte makes this of a seeker
abbrev pub Next : Seeker → List ℕ → Sought → ℕ → List ℕ → List ℕ → Type 0
Next s boundary result b text content = NextOf s.text.items s.held s.given boundary result b text content
