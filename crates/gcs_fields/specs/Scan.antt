-- How the bytes of a mask follow each other
use Rattle.std.specs.Prelude.{◌≡◌, ℕ, ◌+◌, true, ◌==◌, nat_lt, List, [], ◌∷◌, length, Option, Some, None, if◌then◌else◌, option_and_then}
use Rattle.gcs_fields.specs.declared.scan.Place.{Place}
use Rattle.gcs_fields.specs.declared.scan.Place.TheVariants as place
use Rattle.gcs_fields.specs.declared.scan.Sign.{Sign}
use Rattle.gcs_fields.specs.declared.scan.Sign.TheVariants as sign
use Rattle.gcs_fields.specs.Tree.{is_name_byte, most_levels}

-- a byte between names
abbrev pub separator : ℕ → Sign
separator b = if b == 47 then sign.Slash else (if b == 40 then sign.Open else (if b == 44 then sign.Comma else (if b == 41 then sign.Close else sign.Bad)))

-- a byte behind brackets
abbrev pub closing : ℕ → Sign
closing b = if b == 44 then sign.Comma else (if b == 41 then sign.Close else sign.Bad)

-- what a byte is in its place
abbrev pub sign_of : Place → ℕ → Sign
sign_of place.Start b = if b == 42 then sign.Star else (if is_name_byte b then sign.Letter else sign.Bad)
sign_of place.Key b = if is_name_byte b then sign.Letter else separator b
sign_of place.Star b = separator b
sign_of place.Closed b = closing b

-- a whole name stands there
abbrev pub IsNamed : Place → Type 0
IsNamed place.Start = ⊥
IsNamed place.Key = Unit {0}
IsNamed place.Star = Unit {0}
IsNamed place.Closed = ⊥

-- a whole item stands there
abbrev pub IsItem : Place → Type 0
IsItem place.Start = ⊥
IsItem place.Key = Unit {0}
IsItem place.Star = Unit {0}
IsItem place.Closed = Unit {0}

-- a key stands there, or nothing of a name
abbrev pub MayGoOn : Place → Type 0
MayGoOn place.Start = Unit {0}
MayGoOn place.Key = Unit {0}
MayGoOn place.Star = ⊥
MayGoOn place.Closed = ⊥

-- where a sign comes, and for which byte
abbrev pub IsSigned : Place → ℕ → Sign → Type 0
IsSigned p b sign.Star = (p ≡ place.Start) × (b ≡ 42)
IsSigned p b sign.Letter = MayGoOn p × (is_name_byte b ≡ true)
IsSigned p b sign.Slash = IsNamed p × (b ≡ 47)
IsSigned p b sign.Open = IsNamed p × (b ≡ 40)
IsSigned p b sign.Comma = IsItem p × (b ≡ 44)
IsSigned p b sign.Close = IsItem p × (b ≡ 41)
IsSigned p b sign.Bad = Unit {0}

-- where a text stops: its place, the level of the name there, the level of the first names within the innermost bracket, and those of the outer ones, innermost first
pub record Stop : Type 0 where
  pub place : Place
  pub level : ℕ
  pub first : ℕ
  pub outer : List ℕ

-- before the first byte
abbrev pub start : Stop
start = record { place = place.Start; level = 1; first = 1; outer = [] }

-- where the text stops behind a `)`; none: no bracket is open
abbrev pub closed : List ℕ → Option Stop
closed [] = None
closed (first ∷ outer) = Some record { place = place.Closed; level = first; first = first; outer = outer }

-- where the text stops behind a sign; none: no mask goes on so
abbrev pub stepped : Stop → Sign → Option Stop
stepped s sign.Bad = None
stepped s sign.Star = Some record { place = place.Star; level = s.level; first = s.first; outer = s.outer }
stepped s sign.Letter = Some record { place = place.Key; level = s.level; first = s.first; outer = s.outer }
stepped s sign.Slash = if nat_lt s.level most_levels then Some record { place = place.Start; level = s.level + 1; first = s.first; outer = s.outer } else None
stepped s sign.Open = if nat_lt (s.level + 1) most_levels then Some record { place = place.Start; level = s.level + 2; first = s.level + 2; outer = s.first ∷ s.outer } else None
stepped s sign.Comma = Some record { place = place.Start; level = s.first; first = s.first; outer = s.outer }
stepped s sign.Close = closed s.outer

-- where the text stops behind a byte
abbrev pub step : Stop → ℕ → Option Stop
step s b = stepped s (sign_of s.place b)

-- where a text stops that begins at a stop; none: no mask goes on so
abbrev pub run : Stop → List ℕ → Option Stop
run s [] = Some s
run s (b ∷ bs) = option_and_then (λ t. run t bs) (step s b)

-- how many bytes at least a mask has behind a stop
abbrev pub needed_at : Place → ℕ → ℕ
needed_at place.Start n = n + 1
needed_at place.Key n = n
needed_at place.Star n = n
needed_at place.Closed n = n

-- how many bytes at least a mask has behind this stop
abbrev pub needed_of : Stop → ℕ
needed_of s = needed_at s.place (length s.outer)

-- a mask may end there
abbrev pub IsWhole : Stop → Type 0
IsWhole s = IsItem s.place × (s.outer ≡ [])
