-- Where a piece of a resumable upload lies: what the field `Content-Range` tells (RFC 9110, 14.4; Cloud Storage, "Resumable uploads").
use Rattle.std.specs.Prelude.{◌≡◌, ◌≤◌, ◌<◌, ◌↔◌, ℕ, ◌+◌, ◌==◌, ◌&&◌, nat_eq, nat_le, nat_lt, Bool, true, List, ◌++◌, drop, codes, bytes_eq, Option, Some, None, option_map, option_and_then, if◌then◌else◌}
use Rattle.std.specs.List.{starts_with}
use Rattle.gcs_request.specs.declared.piece_ranges.PieceRange.{PieceRange}
use Rattle.gcs_request.specs.declared.piece_ranges.PieceRange.TheVariants.{Whole, Bytes, Status}
use Rattle.gcs_request.specs.Ranges.{around, number_of, IsNumberText}

-- the length of the whole content: a number, or `*` where it isn't told
abbrev pub length_of : List ℕ → Option (Option ℕ)
length_of text = if bytes_eq text (codes "*") then Some None else option_map (λ n. Some n) (number_of text)

-- a place stands in a content of that length
abbrev pub is_inside : ℕ → Option ℕ → Bool
is_inside last None = true
is_inside last (Some total) = nat_lt last total

-- the piece from the first place to the last: these are in order, and stand in the content
abbrev pub bytes_by : Option ℕ → Option ℕ → Option ℕ → Option PieceRange
bytes_by (Some first) (Some last) total = if nat_le first last && is_inside last total then Some (Bytes first last total) else None
bytes_by _ _ total = None

-- what is told by the text before the `/` and the length behind it: a question for what is kept, or a piece between two places
abbrev pub piece_by : List ℕ → Option (Option ℕ) → Option PieceRange
piece_by places None = None
piece_by places (Some total) =
    if bytes_eq places (codes "*") then Some (Status total)
    else option_and_then (λ texts. bytes_by (number_of texts.0) (number_of texts.1) total) (around 45 places)

-- what the value of a `Content-Range` field tells of a piece, if it tells anything
unfoldable pub piece_in : List ℕ → Option PieceRange
piece_in value =
    if starts_with nat_eq value (codes "bytes ") then option_and_then (λ texts. piece_by texts.0 (length_of texts.1)) (around 47 (drop 6 value))
    else None

-- what the field tells of a piece: without it the piece is the whole content. Any other value tells nothing, an empty one neither
abbrev pub read_piece_range : Option (List ℕ) → Option PieceRange
read_piece_range None = Some Whole
read_piece_range (Some value) = piece_in value

-- the text writes the length of the whole content, or is `*`
abbrev pub IsLengthText : List ℕ → Option ℕ → Type 0
IsLengthText text None = text ≡ codes "*"
IsLengthText text (Some total) = IsNumberText text total

-- a place stands in a content of that length
abbrev pub IsInside : ℕ → Option ℕ → Type 0
IsInside last None = Unit {0}
IsInside last (Some total) = last < total

-- the text is `bytes `, a place, `-`, a later place, `/` and a length behind it
pub record IsBytesText (text : List ℕ) (first last : ℕ) (total : Option ℕ) : Type 0 where
  pub from : List ℕ
  pub to : List ℕ
  pub length : List ℕ
  pub text_is : text ≡ codes "bytes " ++ (from ++ (codes "-" ++ (to ++ (codes "/" ++ length))))
  pub first_is : IsNumberText from first
  pub last_is : IsNumberText to last
  pub total_is : IsLengthText length total
  pub order : first ≤ last
  pub inside : IsInside last total

-- the text tells this of a piece: it is `bytes */` and a length, or as above
abbrev pub IsPieceText : List ℕ → PieceRange → Type 0
IsPieceText text Whole = ⊥
IsPieceText text (Bytes first last total) = IsBytesText text first last total
IsPieceText text (Status total) = (length : List ℕ) × (text ≡ codes "bytes */" ++ length) × IsLengthText length total

-- the texts that tell of pieces are those of this grammar
abbrev pub ArePieceTexts : Type 0
ArePieceTexts = (text : List ℕ) (range : PieceRange) → (read_piece_range (Some text) ≡ Some range) ↔ IsPieceText text range

-- where a piece of this size begins, and the length that it gives; none where the head tells another size
abbrev pub piece_of : PieceRange → ℕ → Option (Option ℕ × Option ℕ)
piece_of Whole size = Some (Some 0, Some size)
piece_of (Bytes first last total) size = if last + 1 == first + size then Some (Some first, total) else None
piece_of (Status total) size = if size == 0 then Some (None, total) else None
