-- A content, and the words by which it is spoken of.
use Rattle.std.specs.Prelude.{◌≡◌, ℕ, ◌+◌, ◌-◌, nat_lt, List, [], ◌∷◌, ◌++◌, length, map, slice_range, if◌then◌else◌}
use Rattle.std.specs.List.{AllByRecursion}
use Rattle.boxcar.specs.Table.{Shelves, id_at}

-- the value of `Chunks`, by which crates above name it
abbrev pub ChunksValue : Type 0
ChunksValue = Shelves

-- the value of a piece, and where it was published, if it was. Only this crate opens it
pub record Chunk : Type 0 where
  pub bytes : List ℕ
  pub places : List (ℕ × ℕ)

-- a part of a piece, from a place up to another
pub record Part : Type 0 where
  pub chunk : Chunk
  pub from : ℕ
  pub to : ℕ

-- a part at its place in a content: where it ends there
pub record Placed : Type 0 where
  pub part : Part
  pub end : ℕ

-- the parts of spans
abbrev pub parts_in : List Placed → List Part
parts_in spans = map (λ (span : Placed). span.part) spans

-- the value of a content. Only this crate opens it
pub record Whole : Type 0 where
  pub parts : List Part

-- the bytes of a piece
unfoldable pub bytes_of_piece : Chunk → List ℕ
bytes_of_piece piece = piece.bytes

-- the bytes of a part
abbrev pub part_bytes : Part → List ℕ
part_bytes part = slice_range part.chunk.bytes part.from part.to

-- the bytes of the parts, one after the other
abbrev pub parts_bytes : List Part → List ℕ
parts_bytes [] = []
parts_bytes (part ∷ parts) = part_bytes part ++ parts_bytes parts

-- the spans stand one after the other, behind n bytes
abbrev pub AreEnds : ℕ → List Placed → Type 0
AreEnds n [] = Unit {0}
AreEnds n (span ∷ spans) = (span.end ≡ n + length (part_bytes span.part)) × AreEnds span.end spans

-- the bytes of a content
unfoldable pub bytes_of : Whole → List ℕ
bytes_of content = parts_bytes content.parts

-- the content without bytes
unfoldable pub no_content : Whole
no_content = record { parts = [] }

-- the first content and then the second
unfoldable pub joined : Whole → Whole → Whole
joined first second = record { parts = first.parts ++ second.parts }

-- the parts without their first n bytes
abbrev pub rest_parts : ℕ → List Part → List Part
rest_parts n [] = []
rest_parts n (part ∷ parts) =
    if nat_lt n (length (part_bytes part)) then record part { from = part.from + n } ∷ rest_parts 0 parts
    else rest_parts (n - length (part_bytes part)) parts

-- the content from a place on
unfoldable pub rest_of : Whole → ℕ → Whole
rest_of content from = record { parts = rest_parts from content.parts }

-- the content that the bytes of a piece from a place up to another make; of no bytes, `no_content`
unfoldable pub part_of : Chunk → ℕ → ℕ → Whole
part_of piece from to =
    record { parts = if nat_lt from to then record { chunk = piece; from = from; to = to } ∷ [] else [] }

-- the piece was published in these chunks, if it was published
unfoldable pub PieceLiesIn : ChunksValue → Chunk → Type 0
PieceLiesIn chunks piece = AllByRecursion (λ (place : ℕ × ℕ). place.1 ≡ id_at chunks.buckets place.0) piece.places

-- each part is of a piece that lies in these chunks
abbrev pub PartsLieIn : ChunksValue → List Part → Type 0
PartsLieIn chunks parts = AllByRecursion (λ (part : Part). PieceLiesIn chunks part.chunk) parts

-- the content is made of pieces that lie in these chunks
unfoldable pub ContentLiesIn : ChunksValue → Whole → Type 0
ContentLiesIn chunks content = PartsLieIn chunks content.parts
