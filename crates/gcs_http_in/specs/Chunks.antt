-- A chunked body: chunks, then a line of size 0 and a trailer (RFC 9112, 7.1).
use Rattle.std.specs.Prelude.{◌≡◌, ℕ, ◌+◌, ◌<◌, ◌≤◌, ◌⊎◌, List, [], ◌∷◌, ◌++◌, length}
use Rattle.std.specs.List.{flat_map, AllByRecursion}
use Rattle.httparse.specs.Grammar.{ChunkLine, IsChunkLine, print_chunk_line, chunk_size, ReadsChunkLine}
use Rattle.gcs_http_in.specs.declared.fault.FrameFault.{FrameFault}
use Rattle.gcs_http_in.specs.declared.fault.FrameFault.TheVariants as fault
use Rattle.gcs_http_in.specs.Lines.{print_line, print_lines, IsLine, IsBlank, IsFilled}

-- the most bytes of a chunk line, with its CR LF
abbrev pub line_room : ℕ
line_room = 256

-- the most bytes of a trailer, with its empty line
abbrev pub trailer_room : ℕ
trailer_room = 32768

-- a chunk line of the grammar that isn't too long
pub record IsShortLine (line : ChunkLine) : Type 0 where
  pub valid : IsChunkLine line
  pub short : length (print_chunk_line line) ≤ line_room

-- a chunk: its line, and its bytes, of which there is at least one
pub record Chunk : Type 0 where
  pub line : ChunkLine
  pub bytes : List ℕ

-- a chunk as text
abbrev pub print_chunk : Chunk → List ℕ
print_chunk c = print_chunk_line c.line ++ (c.bytes ++ 13 ∷ 10 ∷ [])

-- a chunk's line says how many bytes it has
pub record IsChunk (c : Chunk) : Type 0 where
  pub line : IsShortLine c.line
  pub size : chunk_size c.line ≡ length c.bytes
  pub some : 0 < length c.bytes

-- chunks, one after the other
abbrev pub print_chunks : List Chunk → List ℕ
print_chunks chunks = flat_map print_chunk chunks

-- the bytes of the chunks, one after the other
abbrev pub content_of : List Chunk → List ℕ
content_of chunks = flat_map (λ c. c.bytes) chunks

-- chunks of at most so many bytes together
pub record AreChunks (most : ℕ) (chunks : List Chunk) : Type 0 where
  pub each : AllByRecursion IsChunk chunks
  pub sum : length (content_of chunks) ≤ most

-- a trailer as text
abbrev pub print_trailer : List (List ℕ) → List ℕ → List ℕ
print_trailer lines last = print_lines lines ++ print_line last

-- a trailer: nonempty lines, then an empty line
pub record IsTrailer (lines : List (List ℕ)) (last : List ℕ) : Type 0 where
  pub each : AllByRecursion IsFilled lines
  pub ends : IsBlank last

-- a whole chunked body, and its content
pub record IsChunkedBody (most : ℕ) (text content : List ℕ) : Type 0 where
  pub chunks : List Chunk
  pub line : ChunkLine
  pub lines : List (List ℕ)
  pub last : List ℕ
  pub spelled : text ≡ print_chunks chunks ++ (print_chunk_line line ++ print_trailer lines last)
  pub are_chunks : AreChunks most chunks
  pub is_line : IsShortLine line
  pub size : chunk_size line ≡ 0
  pub trailer : IsTrailer lines last
  pub short : length (print_trailer lines last) ≤ trailer_room
  pub content_is : content ≡ content_of chunks

-- in a line's place stands none of the grammar: its LF has come, or its last allowed byte
pub record IsBadLine (rest : List ℕ) : Type 0 where
  pub ended : ((front : List ℕ) × IsLine front × (rest ≡ print_line front) × (length rest ≤ line_room)) ⊎ (IsLine rest × (length rest ≡ line_room))
  pub none : (line : ChunkLine) → ReadsChunkLine rest line [] → ⊥

-- the line's size brings the sum over the most
pub record IsOverfull (most sum : ℕ) (rest : List ℕ) : Type 0 where
  pub line : ChunkLine
  pub spelled : rest ≡ print_chunk_line line
  pub is_line : IsShortLine line
  pub over : most < sum + chunk_size line

-- after the bytes of a chunk two others stand in the place of CR LF
pub record IsBadEnd (most sum : ℕ) (rest : List ℕ) : Type 0 where
  pub line : ChunkLine
  pub bytes : List ℕ
  pub first : ℕ
  pub second : ℕ
  pub spelled : rest ≡ print_chunk_line line ++ (bytes ++ first ∷ second ∷ [])
  pub is_line : IsShortLine line
  pub size : chunk_size line ≡ length bytes
  pub some : 0 < length bytes
  pub fits : sum + length bytes ≤ most
  pub other : (first ≡ 13) × (second ≡ 10) → ⊥

-- the first so many bytes after the line of size 0 hold no whole trailer
pub record IsBadTrailer (rest : List ℕ) : Type 0 where
  pub line : ChunkLine
  pub trailer : List ℕ
  pub spelled : rest ≡ print_chunk_line line ++ trailer
  pub is_line : IsShortLine line
  pub size : chunk_size line ≡ 0
  pub long : length trailer ≡ trailer_room
  pub none : (lines : List (List ℕ)) (last more : List ℕ) → IsTrailer lines last → trailer ≡ print_trailer lines last ++ more → ⊥

-- what stands in the place of a chunk or of the last line with its trailer
abbrev pub IsBadRest : ℕ → ℕ → List ℕ → FrameFault → Type 0
IsBadRest most sum rest f =
    ((f ≡ fault.BadChunk) × (IsBadLine rest ⊎ (IsBadEnd most sum rest ⊎ IsBadTrailer rest)))
    ⊎ ((f ≡ fault.BodyTooLong) × IsOverfull most sum rest)

-- the shortest front of a chunked body that shows the fault
pub record IsBadBody (most : ℕ) (text : List ℕ) (f : FrameFault) : Type 0 where
  pub chunks : List Chunk
  pub rest : List ℕ
  pub spelled : text ≡ print_chunks chunks ++ rest
  pub are_chunks : AreChunks most chunks
  pub bad : IsBadRest most (length (content_of chunks)) rest f
