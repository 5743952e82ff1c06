-- Where a chunked body stands after some of its bytes.
use Rattle.std.specs.Prelude.{◌≡◌, ℕ, ◌+◌, ◌<◌, List, [], ◌∷◌, ◌++◌, length, take}
use Rattle.std.specs.List.{AllByRecursion}
use Rattle.httparse.specs.Grammar.{ChunkLine, print_chunk_line, chunk_size}
use Rattle.gcs_http_in.specs.declared.chunked.Place.{Place}
use Rattle.gcs_http_in.specs.declared.chunked.Place.TheVariants as place
use Rattle.gcs_http_in.specs.declared.chunked.ChunkStep.{ChunkStep}
use Rattle.gcs_http_in.specs.declared.chunked.ChunkStep.TheVariants as step
use Rattle.gcs_http_in.specs.declared.chunked.ChunkedBody.{ChunkedBody}
use Rattle.gcs_http_in.specs.LineKind.{line_of}
use Rattle.gcs_http_in.specs.Lines.{print_lines, IsLine, IsFilled}
use Rattle.gcs_http_in.specs.Chunks.{Chunk, print_chunks, content_of, AreChunks, IsShortLine, IsChunkedBody, IsBadBody}

-- in a chunk line
pub record InLine (b : ChunkedBody) (text content : List ℕ) : Type 0 where
  pub chunks : List Chunk
  pub spelled : text ≡ print_chunks chunks ++ take b.filled b.line.items
  pub are_chunks : AreChunks b.most chunks
  pub open_line : IsLine (take b.filled b.line.items)
  pub sum : b.sum ≡ length (content_of chunks)
  pub content_is : content ≡ content_of chunks

-- in the bytes of a chunk, of which so many are left
pub record InData (b : ChunkedBody) (left : ℕ) (text content : List ℕ) : Type 0 where
  pub chunks : List Chunk
  pub line : ChunkLine
  pub bytes : List ℕ
  pub spelled : text ≡ print_chunks chunks ++ (print_chunk_line line ++ bytes)
  pub are_chunks : AreChunks b.most chunks
  pub is_line : IsShortLine line
  pub size : chunk_size line ≡ length bytes + left
  pub some : 0 < length bytes + left
  pub sum : b.sum ≡ length (content_of chunks) + (length bytes + left)
  pub content_is : content ≡ content_of chunks ++ bytes

-- after the bytes of a chunk and one byte more
pub record InEnd (b : ChunkedBody) (first : ℕ) (text content : List ℕ) : Type 0 where
  pub before : List ℕ
  pub spelled : text ≡ before ++ first ∷ []
  pub inside : InData b 0 before content

-- in the trailer
pub record InTrailer (b : ChunkedBody) (text content : List ℕ) : Type 0 where
  pub chunks : List Chunk
  pub line : ChunkLine
  pub lines : List (List ℕ)
  pub tail : List ℕ
  pub spelled : text ≡ print_chunks chunks ++ (print_chunk_line line ++ (print_lines lines ++ tail))
  pub are_chunks : AreChunks b.most chunks
  pub is_line : IsShortLine line
  pub size : chunk_size line ≡ 0
  pub each : AllByRecursion IsFilled lines
  pub open_line : IsLine tail
  pub long : b.trailer ≡ length (print_lines lines ++ tail)
  pub line_is : b.trailer_line ≡ line_of tail
  pub content_is : content ≡ content_of chunks

-- the body stands so, by the place
abbrev pub StandsAt : ChunkedBody → Place → List ℕ → List ℕ → Type 0
StandsAt b place.Line text content = InLine b text content
StandsAt b (place.Data left) text content = InData b left text content
StandsAt b (place.Return first) text content = InEnd b first text content
StandsAt b place.Trailer text content = InTrailer b text content

-- the body stands after this text, with this content so far
abbrev pub BodyStands : ChunkedBody → List ℕ → List ℕ → Type 0
BodyStands b text content = StandsAt b b.place text content

-- what a byte makes of it
abbrev pub BodyNext : ChunkedBody → ChunkStep → List ℕ → List ℕ → Type 0
BodyNext b step.More text content = BodyStands b text content
BodyNext b step.End text content = IsChunkedBody b.most text content
BodyNext b (step.Fault f) text content = IsBadBody b.most text f

-- how many bytes of content come next
abbrev pub left_of : Place → ℕ
left_of place.Line = 0
left_of (place.Data left) = left
left_of (place.Return first) = 0
left_of place.Trailer = 0

-- the next byte is none of content
abbrev pub IsAtByte : Place → Type 0
IsAtByte p = left_of p ≡ 0
