-- A chunk line of `httparse`'s grammar is one line.
use Rattle.std.proofs.Common.{◌≡◌, ◌≢◌, ℕ, ◌+◌, ◌≤◌, false, List, [], ◌∷◌, ◌++◌, length, refl, ap, ◌∙◌, arith, append_assoc, append-nil, length-append, inl, inr, Some, None, Option}
use Rattle.std.specs.Char.{is_ascii_hexdigit}
use Rattle.httparse.specs.Grammar.{ChunkLine, IsChunkLine, print_chunk_line, print_extension, IsExtension, chunk_size, ReadsChunkLine, is_ows, is_extension_byte}
use Rattle.httparse.proofs.GrammarLemmas.{cons-append}
use Rattle.gcs_http_in.specs.declared.fault.FrameFault.TheVariants as fault
use Rattle.gcs_http_in.specs.Lines.{print_line, print_lines, IsLine, IsFilled}
use Rattle.gcs_http_in.specs.Chunks.{Chunk, IsChunk, print_chunk, print_chunks, content_of, AreChunks, IsShortLine, IsBadBody}
use Rattle.gcs_http_in.proofs.HeadUnique.{line_open, run_open}
use Rattle.gcs_http_in.proofs.HeadLines.{lines_push, All_push}
use Rattle.std.proofs.lemmas.List.Concat.{flat_map-append}
use Rattle.std.specs.List.{AllByRecursion}
use Rattle.gcs_http_in.proofs.RequestLines.{line_append, line_pass}

-- a chunk line without its LF
abbrev pub chunk_front : ChunkLine → List ℕ
chunk_front l = l.digits ++ (l.pad ++ (print_extension l.extension ++ 13 ∷ []))

-- a chunk line is a line
pub chunk_line_is : (l : ChunkLine) → print_chunk_line l ≡ print_line (chunk_front l)
unfolding print_chunk_line
chunk_line_is l = regroup l.digits l.pad (print_extension l.extension)
  where
    regroup : (a b c : List ℕ) → (a ++ b ++ c ++ (13 ∷ 10 ∷ [])) ≡ (a ++ (b ++ (c ++ 13 ∷ []))) ++ 10 ∷ []
    regroup a b c = simp (append_assoc, cons-append)

-- an extension has no LF
ext_line : (e : Option (List ℕ)) → IsExtension e → IsLine (print_extension e)
ext_line None h = tt
ext_line (Some text) h = ((λ e. omega arith), line_pass is_extension_byte refl text h)

-- no LF stands before the end of a chunk line
pub chunk_front_line : (l : ChunkLine) → IsChunkLine l → IsLine (chunk_front l)
chunk_front_line l h =
    line_append l.digits _ (line_pass is_ascii_hexdigit refl l.digits h.digits.2)
    (line_append l.pad _ (line_pass is_ows refl l.pad h.pad)
    (line_append (print_extension l.extension) _ (ext_line l.extension h.extension) ((λ e. omega arith), tt)))

-- what holds no LF is no chunk line
pub no_chunk_line : (rest : List ℕ) (l : ChunkLine) → IsLine rest → ReadsChunkLine rest l [] → ⊥
no_chunk_line rest l open_line r =
    line_open rest (chunk_front l) [] open_line (r.1 ∙ ap (λ (t : List ℕ). t ++ []) (chunk_line_is l))

-- a line without an end in its room
pub long_line : (most : ℕ) (text part : List ℕ) (chunks : List Chunk) (byte : ℕ) → text ≡ print_chunks chunks ++ part → AreChunks most chunks
    → IsLine part → byte ≢ 10 → length part + 1 ≡ 256 → IsBadBody most (text ++ byte ∷ []) fault.BadChunk
long_line most text part chunks byte e are f ne len =
    let open_line : IsLine (part ++ byte ∷ []) = line_append part (byte ∷ []) f (ne, tt) in record {
      chunks = chunks;
      rest = part ++ byte ∷ [];
      spelled = rw e (append_assoc (print_chunks chunks) part (byte ∷ []));
      are_chunks = are;
      bad = inl (
        refl,
        inl record {
          ended = inr (open_line, simp length-append len);
          none = λ l r. no_chunk_line (part ++ byte ∷ []) l open_line r;
        },
      );
    }

-- the line is whole
pub line_taken : (text part : List ℕ) (chunks : List Chunk) (l : ChunkLine) → text ≡ print_chunks chunks ++ part → part ++ 10 ∷ [] ≡ print_chunk_line l ++ []
    → text ++ 10 ∷ [] ≡ print_chunks chunks ++ (print_chunk_line l ++ [])
line_taken text part chunks l e r = rw (e, ← r) (append_assoc (print_chunks chunks) part (10 ∷ []))

-- a line of at most 256 bytes that reads as a chunk line is a short one
pub short_line : (part : List ℕ) (l : ChunkLine) → ReadsChunkLine (part ++ 10 ∷ []) l [] → length part + 1 ≤ 256 → IsShortLine l
short_line part l r le = record {
  valid = r.0;
  short = let n : length part + 1 ≡ length (print_chunk_line l) = simp length-append at (ap length (r.1 ∙ append-nil (print_chunk_line l))) in omega arith;
}

-- one more byte of a trailer
pub trailer_byte : (text c l lines tail : List ℕ) (byte : ℕ) → text ≡ c ++ (l ++ (lines ++ tail)) → text ++ byte ∷ [] ≡ c ++ (l ++ (lines ++ (tail ++ byte ∷ [])))
trailer_byte text c l lines tail byte e = rw e (simp append_assoc)

-- a nonempty line goes on with a trailer
pub trailer_line : (text c l : List ℕ) (lines : List (List ℕ)) (tail : List ℕ) → text ≡ c ++ (l ++ (print_lines lines ++ tail))
    → text ++ 10 ∷ [] ≡ c ++ (l ++ (print_lines (lines ++ tail ∷ []) ++ []))
trailer_line text c l lines tail e = rw (e, lines_push) (simp (append_assoc, append-nil))

-- a trailer that fills its room and isn't whole
pub bad_trailer : (most : ℕ) (text : List ℕ) (chunks : List Chunk) (line : ChunkLine) (lines : List (List ℕ)) (tail : List ℕ)
    → text ≡ print_chunks chunks ++ (print_chunk_line line ++ (print_lines lines ++ tail)) → AreChunks most chunks → IsShortLine line → chunk_size line ≡ 0
    → AllByRecursion IsFilled lines → IsLine tail → length (print_lines lines ++ tail) ≡ 32768 → IsBadBody most text fault.BadChunk
bad_trailer most text chunks line lines tail e are short size filled open_line len = record {
  chunks = chunks;
  rest = print_chunk_line line ++ (print_lines lines ++ tail);
  spelled = e;
  are_chunks = are;
  bad = inl (
    refl,
    inr (inr record {
      line = line;
      trailer = print_lines lines ++ tail;
      spelled = refl;
      is_line = short;
      size = size;
      long = len;
      none = λ ys last more t same. run_open false lines ys tail last more filled t.each open_line t.ends (same ∙ append_assoc (print_lines ys) (print_line last) more);
    }),
  );
}

-- one chunk more as text
pub chunks_push : (chunks : List Chunk) (c : Chunk) → print_chunks (chunks ++ c ∷ []) ≡ print_chunks chunks ++ print_chunk c
chunks_push chunks c = flat_map-append print_chunk chunks (c ∷ []) ∙ ap (λ (t : List ℕ). print_chunks chunks ++ t) (append-nil (print_chunk c))

-- one chunk more as content
pub content_push : (chunks : List Chunk) (c : Chunk) → content_of (chunks ++ c ∷ []) ≡ content_of chunks ++ c.bytes
content_push chunks c = flat_map-append (λ (d : Chunk). d.bytes) chunks (c ∷ []) ∙ ap (λ (t : List ℕ). content_of chunks ++ t) (append-nil c.bytes)

-- CR LF ends a chunk
pub chunk_done : (text before : List ℕ) (chunks : List Chunk) (c : Chunk) (first : ℕ) → text ≡ before ++ first ∷ [] → first ≡ 13
    → before ≡ print_chunks chunks ++ (print_chunk_line c.line ++ c.bytes) → text ++ 10 ∷ [] ≡ print_chunks (chunks ++ c ∷ []) ++ []
chunk_done text before chunks c first e cr f = rw (e, cr, f, chunks_push) (simp (append_assoc, append-nil, cons-append))

-- a chunk that fits makes one more
pub chunks_done : (most : ℕ) (chunks : List Chunk) (c : Chunk) → AreChunks most chunks → IsChunk c
    → length (content_of chunks) + length c.bytes ≤ most → AreChunks most (chunks ++ c ∷ [])
chunks_done most chunks c are is le = record {
  each = All_push IsChunk chunks c are.each is;
  sum = rw content_push (simp length-append le);
}
