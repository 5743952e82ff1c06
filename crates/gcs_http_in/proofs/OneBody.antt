-- Two chunked bodies that begin one text are the same.
use Rattle.std.proofs.Common.{◌≡◌, ℕ, ◌+◌, ◌≤◌, false, List, [], ◌∷◌, ◌++◌, length, refl, ap, sym, ◌∙◌, subst, arith, append_assoc, append-nil, inl, inr, ◌⊎◌, length-append, Option, Some, None}
use Rattle.std.specs.List.{AllByRecursion}
use Rattle.httparse.specs.Grammar.{ChunkLine, print_chunk_line, chunk_size}
use Rattle.httparse.proofs.ChunkLemmas.{chunk_line_unique}
use Rattle.gcs_http_in.specs.declared.fault.FrameFault.{FrameFault}
use Rattle.gcs_http_in.specs.declared.fault.FrameFault.TheVariants as fault
use Rattle.gcs_http_in.specs.Lines.{print_line, print_lines}
use Rattle.gcs_http_in.specs.Chunks.{Chunk, IsChunk, print_chunk, print_chunks, content_of, IsShortLine, IsTrailer, print_trailer, IsBadLine, IsOverfull, IsBadEnd, IsBadTrailer}
use Rattle.gcs_http_in.proofs.HeadUnique.{line_unique, line_open, run_unique}
use Rattle.gcs_http_in.proofs.OneHead.{front_of_longer, same_fronts}
use Rattle.gcs_http_in.proofs.ChunkLines.{chunk_front, chunk_line_is, chunk_front_line}
use Rattle.gcs_http_in.proofs.Messages.{split_more}

-- the same line of a chunk
pub one_line : (l k : ChunkLine) (x y : List ℕ) → IsShortLine l → IsShortLine k → print_chunk_line l ++ x ≡ print_chunk_line k ++ y → (l ≡ k) × (x ≡ y)
one_line l k x y p q e = chunk_line_unique (print_chunk_line k ++ y) l k x y (p.valid, sym e) (q.valid, refl)

-- a line of the grammar and none of it
good_bad_line : (l : ChunkLine) (r x y : List ℕ) → IsShortLine l → IsBadLine r → print_chunk_line l ++ x ≡ r ++ y → ⊥
good_bad_line l r x y p b e = elim b.ended [
  | inl f ↦ let same = line_unique (chunk_front l) f.0 x y (chunk_front_line l p.valid) f.1
      (ap (λ (t : List ℕ). t ++ x) (sym (chunk_line_is l)) ∙ e ∙ ap (λ (t : List ℕ). t ++ y) f.2) in
      let whole : r ≡ print_chunk_line l = f.2 ∙ ap print_line (sym same.0) ∙ sym (chunk_line_is l) in
      b.none l (p.valid, whole ∙ sym (append-nil (print_chunk_line l)))
  | inr f ↦ let longer = front_of_longer r (print_chunk_line l) y x (sym e) (omega (arith, p.short, f.1)) in
      line_open r (chunk_front l) longer.0 f.0 (longer.1 ∙ ap (λ (t : List ℕ). t ++ longer.0) (chunk_line_is l))
]

-- two bad lines at the front of a text are one
bad_lines : (r s x y : List ℕ) → IsBadLine r → IsBadLine s → r ++ x ≡ s ++ y → r ≡ s
bad_lines r s x y a b e = elim a.ended [
  | inl f ↦ elim b.ended [
    | inl g ↦ let same = line_unique f.0 g.0 x y f.1 g.1 (ap (λ (t : List ℕ). t ++ x) (sym f.2) ∙ e ∙ ap (λ (t : List ℕ). t ++ y) g.2) in
        f.2 ∙ ap print_line same.0 ∙ sym g.2
    | inr g ↦ let longer = front_of_longer s r y x (sym e) (omega (arith, f.3, g.1)) in
        absurd (line_open s f.0 longer.0 g.0 (longer.1 ∙ ap (λ (t : List ℕ). t ++ longer.0) f.2))
  ]
  | inr f ↦ elim b.ended [
    | inl g ↦ let longer = front_of_longer r s x y e (omega (arith, f.1, g.3)) in
        absurd (line_open r g.0 longer.0 f.0 (longer.1 ∙ ap (λ (t : List ℕ). t ++ longer.0) g.2))
    | inr g ↦ (same_fronts r s x y e (f.1 ∙ sym g.1)).0
  ]
]

-- ---- the end of a chunked body, after its chunks

-- the last line and a trailer
pub record IsLast (rest : List ℕ) : Type 0 where
  pub line : ChunkLine
  pub lines : List (List ℕ)
  pub last : List ℕ
  pub spelled : rest ≡ print_chunk_line line ++ print_trailer lines last
  pub is_line : IsShortLine line
  pub size : chunk_size line ≡ 0
  pub trailer : IsTrailer lines last
  pub short : length (print_trailer lines last) ≤ 32768

-- how a body ends, by the outcome: none, or the fault
abbrev pub Ends : ℕ → ℕ → List ℕ → Option FrameFault → Type 0
Ends most sum r o = ((o ≡ None) × IsLast r)
    ⊎ (((o ≡ Some fault.BadChunk) × IsBadLine r)
    ⊎ (((o ≡ Some fault.BadChunk) × IsBadEnd most sum r)
    ⊎ (((o ≡ Some fault.BadChunk) × IsBadTrailer r)
    ⊎ ((o ≡ Some fault.BodyTooLong) × IsOverfull most sum r))))

-- two last lines with their trailers are one
pub last_last : (r s x y : List ℕ) → IsLast r → IsLast s → r ++ x ≡ s ++ y → r ≡ s
last_last r s x y a b e =
    let l = one_line a.line b.line _ _ a.is_line b.is_line (sym (split_more r (print_chunk_line a.line) (print_trailer a.lines a.last) x a.spelled) ∙ e ∙ split_more s (print_chunk_line b.line) (print_trailer b.lines b.last) y b.spelled) in
    let t = run_unique false a.lines b.lines a.last b.last x y a.trailer.each b.trailer.each a.trailer.ends b.trailer.ends
    (sym (append_assoc (print_lines a.lines) (print_line a.last) x) ∙ l.1 ∙ append_assoc (print_lines b.lines) (print_line b.last) y) in
    a.spelled ∙ (λ i. print_chunk_line (l.0 i) ++ (print_lines (t.0 i) ++ print_line (t.1 i))) ∙ sym b.spelled

-- a whole trailer is no bad one
last_trailer : (r s x y : List ℕ) → IsLast r → IsBadTrailer s → r ++ x ≡ s ++ y → ⊥
last_trailer r s x y a b e =
    let l = one_line a.line b.line _ _ a.is_line b.is_line (sym (split_more r (print_chunk_line a.line) (print_trailer a.lines a.last) x a.spelled) ∙ e ∙ split_more s (print_chunk_line b.line) b.trailer y b.spelled) in
    let longer = front_of_longer b.trailer (print_trailer a.lines a.last) y x (sym l.1) (omega (arith, a.short, b.long)) in
    b.none a.lines a.last longer.0 a.trailer longer.1

-- two bad trailers are one
trailers : (r s x y : List ℕ) → IsBadTrailer r → IsBadTrailer s → r ++ x ≡ s ++ y → r ≡ s
trailers r s x y a b e =
    let l = one_line a.line b.line _ _ a.is_line b.is_line (sym (split_more r (print_chunk_line a.line) a.trailer x a.spelled) ∙ e ∙ split_more s (print_chunk_line b.line) b.trailer y b.spelled) in
    let t = same_fronts a.trailer b.trailer x y l.1 (a.long ∙ sym b.long) in
    a.spelled ∙ (λ i. print_chunk_line (l.0 i) ++ t.0 i) ∙ sym b.spelled

-- two lines that bring the sum over the most are one
overfulls : (most sum : ℕ) (r s x y : List ℕ) → IsOverfull most sum r → IsOverfull most sum s → r ++ x ≡ s ++ y → r ≡ s
overfulls most sum r s x y a b e =
    let l = one_line a.line b.line x y a.is_line b.is_line (ap (λ (t : List ℕ). t ++ x) (sym a.spelled) ∙ e ∙ ap (λ (t : List ℕ). t ++ y) b.spelled) in
    a.spelled ∙ ap print_chunk_line l.0 ∙ sym b.spelled

-- two bad ends of a chunk are one
bad_ends : (most sum : ℕ) (r s x y : List ℕ) → IsBadEnd most sum r → IsBadEnd most sum s → r ++ x ≡ s ++ y → r ≡ s
bad_ends most sum r s x y a b e =
    let l = one_line a.line b.line _ _ a.is_line b.is_line (sym (split_more r (print_chunk_line a.line) _ x a.spelled) ∙ e ∙ split_more s (print_chunk_line b.line) _ y b.spelled) in
    let n : length a.bytes ≡ length b.bytes = sym a.size ∙ ap chunk_size l.0 ∙ b.size in
    let len : length (a.bytes ++ a.first ∷ a.second ∷ []) ≡ length (b.bytes ++ b.first ∷ b.second ∷ []) = simp length-append (omega arith) in
    let t = same_fronts (a.bytes ++ a.first ∷ a.second ∷ []) (b.bytes ++ b.first ∷ b.second ∷ []) x y l.1 len in
    a.spelled ∙ (λ i. print_chunk_line (l.0 i) ++ t.0 i) ∙ sym b.spelled

-- how a body ends, after chunks of so many bytes
pub data Ending (most sum : ℕ) (r : List ℕ) : Type 0 where
  in_last : IsLast r → Ending most sum r
  in_line : IsBadLine r → Ending most sum r
  in_end : IsBadEnd most sum r → Ending most sum r
  in_trailer : IsBadTrailer r → Ending most sum r
  in_size : IsOverfull most sum r → Ending most sum r

-- what an ending shows: a fault, or none
abbrev pub outcome : {most sum : ℕ} {r : List ℕ} → Ending most sum r → Option FrameFault
outcome (in_last a) = None
outcome (in_line a) = Some fault.BadChunk
outcome (in_end a) = Some fault.BadChunk
outcome (in_trailer a) = Some fault.BadChunk
outcome (in_size a) = Some fault.BodyTooLong

-- the text begins with a line of the grammar
pub record Begins (r : List ℕ) (l : ChunkLine) : Type 0 where
  pub rest : List ℕ
  pub spelled : r ≡ print_chunk_line l ++ rest
  pub is_line : IsShortLine l

-- a last line begins its ending
of_last : (r : List ℕ) (a : IsLast r) → Begins r a.line
of_last r a = record { rest = _; spelled = a.spelled; is_line = a.is_line }

-- so does the line of a chunk with a bad end
of_end : (most sum : ℕ) (r : List ℕ) (a : IsBadEnd most sum r) → Begins r a.line
of_end most sum r a = record { rest = _; spelled = a.spelled; is_line = a.is_line }

-- so does the line before a bad trailer
of_trailer : (r : List ℕ) (a : IsBadTrailer r) → Begins r a.line
of_trailer r a = record { rest = _; spelled = a.spelled; is_line = a.is_line }

-- so does the line of a chunk that is too much
of_size : (most sum : ℕ) (r : List ℕ) (a : IsOverfull most sum r) → Begins r a.line
of_size most sum r a = record { rest = []; spelled = a.spelled ∙ sym (append-nil (print_chunk_line a.line)); is_line = a.is_line }

-- so does the line of a chunk
of_chunk : (c : Chunk) → IsChunk c → Begins (print_chunk c) c.line
of_chunk c h = record { rest = _; spelled = refl; is_line = h.line }

-- two lines that begin one text have one size
same_size : (r s x y : List ℕ) (l k : ChunkLine) → Begins r l → Begins s k → r ++ x ≡ s ++ y → chunk_size l ≡ chunk_size k
same_size r s x y l k a b e = ap chunk_size (one_line l k (a.rest ++ x) (b.rest ++ y) a.is_line b.is_line
    (sym (split_more r (print_chunk_line l) a.rest x a.spelled) ∙ e ∙ split_more s (print_chunk_line k) b.rest y b.spelled)).0

-- a bad line begins with no chunk line
line_or_not : (r s x y : List ℕ) (l : ChunkLine) → Begins r l → IsBadLine s → r ++ x ≡ s ++ y → ⊥
line_or_not r s x y l a b e = good_bad_line l s (a.rest ++ x) y a.is_line b (sym (split_more r (print_chunk_line l) a.rest x a.spelled) ∙ e)

-- a text has one ending of a chunked body at its front
pub ends_unique : (most sum : ℕ) (r s x y : List ℕ) (a : Ending most sum r) (b : Ending most sum s) → sum ≤ most → r ++ x ≡ s ++ y → (outcome a ≡ outcome b) × (r ≡ s)
ends_unique most sum r s x y (in_last a) (in_last b) le e = (refl, last_last r s x y a b e)
ends_unique most sum r s x y (in_last a) (in_line b) le e = absurd (line_or_not r s x y a.line (of_last r a) b e)
ends_unique most sum r s x y (in_last a) (in_end b) le e = let n = same_size r s x y a.line b.line (of_last r a) (of_end most sum s b) e in absurd (omega (arith, a.size, b.size, b.some))
ends_unique most sum r s x y (in_last a) (in_trailer b) le e = absurd (last_trailer r s x y a b e)
ends_unique most sum r s x y (in_last a) (in_size b) le e = let n = same_size r s x y a.line b.line (of_last r a) (of_size most sum s b) e in absurd (omega (arith, a.size, b.over))
ends_unique most sum r s x y (in_line a) (in_last b) le e = absurd (line_or_not s r y x b.line (of_last s b) a (sym e))
ends_unique most sum r s x y (in_line a) (in_line b) le e = (refl, bad_lines r s x y a b e)
ends_unique most sum r s x y (in_line a) (in_end b) le e = absurd (line_or_not s r y x b.line (of_end most sum s b) a (sym e))
ends_unique most sum r s x y (in_line a) (in_trailer b) le e = absurd (line_or_not s r y x b.line (of_trailer s b) a (sym e))
ends_unique most sum r s x y (in_line a) (in_size b) le e = absurd (line_or_not s r y x b.line (of_size most sum s b) a (sym e))
ends_unique most sum r s x y (in_end a) (in_last b) le e = let n = same_size r s x y a.line b.line (of_end most sum r a) (of_last s b) e in absurd (omega (arith, a.size, a.some, b.size))
ends_unique most sum r s x y (in_end a) (in_line b) le e = absurd (line_or_not r s x y a.line (of_end most sum r a) b e)
ends_unique most sum r s x y (in_end a) (in_end b) le e = (refl, bad_ends most sum r s x y a b e)
ends_unique most sum r s x y (in_end a) (in_trailer b) le e = let n = same_size r s x y a.line b.line (of_end most sum r a) (of_trailer s b) e in absurd (omega (arith, a.size, a.some, b.size))
ends_unique most sum r s x y (in_end a) (in_size b) le e = let n = same_size r s x y a.line b.line (of_end most sum r a) (of_size most sum s b) e in absurd (omega (arith, a.size, a.fits, b.over))
ends_unique most sum r s x y (in_trailer a) (in_last b) le e = absurd (last_trailer s r y x b a (sym e))
ends_unique most sum r s x y (in_trailer a) (in_line b) le e = absurd (line_or_not r s x y a.line (of_trailer r a) b e)
ends_unique most sum r s x y (in_trailer a) (in_end b) le e = let n = same_size r s x y a.line b.line (of_trailer r a) (of_end most sum s b) e in absurd (omega (arith, a.size, b.size, b.some))
ends_unique most sum r s x y (in_trailer a) (in_trailer b) le e = (refl, trailers r s x y a b e)
ends_unique most sum r s x y (in_trailer a) (in_size b) le e = let n = same_size r s x y a.line b.line (of_trailer r a) (of_size most sum s b) e in absurd (omega (arith, a.size, b.over))
ends_unique most sum r s x y (in_size a) (in_last b) le e = let n = same_size r s x y a.line b.line (of_size most sum r a) (of_last s b) e in absurd (omega (arith, a.over, b.size))
ends_unique most sum r s x y (in_size a) (in_line b) le e = absurd (line_or_not r s x y a.line (of_size most sum r a) b e)
ends_unique most sum r s x y (in_size a) (in_end b) le e = let n = same_size r s x y a.line b.line (of_size most sum r a) (of_end most sum s b) e in absurd (omega (arith, a.over, b.size, b.fits))
ends_unique most sum r s x y (in_size a) (in_trailer b) le e = let n = same_size r s x y a.line b.line (of_size most sum r a) (of_trailer s b) e in absurd (omega (arith, a.over, b.size))
ends_unique most sum r s x y (in_size a) (in_size b) le e = (refl, overfulls most sum r s x y a b e)

-- an ending is no chunk
pub ends_none : (most sum : ℕ) (r x y : List ℕ) (c : Chunk) → Ending most sum r → IsChunk c → sum + length c.bytes ≤ most → r ++ x ≡ print_chunk c ++ y → ⊥
ends_none most sum r x y c (in_last a) h le e = let n = same_size r (print_chunk c) x y a.line c.line (of_last r a) (of_chunk c h) e in omega (arith, a.size, h.size, h.some)
ends_none most sum r x y c (in_line a) h le e = line_or_not (print_chunk c) r y x c.line (of_chunk c h) a (sym e)
ends_none most sum r x y c (in_end a) h le e =
    let l = one_line a.line c.line _ _ a.is_line h.line (sym (split_more r (print_chunk_line a.line) _ x a.spelled) ∙ e ∙ split_more (print_chunk c) (print_chunk_line c.line) (c.bytes ++ 13 ∷ 10 ∷ []) y refl) in
    let n : length a.bytes ≡ length c.bytes = sym a.size ∙ ap chunk_size l.0 ∙ h.size in
    let t = same_fronts a.bytes c.bytes (a.first ∷ a.second ∷ x) (13 ∷ 10 ∷ y)
    (sym (append_assoc a.bytes (a.first ∷ a.second ∷ []) x) ∙ l.1 ∙ append_assoc c.bytes (13 ∷ 10 ∷ []) y) n in
    let p : a.first ≡ 13 = let q = t.1 in cc in
    let p' : a.second ≡ 10 = let q = t.1 in cc in
    a.other (p, p')
ends_none most sum r x y c (in_trailer a) h le e = let n = same_size r (print_chunk c) x y a.line c.line (of_trailer r a) (of_chunk c h) e in omega (arith, a.size, h.size, h.some)
ends_none most sum r x y c (in_size a) h le e = let n = same_size r (print_chunk c) x y a.line c.line (of_size most sum r a) (of_chunk c h) e in omega (arith, a.over, h.size)

-- a text has one chunk at its front
pub chunk_unique : (c d : Chunk) (x y : List ℕ) → IsChunk c → IsChunk d → print_chunk c ++ x ≡ print_chunk d ++ y → (c ≡ d) × (x ≡ y)
chunk_unique c d x y a b e =
    let l = one_line c.line d.line _ _ a.line b.line (sym (split_more (print_chunk c) (print_chunk_line c.line) (c.bytes ++ 13 ∷ 10 ∷ []) x refl) ∙ e ∙ split_more (print_chunk d) (print_chunk_line d.line) (d.bytes ++ 13 ∷ 10 ∷ []) y refl) in
    let n : length c.bytes ≡ length d.bytes = sym a.size ∙ ap chunk_size l.0 ∙ b.size in
    let t = same_fronts c.bytes d.bytes (13 ∷ 10 ∷ x) (13 ∷ 10 ∷ y)
    (sym (append_assoc c.bytes (13 ∷ 10 ∷ []) x) ∙ l.1 ∙ append_assoc d.bytes (13 ∷ 10 ∷ []) y) n in
    let rest : x ≡ y = let q = t.1 in cc in
    ((λ i. record { line = l.0 i; bytes = t.0 i }), rest)

-- an ending after equal sums
at_sum : (most m n : ℕ) (r : List ℕ) → m ≡ n → Ending most m r → Ending most n r
at_sum most m n r e a = subst (λ (k : ℕ). Ending most k r) e a

-- a text has one list of chunks before an ending
pub chunks_unique : (most sum : ℕ) (xs ys : List Chunk) (r s x y : List ℕ) → AllByRecursion IsChunk xs → AllByRecursion IsChunk ys
    → sum + length (content_of xs) ≤ most → sum + length (content_of ys) ≤ most
    → Ending most (sum + length (content_of xs)) r → Ending most (sum + length (content_of ys)) s
    → print_chunks xs ++ (r ++ x) ≡ print_chunks ys ++ (s ++ y) → (xs ≡ ys) × (r ++ x ≡ s ++ y)
chunks_unique most sum [] [] r s x y a b le le' p q e = (refl, e)
chunks_unique most sum [] (d ∷ ys) r s x y a b le le' p q e =
    absurd (ends_none most sum r x _ d (at_sum most _ sum r (omega arith) p) b.0 (omega (arith, length-append d.bytes (content_of ys))) (e ∙ append_assoc (print_chunk d) (print_chunks ys) (s ++ y)))
chunks_unique most sum (c ∷ xs) [] r s x y a b le le' p q e =
    absurd (ends_none most sum s y _ c (at_sum most _ sum s (omega arith) q) a.0 (omega (arith, length-append c.bytes (content_of xs))) (sym e ∙ append_assoc (print_chunk c) (print_chunks xs) (r ++ x)))
chunks_unique most sum (c ∷ xs) (d ∷ ys) r s x y a b le le' p q e =
    let h = chunk_unique c d _ _ a.0 b.0 (sym (append_assoc (print_chunk c) (print_chunks xs) (r ++ x)) ∙ e ∙ append_assoc (print_chunk d) (print_chunks ys) (s ++ y)) in
    let n : length c.bytes ≡ length d.bytes = ap (λ (k : Chunk). length k.bytes) h.0 in
    let t = chunks_unique most (sum + length c.bytes) xs ys r s x y a.1 b.1
    (omega (arith, length-append c.bytes (content_of xs))) (omega (arith, length-append d.bytes (content_of ys)))
    (at_sum most _ _ r (omega (arith, length-append c.bytes (content_of xs))) p) (at_sum most _ _ s (omega (arith, length-append d.bytes (content_of ys))) q) h.1 in
    ((λ i. h.0 i ∷ t.0 i), t.1)
