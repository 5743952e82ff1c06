-- What a framer stands for is the reading of the bytes that it took.
use Rattle.std.proofs.Common.{◌≡◌, ℕ, ◌+◌, ◌-◌, ◌<◌, ◌≤◌, Bool, false, List, [], ◌∷◌, ◌++◌, length, take, refl, ap, sym, ◌∙◌, subst, arith, append_assoc, append-nil, inl, inr, Option, Some, None, length-append, length-take}
use Rattle.std.specs.Prelude.{◌==◌, ◌&&◌, not}
use Rattle.std.proofs.lemmas.Bool.{false≢true}
use Rattle.std.proofs.lemmas.List.{length-take-le}
use Rattle.gcs_http_in.specs.declared.limits.Limits.{Limits}
use Rattle.gcs_http_in.specs.declared.fault.FrameFault.TheVariants as fault
use Rattle.gcs_http_in.specs.declared.fields.Framing.TheVariants as framing
use Rattle.gcs_http_in.specs.declared.chunked.ChunkedBody.{ChunkedBody}
use Rattle.gcs_http_in.specs.declared.chunked.Place.{Place}
use Rattle.gcs_http_in.specs.declared.chunked.Place.TheVariants as place
use Rattle.gcs_http_in.specs.declared.framer.Framer.{Framer}
use Rattle.gcs_http_in.specs.declared.state.State.{State}
use Rattle.gcs_http_in.specs.declared.state.State.TheVariants as state
use Rattle.httparse.specs.Grammar.{print_chunk_line}
use Rattle.gcs_http_in.specs.Head.{Head}
use Rattle.gcs_http_in.specs.Lines.{print_lines, IsLine}
use Rattle.gcs_http_in.specs.Scan.{text_of}
use Rattle.gcs_http_in.specs.Chunks.{print_chunks, IsBadBody}
use Rattle.gcs_http_in.specs.ChunkState.{StandsAt, InLine, InData, InTrailer}
use Rattle.gcs_http_in.specs.Message.{Message, whole, refused, stays, IsGoodHeadText, AllKeep, keeps_of, BeginsNone, Spells}
use Rattle.gcs_http_in.specs.Progress.{Current}
use Rattle.gcs_http_in.specs.Stands.{InClosed, Stands, StandsIn, IsDue, limits_of}
use Rattle.gcs_http_in.proofs.RequestLines.{line_append}
use Rattle.gcs_http_in.proofs.ChunkLines.{no_chunk_line, bad_trailer}
use Rattle.std.specs.List.{list_all}
use Rattle.gcs_http_in.specs.Lines.{is_end_byte}
use Rattle.gcs_http_in.specs.Reader.{HeadStands}
use Rattle.gcs_http_in.proofs.FramerLemmas.{at_length, at_head, length_ready}
use Rattle.gcs_http_in.proofs.Messages.{spelled_push, split_more}
use Rattle.gcs_http_in.proofs.OneReading.{one_reading, open_by, fill, fill_line, length_fill, fill_none, open_head}

-- a chunked body that may still be refused
cut_short : (limits : Limits) (n : ℕ) (front text more : List ℕ) (head : Head) → IsGoodHeadText limits front head framing.Chunked → IsBadBody limits.body (text ++ more) fault.BadChunk
    → 0 < length more → BeginsNone limits n (front ++ text)
cut_short limits n front text more head good bad some =
    open_by limits n (refused fault.BadChunk) (front ++ text) more
    (inr record { head = head; front = front; body = text ++ more; spelled = append_assoc front text more; good = good; bad = bad }) some

-- in a chunk line more bytes may show a bad line
line_open_body : (b : ChunkedBody) (text content : List ℕ) → InLine b text content → (more : List ℕ) × (0 < length more) × IsBadBody b.most (text ++ more) fault.BadChunk
line_open_body b text content s =
    let part = take b.filled b.line.items in
    let len : length part ≤ 255 = omega (arith, length-take b.filled b.line.items, b.filled_in) in
    let k = 256 - length part in
    let open_line : IsLine (part ++ fill k) = line_append part (fill k) s.open_line (fill_line k) in (
      fill k,
      rw length_fill (omega arith),
      record {
        chunks = s.chunks;
        rest = part ++ fill k;
        spelled = split_more text (print_chunks s.chunks) part (fill k) s.spelled;
        are_chunks = s.are_chunks;
        bad = inl (
          refl,
          inl record {
            ended = inr (open_line, rw (length-append, length_fill) (omega arith));
            none = λ l r. no_chunk_line (part ++ fill k) l open_line r;
          },
        );
      },
    )

-- two other bytes after a chunk are a bad end
bad_two : (most : ℕ) (b : ChunkedBody) (text content : List ℕ) (left : ℕ) (first second : ℕ) → (s : InData b left text content) → ((first ≡ 13) × (second ≡ 10) → ⊥)
    → IsBadBody b.most (text ++ (fill left ++ first ∷ second ∷ [])) fault.BadChunk
bad_two most b text content left first second s other =
    let n : length (s.bytes ++ fill left) ≡ length s.bytes + left = rw (length-append, length_fill) refl in record {
      chunks = s.chunks;
      rest = print_chunk_line s.line ++ ((s.bytes ++ fill left) ++ first ∷ second ∷ []);
      spelled = split_more text (print_chunks s.chunks) (print_chunk_line s.line ++ s.bytes) (fill left ++ first ∷ second ∷ []) s.spelled
          ∙ ap (λ (t : List ℕ). print_chunks s.chunks ++ t) (append_assoc (print_chunk_line s.line) s.bytes (fill left ++ first ∷ second ∷ [])
          ∙ ap (λ (t : List ℕ). print_chunk_line s.line ++ t) (sym (append_assoc s.bytes (fill left) (first ∷ second ∷ []))));
      are_chunks = s.are_chunks;
      bad = inl (
        refl,
        inr (inl record {
          line = s.line;
          bytes = s.bytes ++ fill left;
          first = first;
          second = second;
          spelled = refl;
          is_line = s.is_line;
          size = s.size ∙ sym n;
          some = omega (arith, s.some);
          fits = omega (arith, s.sum, b.sum_in);
          other = other;
        }),
      );
    }

-- in a trailer more bytes may make it too long
trailer_open_body : (b : ChunkedBody) (text content : List ℕ) → InTrailer b text content → (more : List ℕ) × (0 < length more) × IsBadBody b.most (text ++ more) fault.BadChunk
trailer_open_body b text content s =
    let n = length (print_lines s.lines ++ s.tail) in
    let k = 32768 - n in
    let small : n < 32768 = omega (arith, s.long, b.trailer_in) in (
      fill k,
      rw length_fill (omega arith),
      bad_trailer b.most (text ++ fill k) s.chunks s.line s.lines (s.tail ++ fill k)
          (split_more text (print_chunks s.chunks) (print_chunk_line s.line ++ (print_lines s.lines ++ s.tail)) (fill k) s.spelled
          ∙ ap (λ (t : List ℕ). print_chunks s.chunks ++ t) (append_assoc (print_chunk_line s.line) (print_lines s.lines ++ s.tail) (fill k)
          ∙ ap (λ (t : List ℕ). print_chunk_line s.line ++ t) (append_assoc (print_lines s.lines) s.tail (fill k))))
          s.are_chunks s.is_line s.size s.each (line_append s.tail (fill k) s.open_line (fill_line k))
          (rw (← append_assoc (print_lines s.lines) s.tail (fill k), length-append, length_fill) (omega arith)),
    )

-- in a chunked body more bytes may show a fault
body_open : (b : ChunkedBody) (p : Place) (text content : List ℕ) → StandsAt b p text content → (more : List ℕ) × (0 < length more) × IsBadBody b.most (text ++ more) fault.BadChunk
body_open b place.Line text content s = line_open_body b text content s
body_open b (place.Data left) text content s = (fill left ++ 0 ∷ 0 ∷ [], rw length-append (omega arith), bad_two b.most b text content left 0 0 s (λ e. omega (arith, e.0)))
body_open b (place.Return first) text content s = (
  0 ∷ [],
  omega arith,
  subst (λ (t : List ℕ). IsBadBody b.most t fault.BadChunk) (sym (split_more text s.before (first ∷ []) (0 ∷ []) s.spelled))
      (subst (λ (t : List ℕ). IsBadBody b.most (s.before ++ t) fault.BadChunk) (fill_none (first ∷ 0 ∷ [])) (bad_two b.most b s.before content 0 first 0 s.inside (λ e. omega (arith, e.1)))),
)
body_open b place.Trailer text content s = trailer_open_body b text content s

-- a message that closes is not one of those that keep
last_of : (before : List Message) (m : Message) → AllKeep (before ++ m ∷ []) → keeps_of m ≡ false → ⊥
last_of [] m all closes = false≢true (sym closes ∙ all.0)
last_of (k ∷ before) m all closes = last_of before m all.1 closes

-- where the last message closes not all keep
pub last_keeps : (ms before : List Message) (m : Message) → ms ≡ before ++ m ∷ [] → keeps_of m ≡ false → AllKeep ms → ⊥
last_keeps ms before m e closes all = last_of before m (subst AllKeep e all) closes

-- the place after all messages, where another may come
pub open_place : (f : Framer) (st : State) (n : ℕ) (bytes : List ℕ) (messages : List Message) (part : List ℕ) (current : Option Current)
    → (f.state ≡ st) → StandsIn f st messages part current → (IsDue st → ⊥) → AllKeep messages → BeginsNone (limits_of f) n part
open_place f state.Head n bytes messages part current e s due keep =
    let h = s.head in
    let len : length (text_of f.head.text) ≡ f.head.text.filled = length-take-le f.head.text.filled f.head.text.bytes.items (omega (arith, f.head.text.in_range)) in
    let room = f.room e in
    let lt : length (text_of f.head.text) < (limits_of f).head = omega (arith, room, f.head.text_room) in
    subst (λ (t : List ℕ). BeginsNone (limits_of f) n t) h.holds (open_head (limits_of f) n (text_of f.head.text) h.blank h.lines h.tail h.scans.opens lt)
open_place f (state.Length count) n bytes messages part current e s due keep =
    let some : 0 < count = positive count (λ z. due (ap state.Length z)) in
    let m = whole s.it.head (s.it.content ++ fill count) (stays s.it.head && not (n == (limits_of f).requests)) in
    open_by (limits_of f) n m part (fill count) record {
      cut = framing.Length (length s.it.content + count);
      front = s.front;
      body = s.it.content ++ fill count;
      spelled = split_more part s.front s.it.content (fill count) s.spelled;
      good = s.good;
      body_is = (rw (length-append, length_fill) refl, refl);
      keeps_is = refl;
    } (rw length_fill some)
  where
    positive : (k : ℕ) → (k ≡ 0 → ⊥) → 0 < k
    positive k other = omega arith
open_place f state.Chunked n bytes messages part current e s due keep =
    let b = body_open f.body f.body.place s.text s.it.content s.body in
    subst (λ (t : List ℕ). BeginsNone (limits_of f) n t) (sym s.spelled)
    (cut_short (limits_of f) n s.front s.text b.0 s.it.head s.good (subst (λ (k : ℕ). IsBadBody k (s.text ++ b.0) fault.BadChunk) f.most b.2) b.1)
open_place f (state.Closed bare) n bytes messages part current e s due keep =
    absurd (last_keeps messages s.before s.last s.are s.closes keep)

-- the reading of the bytes, where no end waits to be told
pub reads : (f : Framer) (bytes : List ℕ) (messages : List Message) (current : Option Current) → Stands f bytes messages current → (IsDue f.state → ⊥)
    → (rest : List ℕ) × Spells (limits_of f) bytes messages rest
reads f bytes messages current s due = (
  s.part,
  record {
    front = s.front;
    split = s.split;
    spelled = s.spelled;
    no_more = λ keep. open_place f f.state (length messages + 1) bytes messages s.part current refl s.inside due keep;
  },
)

-- and where one waits
pub reads_due : (f : Framer) (bytes : List ℕ) (messages : List Message) (current : Option Current) → Stands f bytes messages current → f.state ≡ state.Length 0
    → (it : Current) × (current ≡ Some it) × Spells (limits_of f) bytes (messages ++ whole it.head it.content f.keeps ∷ []) []
reads_due f bytes messages current s e =
    let h = at_length f bytes messages current 0 e s in
    let r = length_ready f bytes messages current e s in (
      h.it,
      h.is,
      record {
        front = r.front ++ r.part;
        split = r.split ∙ sym (append-nil (r.front ++ r.part));
        spelled = spelled_push (limits_of f) 1 messages (whole h.it.head h.it.content f.keeps) r.front r.part r.spelled r.keep r.whole_is;
        no_more = λ keep. open_head (limits_of f) _ [] [] [] [] record { spelled = refl; all_blank = tt; all_filled = tt; open_line = tt } (omega (arith, f.head.some_room));
      },
    )

-- the bytes since the last end are those that the reading leaves
since_end : (f : Framer) (bytes : List ℕ) (messages : List Message) (rest : List ℕ) (s : Stands f bytes messages None) → (IsDue f.state → ⊥)
    → Spells (limits_of f) bytes messages rest → s.part ≡ rest
unfolding reads
since_end f bytes messages rest s due p =
    let r = reads f bytes messages None s due in
    (one_reading (limits_of f) bytes messages messages r.0 rest r.1 p).1

-- whether only CR and LF came since the last end, in a head
pub bare_in_head : (f : Framer) (bytes : List ℕ) (messages : List Message) (rest : List ℕ) (b : Bool) → f.state ≡ state.Head → Stands f bytes messages None
    → Spells (limits_of f) bytes messages rest → ((text : List ℕ) → HeadStands f.head text → b ≡ list_all is_end_byte text) → b ≡ list_all is_end_byte rest
bare_in_head f bytes messages rest b e s p is =
    let h = at_head f bytes messages None e s in
    is s.part h.head ∙ ap (list_all is_end_byte) (since_end f bytes messages rest s (λ due. no_head f.state e due) p)
  where
    no_head : (st : State) → st ≡ state.Head → IsDue st → ⊥
    no_head st a b = cc

-- and after a message that closes
pub bare_in_closed : (f : Framer) (bytes : List ℕ) (messages : List Message) (rest : List ℕ) (b : Bool) → f.state ≡ state.Closed b → Stands f bytes messages None
    → Spells (limits_of f) bytes messages rest → b ≡ list_all is_end_byte rest
bare_in_closed f bytes messages rest b e s p =
    let h : InClosed b messages s.part None = subst (λ (st : State). StandsIn f st messages s.part None) e s.inside in
    h.bare_is ∙ ap (list_all is_end_byte) (since_end f bytes messages rest s (λ due. no_closed f.state b e due) p)
  where
    no_closed : (st : State) (b : Bool) → st ≡ state.Closed b → IsDue st → ⊥
    no_closed st b x y = cc
