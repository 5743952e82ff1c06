-- A copy of a framer has read the same.
use Rattle.std.proofs.Common.{◌≡◌, ℕ, ◌+◌, ◌<◌, List, ◌++◌, length, take, ap, ap₂, sym, ◌∙◌, subst, refl, Option}
use Rattle.std.specs.Prelude.{◌==◌, ◌&&◌, not}
use Rattle.httparse.specs.declared.spans.HeaderSpan.{HeaderSpan}
use Rattle.httparse.specs.declared.spans.RequestSpans.{RequestSpans}
use Rattle.httparse.specs.Spans.{IsRequestWithin}
use Rattle.gcs_http_in.specs.declared.limits.Limits.{Limits}
use Rattle.gcs_http_in.specs.declared.fields.Framing.TheVariants as framing
use Rattle.gcs_http_in.specs.declared.head.HeadText.{HeadText}
use Rattle.gcs_http_in.specs.declared.reader.HeadReader.{HeadReader}
use Rattle.gcs_http_in.specs.declared.chunked.ChunkedBody.{ChunkedBody}
use Rattle.gcs_http_in.specs.declared.chunked.Place.{Place}
use Rattle.gcs_http_in.specs.declared.chunked.Place.TheVariants as place
use Rattle.gcs_http_in.specs.declared.framer.Framer.{Framer}
use Rattle.gcs_http_in.specs.declared.state.State.{State}
use Rattle.gcs_http_in.specs.declared.state.State.TheVariants as state
use Rattle.gcs_http_in.specs.Lines.{OpensHead, IsLine}
use Rattle.gcs_http_in.specs.Head.{Head}
use Rattle.gcs_http_in.specs.Request.{SaysAt}
use Rattle.gcs_http_in.specs.Scan.{text_of, stripped_of}
use Rattle.gcs_http_in.specs.Chunks.{print_chunks, AreChunks}
use Rattle.gcs_http_in.specs.ChunkState.{StandsAt, BodyStands, InData}
use Rattle.gcs_http_in.specs.Message.{Message, stays, IsGoodHeadText, IsSpelled}
use Rattle.gcs_http_in.specs.Progress.{Current}
use Rattle.gcs_http_in.specs.Reader.{HeadStands, HoldsHead}
use Rattle.gcs_http_in.specs.Stands.{Stands, StandsIn, limits_of}
use Rattle.gcs_http_in.specs.Copies.{IsSameText, IsSameReader, IsSameBody, IsSameFramer}

-- the same bytes of a head
same_text_of : (a b : HeadText) → IsSameText a b → text_of a ≡ text_of b
same_text_of a b h = ap₂ take h.filled h.bytes

same_stripped_of : (a b : HeadText) → IsSameText a b → stripped_of a ≡ stripped_of b
same_stripped_of a b h = rw (h.bytes, h.first, h.filled) refl

-- the copied reader holds the same front of a head
same_front : (r q : HeadReader) (text : List ℕ) → IsSameReader r q → HeadStands q text → HeadStands r text
same_front r q text h s = record {
  holds = same_text_of r.text q.text h.text ∙ s.holds;
  blank = s.blank;
  lines = s.lines;
  tail = s.tail;
  scans = record {
    opens = subst (λ (t : List ℕ). OpensHead t s.blank s.lines s.tail) (sym (same_text_of r.text q.text h.text)) s.scans.opens;
    first = h.text.first ∙ s.scans.first;
    lines_are = h.text.lines ∙ s.scans.lines_are;
    line_is = h.text.line ∙ s.scans.line_is;
  };
  bare = h.text.bare ∙ s.bare;
}

-- what is said of a text, of spans and of a request holds of the same ones
same_parts : (P : List ℕ → List HeaderSpan → RequestSpans → Type 0) (t u : List ℕ) (hs gs : List HeaderSpan) (x y : RequestSpans)
    → t ≡ u → hs ≡ gs → x ≡ y → P u gs y → P t hs x
same_parts P t u hs gs x y et eh ex p =
    subst (λ (v : List ℕ). P v hs x) (sym et) (subst (λ (ks : List HeaderSpan). P u ks x) (sym eh) (subst (λ (z : RequestSpans). P u gs z) (sym ex) p))

-- the copied reader holds the same whole head
same_head : (r q : HeadReader) (head : Head) → IsSameReader r q → HoldsHead q head → HoldsHead r head
same_head r q head h s =
    let text = same_stripped_of r.text q.text h.text in record {
      within = same_parts IsRequestWithin _ _ _ _ _ _ text h.headers h.request s.within;
      says = same_parts (λ t hs x. SaysAt t hs x head) _ _ _ _ _ _ text h.headers h.request s.says;
    }

-- the copied body is in the same chunk
same_chunk : (a b : ChunkedBody) (left : ℕ) (text content : List ℕ) → IsSameBody a b → InData b left text content → InData a left text content
same_chunk a b left text content h s = record {
  chunks = s.chunks;
  line = s.line;
  bytes = s.bytes;
  spelled = s.spelled;
  are_chunks = subst (λ (m : ℕ). AreChunks m s.chunks) (sym h.most) s.are_chunks;
  is_line = s.is_line;
  size = s.size;
  some = s.some;
  sum = h.sum ∙ s.sum;
  content_is = s.content_is;
}

-- the copied body stands so, by the place
same_body_at : (a b : ChunkedBody) (p : Place) (text content : List ℕ) → IsSameBody a b → StandsAt b p text content → StandsAt a p text content
same_body_at a b place.Line text content h s =
    let line : take a.filled a.line.items ≡ take b.filled b.line.items = ap₂ take h.filled h.line in record {
      chunks = s.chunks;
      spelled = s.spelled ∙ ap (λ (l : List ℕ). print_chunks s.chunks ++ l) (sym line);
      are_chunks = subst (λ (m : ℕ). AreChunks m s.chunks) (sym h.most) s.are_chunks;
      open_line = subst IsLine (sym line) s.open_line;
      sum = h.sum ∙ s.sum;
      content_is = s.content_is;
    }
same_body_at a b (place.Data left) text content h s = same_chunk a b left text content h s
same_body_at a b (place.Return first) text content h s =
    record { before = s.before; spelled = s.spelled; inside = same_chunk a b 0 s.before content h s.inside }
same_body_at a b place.Trailer text content h s = record {
  chunks = s.chunks;
  line = s.line;
  lines = s.lines;
  tail = s.tail;
  spelled = s.spelled;
  are_chunks = subst (λ (m : ℕ). AreChunks m s.chunks) (sym h.most) s.are_chunks;
  is_line = s.is_line;
  size = s.size;
  each = s.each;
  open_line = s.open_line;
  long = h.trailer ∙ s.long;
  line_is = h.trailer_line ∙ s.line_is;
  content_is = s.content_is;
}

same_body : (a b : ChunkedBody) (text content : List ℕ) → IsSameBody a b → BodyStands b text content → BodyStands a text content
same_body a b text content h s =
    subst (λ (p : Place). StandsAt a p text content) (sym h.place) (same_body_at a b b.place text content h s)

-- the same messages may come
same_left : (f g : Framer) (k : ℕ) → IsSameFramer f g → k + g.left ≡ (limits_of g).requests → k + f.left ≡ (limits_of f).requests
same_left f g k h e = ap (λ (n : ℕ). k + n) h.left ∙ e ∙ ap (λ (l : Limits). l.requests) (sym h.head.limits)

-- the copied framer stands so, by the state
same_at : (f g : Framer) (st : State) (messages : List Message) (part : List ℕ) (current : Option Current) → IsSameFramer f g
    → StandsIn g st messages part current → StandsIn f st messages part current
same_at f g state.Head messages part current h s = record {
  none = s.none;
  keep = s.keep;
  left = same_left f g (length messages) h s.left;
  some = subst (λ (n : ℕ). 0 < n) (sym h.left) s.some;
  head = same_front f.head g.head part h.head s.head;
}
same_at f g (state.Length count) messages part current h s = record {
  it = s.it;
  is = s.is;
  keep = s.keep;
  left = same_left f g (length messages) h s.left;
  some = subst (λ (n : ℕ). 0 < n) (sym h.left) s.some;
  front = s.front;
  spelled = s.spelled;
  good = subst (λ (l : Limits). IsGoodHeadText l s.front s.it.head (framing.Length (length s.it.content + count))) (sym h.head.limits) s.good;
  holds = same_head f.head g.head s.it.head h.head s.holds;
  keeps = h.keeps ∙ s.keeps ∙ ap (λ (n : ℕ). stays s.it.head && not (n == 1)) (sym h.left);
}
same_at f g state.Chunked messages part current h s = record {
  it = s.it;
  is = s.is;
  keep = s.keep;
  left = same_left f g (length messages) h s.left;
  some = subst (λ (n : ℕ). 0 < n) (sym h.left) s.some;
  front = s.front;
  text = s.text;
  spelled = s.spelled;
  good = subst (λ (l : Limits). IsGoodHeadText l s.front s.it.head framing.Chunked) (sym h.head.limits) s.good;
  holds = same_head f.head g.head s.it.head h.head s.holds;
  keeps = h.keeps ∙ s.keeps ∙ ap (λ (n : ℕ). stays s.it.head && not (n == 1)) (sym h.left);
  body = same_body f.body g.body s.text s.it.content h.body s.body;
}
same_at f g (state.Closed bare) messages part current h s = s

-- a copy stands for the same bytes, messages and current message
pub same_stands : (f g : Framer) (bytes : List ℕ) (messages : List Message) (current : Option Current) → IsSameFramer f g
    → Stands g bytes messages current → Stands f bytes messages current
same_stands f g bytes messages current h s = record {
  front = s.front;
  part = s.part;
  split = s.split;
  spelled = subst (λ (l : Limits). IsSpelled l 1 messages s.front) (sym h.head.limits) s.spelled;
  inside = subst (λ (st : State). StandsIn f st messages s.part current) (sym h.state) (same_at f g g.state messages s.part current h s.inside);
}
