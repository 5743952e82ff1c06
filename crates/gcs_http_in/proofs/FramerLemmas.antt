-- What a byte makes of a framer that stands.
use Rattle.std.proofs.Common.{◌≡◌, ℕ, ◌+◌, ◌-◌, ◌≤◌, Bool, true, List, [], ◌∷◌, ◌++◌, length, refl, ap, sym, ◌∙◌, subst, arith, append-nil, zero-add, inl, inr, Option, Some, None, length-append}
use Rattle.std.specs.Prelude.{◌==◌, ◌&&◌, not}
use Rattle.gcs_http_in.specs.declared.limits.Limits.{Limits}
use Rattle.gcs_http_in.specs.declared.fault.FrameFault.{FrameFault}
use Rattle.gcs_http_in.specs.declared.fields.Framing.{Framing}
use Rattle.gcs_http_in.specs.declared.fields.Framing.TheVariants as framing
use Rattle.gcs_http_in.specs.declared.framer.Framer.{Framer}
use Rattle.gcs_http_in.specs.declared.state.State.{State}
use Rattle.gcs_http_in.specs.declared.state.State.TheVariants as state
use Rattle.gcs_http_in.specs.Head.{Head}
use Rattle.gcs_http_in.specs.Message.{Message, refused, stays, IsGoodHeadText, IsRefusedHead, IsSpelling, IsSpelled, AllKeep}
use Rattle.gcs_http_in.specs.Reader.{HeadStands, HoldsHead}
use Rattle.gcs_http_in.specs.declared.reader.HeadReader.{HeadReader}
use Rattle.gcs_http_in.specs.Chunks.{IsChunkedBody, IsBadBody}
use Rattle.gcs_http_in.specs.ChunkState.{BodyStands}
use Rattle.gcs_http_in.specs.Progress.{Current}
use Rattle.gcs_http_in.specs.Stands.{limits_of, InHead, InLength, InChunks, StandsIn, Stands, IsReady}
use Rattle.gcs_http_in.proofs.Messages.{spelled_push, split_more, is_last}

-- what stands in a head
pub at_head : (f : Framer) (bytes : List ℕ) (messages : List Message) (current : Option Current) → f.state ≡ state.Head
    → (s : Stands f bytes messages current) → InHead f messages s.part current
at_head f bytes messages current e s = subst (λ (st : State). StandsIn f st messages s.part current) e s.inside

-- messages are spelled under equal limits
same_limits : (f g : Framer) (messages : List Message) (front : List ℕ) → limits_of g ≡ limits_of f → IsSpelled (limits_of f) 1 messages front → IsSpelled (limits_of g) 1 messages front
same_limits f g messages front lim s = subst (λ (l : Limits). IsSpelled l 1 messages front) (sym lim) s

-- the messages that may come are counted alike
same_left : (f g : Framer) (k : ℕ) → limits_of g ≡ limits_of f → g.left ≡ f.left → k + f.left ≡ (limits_of f).requests → k + g.left ≡ (limits_of g).requests
same_left f g k lim left e = ap (λ (n : ℕ). k + n) left ∙ e ∙ ap (λ (l : Limits). l.requests) (sym lim)

-- a refused message
pub closes_by : (f g : Framer) (bytes : List ℕ) (messages : List Message) (e : FrameFault) (front part : List ℕ) → g.state ≡ state.Closed true → limits_of g ≡ limits_of f
    → bytes ≡ front ++ part → IsSpelled (limits_of f) 1 messages front → AllKeep messages → IsSpelling (limits_of g) (1 + length messages) (refused e) part
    → Stands g bytes (messages ++ refused e ∷ []) None
closes_by f g bytes messages e front part eg lim split spelled keep it = record {
  front = front ++ part;
  part = [];
  split = split ∙ sym (append-nil (front ++ part));
  spelled = spelled_push (limits_of g) 1 messages (refused e) front part (same_limits f g messages front lim spelled) keep it;
  inside = subst (λ (st : State). StandsIn g st (messages ++ refused e ∷ []) [] None) (sym eg) record {
    none = refl;
    before = messages;
    last = refused e;
    are = refl;
    closes = refl;
    bare_is = refl;
  };
}

-- a head that is refused
pub head_refused : (f g : Framer) (bytes : List ℕ) (messages : List Message) (current : Option Current) (byte : ℕ) (e : FrameFault)
    → f.state ≡ state.Head → g.state ≡ state.Closed true → limits_of g ≡ limits_of f → Stands f bytes messages current
    → ((text : List ℕ) → HeadStands f.head text → IsRefusedHead (limits_of g) (text ++ byte ∷ []) e)
    → Stands g (bytes ++ byte ∷ []) (messages ++ refused e ∷ []) None
head_refused f g bytes messages current byte e ef eg lim s refuses =
    let h = at_head f bytes messages current ef s in
    closes_by f g (bytes ++ byte ∷ []) messages e s.front (s.part ++ byte ∷ []) eg lim (split_more bytes s.front s.part (byte ∷ []) s.split) s.spelled h.keep
    (inl (refuses s.part h.head))

-- a head, and a body by length
pub head_before_length : (f g : Framer) (bytes : List ℕ) (messages : List Message) (current : Option Current) (byte count : ℕ) (head : Head)
    → (ef : f.state ≡ state.Head) → g.state ≡ state.Length count → limits_of g ≡ limits_of f → g.left ≡ f.left → (s : Stands f bytes messages current)
    → IsGoodHeadText (limits_of g) (s.part ++ byte ∷ []) head (framing.Length count) → HoldsHead g.head head → g.keeps ≡ (stays head && not (f.left == 1))
    → Stands g (bytes ++ byte ∷ []) messages (Some record { head = head; content = [] })
head_before_length f g bytes messages current byte count head ef eg lim left s good holds keeps =
    let h = at_head f bytes messages current ef s in record {
      front = s.front;
      part = s.part ++ byte ∷ [];
      split = split_more bytes s.front s.part (byte ∷ []) s.split;
      spelled = same_limits f g messages s.front lim s.spelled;
      inside = subst (λ (st : State). StandsIn g st messages (s.part ++ byte ∷ []) (Some record { head = head; content = [] })) (sym eg) record {
        it = record { head = head; content = [] };
        is = refl;
        keep = h.keep;
        left = same_left f g (length messages) lim left h.left;
        some = rw left h.some;
        front = s.part ++ byte ∷ [];
        spelled = sym (append-nil (s.part ++ byte ∷ []));
        good = subst (λ (k : ℕ). IsGoodHeadText (limits_of g) (s.part ++ byte ∷ []) head (framing.Length k)) (sym (zero-add count)) good;
        holds = holds;
        keeps = keeps ∙ ap (λ (n : ℕ). stays head && not (n == 1)) (sym left);
      };
    }

-- a head, and a body by chunks
pub head_before_chunks : (f g : Framer) (bytes : List ℕ) (messages : List Message) (current : Option Current) (byte : ℕ) (head : Head)
    → (ef : f.state ≡ state.Head) → g.state ≡ state.Chunked → limits_of g ≡ limits_of f → g.left ≡ f.left → (s : Stands f bytes messages current)
    → IsGoodHeadText (limits_of g) (s.part ++ byte ∷ []) head framing.Chunked → HoldsHead g.head head → g.keeps ≡ (stays head && not (f.left == 1))
    → BodyStands g.body [] []
    → Stands g (bytes ++ byte ∷ []) messages (Some record { head = head; content = [] })
head_before_chunks f g bytes messages current byte head ef eg lim left s good holds keeps body =
    let h = at_head f bytes messages current ef s in record {
      front = s.front;
      part = s.part ++ byte ∷ [];
      split = split_more bytes s.front s.part (byte ∷ []) s.split;
      spelled = same_limits f g messages s.front lim s.spelled;
      inside = subst (λ (st : State). StandsIn g st messages (s.part ++ byte ∷ []) (Some record { head = head; content = [] })) (sym eg) record {
        it = record { head = head; content = [] };
        is = refl;
        keep = h.keep;
        left = same_left f g (length messages) lim left h.left;
        some = rw left h.some;
        front = s.part ++ byte ∷ [];
        text = [];
        spelled = sym (append-nil (s.part ++ byte ∷ []));
        good = good;
        holds = holds;
        keeps = keeps ∙ ap (λ (n : ℕ). stays head && not (n == 1)) (sym left);
        body = body;
      };
    }

-- what stands in a chunked body
pub at_chunks : (f : Framer) (bytes : List ℕ) (messages : List Message) (current : Option Current) → f.state ≡ state.Chunked
    → (s : Stands f bytes messages current) → InChunks f messages s.part current
at_chunks f bytes messages current e s = subst (λ (st : State). StandsIn f st messages s.part current) e s.inside

-- what stands in a body by length
pub at_length : (f : Framer) (bytes : List ℕ) (messages : List Message) (current : Option Current) (count : ℕ) → f.state ≡ state.Length count
    → (s : Stands f bytes messages current) → InLength f count messages s.part current
at_length f bytes messages current count e s = subst (λ (st : State). StandsIn f st messages s.part current) e s.inside

-- the same reader holds the same head
same_head : (f g : Framer) (head : Head) → g.head ≡ f.head → HoldsHead f.head head → HoldsHead g.head head
same_head f g head e h = subst (λ (r : HeadReader). HoldsHead r head) (sym e) h

-- a head is good under equal limits
same_good : (f g : Framer) (text : List ℕ) (head : Head) (cut : Framing) → g.head ≡ f.head → IsGoodHeadText (limits_of f) text head cut → IsGoodHeadText (limits_of g) text head cut
same_good f g text head cut e h = subst (λ (r : HeadReader). IsGoodHeadText r.limits text head cut) (sym e) h

-- bytes of a chunked body
pub chunks_step : (f g : Framer) (bytes x : List ℕ) (messages : List Message) (current : Option Current) (content : List ℕ) → (ef : f.state ≡ state.Chunked)
    → g.state ≡ state.Chunked → g.head ≡ f.head → g.left ≡ f.left → g.keeps ≡ f.keeps → (s : Stands f bytes messages current)
    → BodyStands g.body ((at_chunks f bytes messages current ef s).text ++ x) content
    → Stands g (bytes ++ x) messages (Some record { head = (at_chunks f bytes messages current ef s).it.head; content = content })
chunks_step f g bytes x messages current content ef eg head left keeps s body =
    let h = at_chunks f bytes messages current ef s in
    let lim : limits_of g ≡ limits_of f = ap (λ (r : HeadReader). r.limits) head in record {
      front = s.front;
      part = s.part ++ x;
      split = split_more bytes s.front s.part x s.split;
      spelled = same_limits f g messages s.front lim s.spelled;
      inside = subst (λ (st : State). StandsIn g st messages (s.part ++ x) (Some record { head = h.it.head; content = content })) (sym eg) record {
        it = record { head = h.it.head; content = content };
        is = refl;
        keep = h.keep;
        left = same_left f g (length messages) lim left h.left;
        some = rw left h.some;
        front = h.front;
        text = h.text ++ x;
        spelled = split_more s.part h.front h.text x h.spelled;
        good = same_good f g h.front h.it.head framing.Chunked head h.good;
        holds = same_head f g h.it.head head h.holds;
        keeps = keeps ∙ h.keeps ∙ ap (λ (n : ℕ). stays h.it.head && not (n == 1)) (sym left);
        body = body;
      };
    }

-- bytes of a body by length
pub length_step : (f g : Framer) (bytes x : List ℕ) (messages : List Message) (current : Option Current) (count : ℕ) → (ef : f.state ≡ state.Length count)
    → length x ≤ count → g.state ≡ state.Length (count - length x) → g.head ≡ f.head → g.left ≡ f.left → g.keeps ≡ f.keeps → (s : Stands f bytes messages current)
    → Stands g (bytes ++ x) messages (Some record { head = (at_length f bytes messages current count ef s).it.head; content = (at_length f bytes messages current count ef s).it.content ++ x })
length_step f g bytes x messages current count ef le eg head left keeps s =
    let h = at_length f bytes messages current count ef s in
    let lim : limits_of g ≡ limits_of f = ap (λ (r : HeadReader). r.limits) head in
    let now : Current = record { head = h.it.head; content = h.it.content ++ x } in
    let n : length h.it.content + count ≡ length (h.it.content ++ x) + (count - length x) = rw length-append (omega arith) in record {
      front = s.front;
      part = s.part ++ x;
      split = split_more bytes s.front s.part x s.split;
      spelled = same_limits f g messages s.front lim s.spelled;
      inside = subst (λ (st : State). StandsIn g st messages (s.part ++ x) (Some now)) (sym eg) record {
        it = now;
        is = refl;
        keep = h.keep;
        left = same_left f g (length messages) lim left h.left;
        some = rw left h.some;
        front = h.front;
        spelled = split_more s.part h.front h.it.content x h.spelled;
        good = same_good f g h.front h.it.head (framing.Length (length (h.it.content ++ x) + (count - length x))) head
            (subst (λ (k : ℕ). IsGoodHeadText (limits_of f) h.front h.it.head (framing.Length k)) n h.good);
        holds = same_head f g h.it.head head h.holds;
        keeps = keeps ∙ h.keeps ∙ ap (λ (n : ℕ). stays h.it.head && not (n == 1)) (sym left);
      };
    }

-- the last message is the one after which none may come
pub keeps_by_number : (s : Bool) (k left most : ℕ) → k + left ≡ most → (s && not (left == 1)) ≡ (s && not (1 + k == most))
keeps_by_number s k left most e = ap (λ (b : Bool). s && not b) (sym (is_last k left most e))

-- the last byte of a chunked body
pub chunks_ready : (f g : Framer) (bytes x : List ℕ) (messages : List Message) (current : Option Current) → (ef : f.state ≡ state.Chunked)
    → g.head ≡ f.head → g.left ≡ f.left → g.keeps ≡ f.keeps → g.body.most ≡ (limits_of g).body → (s : Stands f bytes messages current)
    → IsChunkedBody g.body.most ((at_chunks f bytes messages current ef s).text ++ x) (at_chunks f bytes messages current ef s).it.content
    → IsReady g (bytes ++ x) messages (at_chunks f bytes messages current ef s).it
chunks_ready f g bytes x messages current ef head left keeps most s body =
    let h = at_chunks f bytes messages current ef s in
    let lim : limits_of g ≡ limits_of f = ap (λ (r : HeadReader). r.limits) head in
    let l : length messages + g.left ≡ (limits_of g).requests = same_left f g (length messages) lim left h.left in record {
      front = s.front;
      part = s.part ++ x;
      split = split_more bytes s.front s.part x s.split;
      spelled = same_limits f g messages s.front lim s.spelled;
      keep = h.keep;
      left = l;
      some = rw left h.some;
      whole_is = record {
        cut = framing.Chunked;
        front = h.front;
        body = h.text ++ x;
        spelled = split_more s.part h.front h.text x h.spelled;
        good = same_good f g h.front h.it.head framing.Chunked head h.good;
        body_is = subst (λ (m : ℕ). IsChunkedBody m (h.text ++ x) h.it.content) most body;
        keeps_is = keeps ∙ h.keeps ∙ ap (λ (n : ℕ). stays h.it.head && not (n == 1)) (sym left) ∙ keeps_by_number (stays h.it.head) (length messages) g.left (limits_of g).requests l;
      };
    }

-- a body by length is whole
pub length_ready : (f : Framer) (bytes : List ℕ) (messages : List Message) (current : Option Current) → (ef : f.state ≡ state.Length 0)
    → (s : Stands f bytes messages current) → IsReady f bytes messages (at_length f bytes messages current 0 ef s).it
length_ready f bytes messages current ef s =
    let h = at_length f bytes messages current 0 ef s in record {
      front = s.front;
      part = s.part;
      split = s.split;
      spelled = s.spelled;
      keep = h.keep;
      left = h.left;
      some = h.some;
      whole_is = record {
        cut = framing.Length (length h.it.content + 0);
        front = h.front;
        body = h.it.content;
        spelled = h.spelled;
        good = h.good;
        body_is = (omega arith, refl);
        keeps_is = h.keeps ∙ keeps_by_number (stays h.it.head) (length messages) f.left (limits_of f).requests h.left;
      };
    }

-- a chunked body is refused
pub chunks_refused : (f g : Framer) (bytes x : List ℕ) (messages : List Message) (current : Option Current) (e : FrameFault) → (ef : f.state ≡ state.Chunked)
    → g.state ≡ state.Closed true → g.head ≡ f.head → g.body.most ≡ (limits_of g).body → (s : Stands f bytes messages current)
    → IsBadBody g.body.most ((at_chunks f bytes messages current ef s).text ++ x) e
    → Stands g (bytes ++ x) (messages ++ refused e ∷ []) None
chunks_refused f g bytes x messages current e ef eg head most s bad =
    let h = at_chunks f bytes messages current ef s in
    let lim : limits_of g ≡ limits_of f = ap (λ (r : HeadReader). r.limits) head in
    closes_by f g (bytes ++ x) messages e s.front (s.part ++ x) eg lim (split_more bytes s.front s.part x s.split) s.spelled h.keep (inr record {
      head = h.it.head;
      front = h.front;
      body = h.text ++ x;
      spelled = split_more s.part h.front h.text x h.spelled;
      good = same_good f g h.front h.it.head framing.Chunked head h.good;
      bad = subst (λ (m : ℕ). IsBadBody m (h.text ++ x) e) most bad;
    })

-- the same where no content comes
pub chunks_more : (f g : Framer) (bytes x : List ℕ) (messages : List Message) (current : Option Current) → (ef : f.state ≡ state.Chunked)
    → g.state ≡ state.Chunked → g.head ≡ f.head → g.left ≡ f.left → g.keeps ≡ f.keeps → (s : Stands f bytes messages current)
    → BodyStands g.body ((at_chunks f bytes messages current ef s).text ++ x) (at_chunks f bytes messages current ef s).it.content
    → Stands g (bytes ++ x) messages current
chunks_more f g bytes x messages current ef eg head left keeps s body =
    subst (λ (o : Option Current). Stands g (bytes ++ x) messages o) (sym (at_chunks f bytes messages current ef s).is)
    (chunks_step f g bytes x messages current (at_chunks f bytes messages current ef s).it.content ef eg head left keeps s body)
