-- A text begins with at most one message.
use Rattle.std.proofs.Common.{◌≡◌, ℕ, ◌+◌, Bool, List, ◌++◌, length, refl, ap, sym, ◌∙◌, subst, arith, zero-add, inl, inr, Option, Some, None}
use Rattle.std.specs.Prelude.{◌==◌, ◌&&◌, not}
use Rattle.gcs_http_in.specs.declared.limits.Limits.{Limits}
use Rattle.gcs_http_in.specs.declared.fault.FrameFault.{FrameFault}
use Rattle.gcs_http_in.specs.declared.fields.Framing.{Framing}
use Rattle.gcs_http_in.specs.declared.fields.Framing.TheVariants as framing
use Rattle.gcs_http_in.specs.Head.{Head}
use Rattle.gcs_http_in.specs.Chunks.{Chunk, print_chunks, content_of, AreChunks, IsChunkedBody, IsBadBody}
use Rattle.gcs_http_in.specs.Message.{Message, whole, refused, stays, IsBody, IsWhole, IsSpelling}
use Rattle.gcs_http_in.proofs.OneHead.{same_fronts, good_texts, good_refused, refused_texts}
use Rattle.gcs_http_in.proofs.OneBody.{Ending, in_last, in_line, in_end, in_trailer, in_size, outcome, ends_unique, chunks_unique}
use Rattle.gcs_http_in.proofs.Messages.{split_more}

-- a chunked body up to its end, whole or not
record Body (most : ℕ) (t : List ℕ) (o : Option FrameFault) : Type 0 where
  chunks : List Chunk
  rest : List ℕ
  spelled : t ≡ print_chunks chunks ++ rest
  are : AreChunks most chunks
  ends : Ending most (length (content_of chunks)) rest
  gives : outcome ends ≡ o

-- a whole chunked body has an ending without a fault
whole_body : (most : ℕ) (t c : List ℕ) → IsChunkedBody most t c → (b : Body most t None) × (c ≡ content_of b.chunks)
whole_body most t c w = (
  record {
    chunks = w.chunks;
    rest = _;
    spelled = w.spelled;
    are = w.are_chunks;
    ends = in_last record { line = w.line; lines = w.lines; last = w.last; spelled = refl; is_line = w.is_line; size = w.size; trailer = w.trailer; short = w.short };
    gives = refl;
  },
  w.content_is,
)

-- a bad one has an ending with its fault
bad_body : (most : ℕ) (t : List ℕ) (f : FrameFault) → IsBadBody most t f → Body most t (Some f)
bad_body most t f b = elim b.bad [
  | inl p ↦ elim p.1 [
    | inl l ↦ record { chunks = b.chunks; rest = b.rest; spelled = b.spelled; are = b.are_chunks; ends = in_line l; gives = ap Some (sym p.0) }
    | inr q ↦ elim q [
      | inl l ↦ record { chunks = b.chunks; rest = b.rest; spelled = b.spelled; are = b.are_chunks; ends = in_end l; gives = ap Some (sym p.0) }
      | inr l ↦ record { chunks = b.chunks; rest = b.rest; spelled = b.spelled; are = b.are_chunks; ends = in_trailer l; gives = ap Some (sym p.0) }
    ]
  ]
  | inr p ↦ record { chunks = b.chunks; rest = b.rest; spelled = b.spelled; are = b.are_chunks; ends = in_size p.1; gives = ap Some (sym p.0) }
]

-- an ending after equal chunks
move_end : (most : ℕ) (xs ys : List Chunk) (r : List ℕ) (a : Ending most (length (content_of xs)) r) → (e : xs ≡ ys) → (b : Ending most (length (content_of ys)) r) × (outcome b ≡ outcome a)
move_end most xs ys r a e = subst (λ (zs : List Chunk). (b : Ending most (length (content_of zs)) r) × (outcome b ≡ outcome a)) e (a, refl)

-- two chunked bodies at the front of a text are one
bodies : (most : ℕ) (t u x y : List ℕ) (o p : Option FrameFault) (a : Body most t o) (b : Body most u p) → t ++ x ≡ u ++ y → (a.chunks ≡ b.chunks) × (o ≡ p) × (t ≡ u)
bodies most t u x y o p a b e =
    let at0 : Ending most (0 + length (content_of a.chunks)) a.rest = subst (λ (k : ℕ). Ending most k a.rest) (sym (zero-add _)) a.ends in
    let bt0 : Ending most (0 + length (content_of b.chunks)) b.rest = subst (λ (k : ℕ). Ending most k b.rest) (sym (zero-add _)) b.ends in
    let c = chunks_unique most 0 a.chunks b.chunks a.rest b.rest x y a.are.each b.are.each (omega (arith, a.are.sum)) (omega (arith, b.are.sum)) at0 bt0
    (sym (split_more t (print_chunks a.chunks) a.rest x a.spelled) ∙ e ∙ split_more u (print_chunks b.chunks) b.rest y b.spelled) in
    let m = move_end most a.chunks b.chunks a.rest a.ends c.0 in
    let s = ends_unique most (length (content_of b.chunks)) a.rest b.rest x y m.0 b.ends b.are.sum c.1 in
    (c.0, sym a.gives ∙ sym m.1 ∙ s.0 ∙ b.gives, a.spelled ∙ (λ i. print_chunks (c.0 i) ++ s.1 i) ∙ sym b.spelled)

-- two bodies cut alike are one
body_unique : (limits : Limits) (cut : Framing) (t u x y c d : List ℕ) → IsBody limits cut t c → IsBody limits cut u d → t ++ x ≡ u ++ y → (c ≡ d) × (t ≡ u)
body_unique limits (framing.Length n) t u x y c d p q e = let s = same_fronts t u x y e (p.0 ∙ sym q.0) in (p.1 ∙ s.0 ∙ sym q.1, s.0)
body_unique limits framing.Chunked t u x y c d p q e =
    let a = whole_body limits.body t c p in
    let b = whole_body limits.body u d q in
    let s = bodies limits.body t u x y None None a.0 b.0 e in
    (a.1 ∙ ap content_of s.0 ∙ sym b.1, s.2)

-- a whole body is no bad one
whole_or_bad : (limits : Limits) (cut : Framing) (t u x y c : List ℕ) (f : FrameFault) → cut ≡ framing.Chunked → IsBody limits cut t c → IsBadBody limits.body u f → t ++ x ≡ u ++ y → ⊥
whole_or_bad limits cut t u x y c f e p q same =
    let w : IsChunkedBody limits.body t c = subst (λ (k : Framing). IsBody limits k t c) e p in
    let s = bodies limits.body t u x y None (Some f) (whole_body limits.body t c w).0 (bad_body limits.body u f q) same in
    let no_way : None ≡ Some f = s.1 in cc

-- after equal fronts the rest is equal
same_front_rest : (a b x y : List ℕ) → a ≡ b → a ++ x ≡ b ++ y → x ≡ y
same_front_rest a b x y e s = (same_fronts a b x y s (ap length e)).1

-- two whole messages are one
wholes : (limits : Limits) (n : ℕ) (a b x y : List ℕ) (h k : Head) (c d : List ℕ) (s t : Bool) → IsWhole limits n a h c s → IsWhole limits n b k d t → a ++ x ≡ b ++ y
    → (h ≡ k) × (c ≡ d) × (s ≡ t) × (a ≡ b)
wholes limits n a b x y h k c d s t p q e =
    let g = good_texts limits p.front q.front _ _ h k p.cut q.cut p.good q.good (sym (split_more a p.front p.body x p.spelled) ∙ e ∙ split_more b q.front q.body y q.spelled) in
    let r = body_unique limits q.cut p.body q.body x y c d (subst (λ (f : Framing). IsBody limits f p.body c) g.1 p.body_is) q.body_is g.3 in
    (g.0, r.0, p.keeps_is ∙ ap (λ (m : Head). stays m && not (n == limits.requests)) g.0 ∙ sym q.keeps_is, p.spelled ∙ (λ i. g.2 i ++ r.1 i) ∙ sym q.spelled)

-- a whole message is not refused
whole_refused : (limits : Limits) (n : ℕ) (a b x y : List ℕ) (h : Head) (c : List ℕ) (s : Bool) (f : FrameFault) → IsWhole limits n a h c s → IsSpelling limits n (refused f) b → a ++ x ≡ b ++ y → ⊥
whole_refused limits n a b x y h c s f p r e = elim r [
  | inl q ↦ good_refused limits p.front b _ y h p.cut f p.good q (sym (split_more a p.front p.body x p.spelled) ∙ e)
  | inr q ↦ let g = good_texts limits p.front q.front _ _ h q.head p.cut framing.Chunked p.good q.good (sym (split_more a p.front p.body x p.spelled) ∙ e ∙ split_more b q.front q.body y q.spelled) in
      whole_or_bad limits p.cut p.body q.body x y c f g.1 p.body_is q.bad g.3
]

-- two refused messages are one
refuseds : (limits : Limits) (n : ℕ) (a b x y : List ℕ) (f g : FrameFault) → IsSpelling limits n (refused f) a → IsSpelling limits n (refused g) b → a ++ x ≡ b ++ y → (f ≡ g) × (a ≡ b)
refuseds limits n a b x y f g p r e = elim p [
  | inl p ↦ elim r [
    | inl q ↦ refused_texts limits a b x y f g p q e
    | inr q ↦ absurd (good_refused limits q.front a _ x q.head framing.Chunked f q.good p (sym (split_more b q.front q.body y q.spelled) ∙ sym e))
  ]
  | inr p ↦ elim r [
    | inl q ↦ absurd (good_refused limits p.front b _ y p.head framing.Chunked g p.good q (sym (split_more a p.front p.body x p.spelled) ∙ e))
    | inr q ↦
        let t = good_texts limits p.front q.front _ _ p.head q.head framing.Chunked framing.Chunked p.good q.good (sym (split_more a p.front p.body x p.spelled) ∙ e ∙ split_more b q.front q.body y q.spelled) in
        let s = bodies limits.body p.body q.body x y (Some f) (Some g) (bad_body limits.body p.body f p.bad) (bad_body limits.body q.body g q.bad) t.3 in
        let same : Some f ≡ Some g = s.1 in
        (cc, p.spelled ∙ (λ i. t.2 i ++ s.2 i) ∙ sym q.spelled)
  ]
]

-- a text has at most one message at its front
pub one_message : (limits : Limits) (n : ℕ) (m k : Message) (a b x y : List ℕ) → IsSpelling limits n m a → IsSpelling limits n k b → a ++ x ≡ b ++ y
    → (m ≡ k) × (a ≡ b) × (x ≡ y)
one_message limits n (whole h c s) (whole k d t) a b x y p q e =
    let r = wholes limits n a b x y h k c d s t p q e in
    ((λ i. whole (r.0 i) (r.1 i) (r.2 i)), r.3, same_front_rest a b x y r.3 e)
one_message limits n (whole h c s) (refused g) a b x y p q e = absurd (whole_refused limits n a b x y h c s g p q e)
one_message limits n (refused f) (whole k d t) a b x y p q e = absurd (whole_refused limits n b a y x k d t f q p (sym e))
one_message limits n (refused f) (refused g) a b x y p q e =
    let r = refuseds limits n a b x y f g p q e in
    (ap refused r.0, r.1, same_front_rest a b x y r.1 e)
