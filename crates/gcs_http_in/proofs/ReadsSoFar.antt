-- A framer tells at once what has come.
use Rattle.std.proofs.Common.{Bool, ◌≡◌, ℕ, ◌+◌, List, [], ◌∷◌, ◌++◌, length, refl, ap, sym, ◌∙◌, subst, arith, append_assoc, append-nil, inl, inr, Option, Some, None}
use Rattle.httparse.specs.Grammar.{print_chunk_line}
use Rattle.gcs_http_in.specs.declared.fields.Framing.TheVariants as framing
use Rattle.gcs_http_in.specs.declared.chunked.ChunkedBody.{ChunkedBody}
use Rattle.gcs_http_in.specs.declared.chunked.Place.{Place}
use Rattle.gcs_http_in.specs.declared.chunked.Place.TheVariants as place
use Rattle.gcs_http_in.specs.declared.framer.Framer.{Framer}
use Rattle.gcs_http_in.specs.declared.state.State.{State}
use Rattle.gcs_http_in.specs.declared.state.State.TheVariants as state
use Rattle.gcs_http_in.specs.Chunks.{content_of}
use Rattle.gcs_http_in.specs.ChunkState.{StandsAt}
use Rattle.gcs_http_in.specs.Message.{Message, AllKeep}
use Rattle.gcs_http_in.specs.Progress.{Current, OpensChunks, IsUnderWay, ReadsSoFar}
use Rattle.gcs_http_in.specs.Stands.{Stands, StandsIn, IsDue, limits_of}
use Rattle.gcs_http_in.proofs.HeadUnique.{open_none}
use Rattle.gcs_http_in.proofs.StandsReads.{open_place, last_keeps}

-- a chunked body so far is the front of one, by the place
body_so_far : (b : ChunkedBody) (p : Place) (text content : List ℕ) → StandsAt b p text content → OpensChunks b.most text content
body_so_far b place.Line text content s = record {
  chunks = s.chunks;
  rest = _;
  bytes = [];
  spelled = s.spelled;
  are_chunks = s.are_chunks;
  content_is = s.content_is ∙ sym (append-nil (content_of s.chunks));
  open_part = inr (refl, inl s.open_line);
}
body_so_far b (place.Data left) text content s = record {
  chunks = s.chunks;
  rest = _;
  bytes = s.bytes;
  spelled = s.spelled;
  are_chunks = s.are_chunks;
  content_is = s.content_is;
  open_part = inl record {
    line = s.line;
    after = [];
    spelled = ap (λ (t : List ℕ). print_chunk_line s.line ++ t) (sym (append-nil s.bytes));
    is_line = s.is_line;
    fits = omega (arith, s.size);
    none_before_end = λ lt. absurd (omega arith);
    at_most_one = omega arith;
  };
}
body_so_far b (place.Return first) text content s =
    let i = s.inside in record {
      chunks = i.chunks;
      rest = _;
      bytes = i.bytes;
      spelled = s.spelled ∙ ap (λ (t : List ℕ). t ++ first ∷ []) i.spelled ∙ append_assoc _ _ (first ∷ []);
      are_chunks = i.are_chunks;
      content_is = i.content_is;
      open_part = inl record {
        line = i.line;
        after = first ∷ [];
        spelled = append_assoc _ i.bytes (first ∷ []);
        is_line = i.is_line;
        fits = omega (arith, i.size);
        none_before_end = λ lt. omega (arith, i.size);
        at_most_one = omega arith;
      };
    }
body_so_far b place.Trailer text content s = record {
  chunks = s.chunks;
  rest = _;
  bytes = [];
  spelled = s.spelled;
  are_chunks = s.are_chunks;
  content_is = s.content_is ∙ sym (append-nil (content_of s.chunks));
  open_part = inr (refl, inr record { line = s.line; lines = s.lines; tail = s.tail; spelled = refl; is_line = s.is_line; size = s.size; each = s.each; open_line = s.open_line });
}

-- what stands after the whole messages, by the state
under_way : (f : Framer) (st : State) (messages : List Message) (part : List ℕ) (current : Option Current) → f.state ≡ st → StandsIn f st messages part current
    → IsUnderWay (limits_of f) messages part current
under_way f state.Head messages part None e s = λ keep. (
  open_place f state.Head (length messages + 1) part messages part None e s (λ due. no_head due) keep,
  λ front more head cut same good. open_none _ front more s.head.blank good.blank s.head.lines good.lines s.head.tail good.last s.head.scans.opens good.whole (s.head.holds ∙ same),
)
  where
    no_head : IsDue state.Head → ⊥
    no_head a = cc
under_way f state.Head messages part (Some it) e s = absurd (let n : Some it ≡ None = s.none in cc)
under_way f (state.Length count) messages part None e s = absurd (let n : None ≡ Some s.it = s.is in cc)
under_way f (state.Length count) messages part (Some it) e s =
    subst (λ (c : Option Current). IsUnderWay (limits_of f) messages part c) (sym s.is)
    (s.keep, record { cut = framing.Length (length s.it.content + count); front = s.front; body = s.it.content; spelled = s.spelled; good = s.good; body_is = (refl, omega arith) })
under_way f state.Chunked messages part None e s = absurd (let n : None ≡ Some s.it = s.is in cc)
under_way f state.Chunked messages part (Some it) e s =
    subst (λ (c : Option Current). IsUnderWay (limits_of f) messages part c) (sym s.is) (
      s.keep,
      record {
        cut = framing.Chunked;
        front = s.front;
        body = s.text;
        spelled = s.spelled;
        good = s.good;
        body_is = subst (λ (m : ℕ). OpensChunks m s.text s.it.content) f.most (body_so_far f.body f.body.place s.text s.it.content s.body);
      },
    )
under_way f (state.Closed bare) messages part None e s = λ keep. absurd (open_closed f bare part messages s keep)
  where
    open_closed : (f : Framer) (bare : Bool) (part : List ℕ) (messages : List Message) → StandsIn f (state.Closed bare) messages part None → AllKeep messages → ⊥
    open_closed f bare part messages s keep = last_keeps messages s.before s.last s.are s.closes keep
under_way f (state.Closed bare) messages part (Some it) e s = absurd (let n : Some it ≡ None = s.none in cc)

-- a framer stands for what was read so far
pub reads_so_far : (f : Framer) (bytes : List ℕ) (messages : List Message) (current : Option Current) → Stands f bytes messages current → ReadsSoFar (limits_of f) bytes messages current
reads_so_far f bytes messages current s = record {
  front = s.front;
  rest = s.part;
  split = s.split;
  spelled = s.spelled;
  under_way = under_way f f.state messages s.part current refl s.inside;
}
