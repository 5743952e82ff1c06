-- How many bytes and messages a framer may have read.
use Rattle.std.proofs.Common.{◌≡◌, ℕ, ◌+◌, ◌*◌, ◌^◌, ◌<◌, ◌≤◌, Bool, true, false, List, [], ◌∷◌, ◌++◌, length, take, ap, sym, ◌∙◌, arith, Option, Ok, length-append, length-take}
use Rattle.std.specs.Prelude.{◌==◌, ◌&&◌, not}
use Rattle.std.specs.List.{AllByRecursion}
use Rattle.std.proofs.lemmas.Bool.{false≢true}
use Rattle.std.proofs.lemmas.Bool.Decides.{nat_tests}
use Rattle.std.proofs.lemmas.Nat.{mul-le}
use Rattle.httparse.specs.Grammar.{print_chunk_line}
use Rattle.gcs_http_in.specs.declared.limits.Limits.{Limits}
use Rattle.gcs_http_in.specs.declared.fields.Coding.{Coding}
use Rattle.gcs_http_in.specs.declared.fields.Coding.TheVariants as coding
use Rattle.gcs_http_in.specs.declared.fields.Length.{Length}
use Rattle.gcs_http_in.specs.declared.fields.Length.TheVariants as lengths
use Rattle.gcs_http_in.specs.declared.fields.Framing.{Framing}
use Rattle.gcs_http_in.specs.declared.fields.Framing.TheVariants as framing
use Rattle.gcs_http_in.specs.declared.chunked.ChunkedBody.{ChunkedBody}
use Rattle.gcs_http_in.specs.declared.chunked.Place.{Place}
use Rattle.gcs_http_in.specs.declared.chunked.Place.TheVariants as place
use Rattle.gcs_http_in.specs.declared.framer.Framer.{Framer}
use Rattle.gcs_http_in.specs.declared.state.State.{State}
use Rattle.gcs_http_in.specs.declared.state.State.TheVariants as state
use Rattle.gcs_http_in.specs.Fields.{framing_by, framing_of, coding_in, length_in}
use Rattle.gcs_http_in.specs.Head.{Head}
use Rattle.gcs_http_in.specs.Lines.{print_lines}
use Rattle.gcs_http_in.specs.Chunks.{Chunk, IsChunk, IsChunkedBody, print_chunk, print_chunks, content_of, print_trailer}
use Rattle.gcs_http_in.specs.ChunkState.{InData, StandsAt}
use Rattle.gcs_http_in.specs.Message.{Message, whole, refused, stays, IsGoodHeadText, IsBody, IsWhole, IsSpelling, IsSpelled, AllKeep, keeps_of}
use Rattle.gcs_http_in.specs.Progress.{Current}
use Rattle.gcs_http_in.specs.Reader.{HeadStands}
use Rattle.gcs_http_in.specs.Stands.{Stands, StandsIn, limits_of}
use Rattle.gcs_http_in.specs.Usual.{IsAllowed}
use Rattle.gcs_http_in.specs.Bounds.{most_body, most_message, most_bytes}
use Rattle.gcs_http_in.proofs.StandsReads.{last_keeps}

-- the length that the fields give is within the limit
framing_fits : (most : ℕ) (c : Coding) (l : Length) (n : ℕ) → framing_by most c l ≡ Ok (framing.Length n) → n ≤ most
framing_fits most coding.Bad l n e = absurd (cc)
framing_fits most coding.Chunked lengths.Absent n e = absurd (cc)
framing_fits most coding.Chunked lengths.Bad n e = absurd (cc)
framing_fits most coding.Chunked (lengths.Is k) n e = absurd (cc)
framing_fits most coding.Absent lengths.Absent n e = let z : 0 ≡ n = cc in omega arith
framing_fits most coding.Absent lengths.Bad n e = absurd (cc)
framing_fits most coding.Absent (lengths.Is k) n e = grind (arith, nat_tests)

-- a body by length is within the limit
length_fits : (limits : Limits) (front : List ℕ) (head : Head) (n : ℕ) → IsGoodHeadText limits front head (framing.Length n) → n ≤ limits.body
unfolding framing_of
length_fits limits front head n good = framing_fits limits.body (coding_in head.fields) (length_in head.fields) n good.good.cut

-- a chunk has at least one byte of content for 259 of its text
chunk_fits : (c : Chunk) → IsChunk c → length (print_chunk c) ≤ 259 * length c.bytes
chunk_fits c is = simp length-append (omega (arith, is.line.short, is.some))

-- and so have chunks
chunks_fit : (chunks : List Chunk) → AllByRecursion IsChunk chunks → length (print_chunks chunks) ≤ 259 * length (content_of chunks)
chunks_fit [] all = omega arith
chunks_fit (c ∷ chunks) all =
    let a : length (print_chunks (c ∷ chunks)) ≡ length (print_chunk c) + length (print_chunks chunks) = length-append (print_chunk c) (print_chunks chunks) in
    let b : length (content_of (c ∷ chunks)) ≡ length c.bytes + length (content_of chunks) = length-append c.bytes (content_of chunks) in
    omega (arith, a, b, chunk_fits c all.0, chunks_fit chunks all.1)

-- the length of three texts, one after the other
length_three : (a b c : List ℕ) → length (a ++ (b ++ c)) ≡ length a + (length b + length c)
length_three a b c = simp length-append

-- a whole chunked body isn't too long
chunked_fits : (most : ℕ) (text content : List ℕ) → IsChunkedBody most text content → length text ≤ 259 * most + 33024
chunked_fits most text content b =
    omega (
      arith,
      ap length b.spelled,
      length_three (print_chunks b.chunks) (print_chunk_line b.line) (print_trailer b.lines b.last),
      chunks_fit b.chunks b.are_chunks.each,
      b.are_chunks.sum,
      b.is_line.short,
      b.short,
    )

-- a body isn't too long
body_fits : (limits : Limits) (front : List ℕ) (head : Head) (cut : Framing) (text content : List ℕ) → IsGoodHeadText limits front head cut → IsBody limits cut text content
    → length text ≤ most_body limits
body_fits limits front head (framing.Length n) text content good b = omega (arith, b.0, length_fits limits front head n good)
body_fits limits front head framing.Chunked text content good b = chunked_fits limits.body text content b

-- a whole message isn't too long
whole_fits : (limits : Limits) (n : ℕ) (text : List ℕ) (head : Head) (content : List ℕ) (keeps : Bool) → IsWhole limits n text head content keeps → length text ≤ most_message limits
whole_fits limits n text head content keeps w =
    omega (arith, ap length w.spelled, length-append w.front w.body, w.good.fits, body_fits limits w.front head w.cut w.body content w.good w.body_is)

-- a message that keeps the connection isn't too long
message_fits : (limits : Limits) (n : ℕ) (m : Message) (text : List ℕ) → IsSpelling limits n m text → keeps_of m ≡ true → length text ≤ most_message limits
message_fits limits n (whole head content keeps) text w keep = whole_fits limits n text head content keeps w
message_fits limits n (refused f) text w keep = absurd (false≢true keep)

-- messages that keep the connection aren't too long together
messages_fit : (limits : Limits) (n : ℕ) (ms : List Message) (text : List ℕ) → IsSpelled limits n ms text → AllKeep ms → length text ≤ length ms * most_message limits
messages_fit limits n [] text s keep = omega (arith, ap length s)
messages_fit limits n (m ∷ ms) text s keep =
    let one : length s.0 ≤ most_message limits = message_fits limits n m s.0 s.3 keep.0 in
    let more : length s.1 ≤ length ms * most_message limits = messages_fit limits (n + 1) ms s.1 s.4 keep.1 in
    omega (arith, one, more, ap length s.2, length-append s.0 s.1)

-- a chunk that isn't whole isn't too long, with those before it
data_fits : (b : ChunkedBody) (left : ℕ) (text content : List ℕ) → InData b left text content → length text ≤ 259 * b.most + 256
data_fits b left text content s =
    omega (
      arith,
      ap length s.spelled,
      length_three (print_chunks s.chunks) (print_chunk_line s.line) s.bytes,
      chunks_fit s.chunks s.are_chunks.each,
      s.is_line.short,
      s.sum,
      b.sum_in,
    )

-- a chunked body that isn't whole isn't too long, by the place
place_fits : (b : ChunkedBody) (p : Place) (text content : List ℕ) → StandsAt b p text content → length text ≤ 259 * b.most + 33024
place_fits b place.Line text content s =
    omega (
      arith,
      ap length s.spelled,
      length-append (print_chunks s.chunks) (take b.filled b.line.items),
      length-take b.filled b.line.items,
      b.filled_in,
      chunks_fit s.chunks s.are_chunks.each,
      s.are_chunks.sum,
    )
place_fits b (place.Data left) text content s = omega (arith, data_fits b left text content s)
place_fits b (place.Return first) text content s =
    omega (arith, ap length s.spelled, length-append s.before (first ∷ []), data_fits b 0 s.before content s.inside)
place_fits b place.Trailer text content s =
    omega (
      arith,
      ap length s.spelled,
      length_three (print_chunks s.chunks) (print_chunk_line s.line) (print_lines s.lines ++ s.tail),
      chunks_fit s.chunks s.are_chunks.each,
      s.are_chunks.sum,
      s.is_line.short,
      s.long,
      b.trailer_in,
    )

-- a head that isn't whole isn't too long
head_fits : (f : Framer) (text : List ℕ) → HeadStands f.head text → length text ≤ (limits_of f).head
head_fits f text h =
    omega (arith, ap length h.holds, length-take f.head.text.filled f.head.text.bytes.items, f.head.text.in_range, f.head.text_room)

-- what stands after messages that all keep the connection isn't too long, and one more message may come, by the state
part_fits : (f : Framer) (st : State) (messages : List Message) (part : List ℕ) (current : Option Current) → StandsIn f st messages part current → AllKeep messages
    → (length part ≤ most_message (limits_of f)) × (length messages + 1 ≤ (limits_of f).requests)
part_fits f state.Head messages part current s keep = (omega (arith, head_fits f part s.head), omega (arith, s.left, s.some))
part_fits f (state.Length count) messages part current s keep = (
  omega (arith, ap length s.spelled, length-append s.front s.it.content, s.good.fits, length_fits (limits_of f) s.front s.it.head (length s.it.content + count) s.good),
  omega (arith, s.left, s.some),
)
part_fits f state.Chunked messages part current s keep = (
  omega (arith, ap length s.spelled, length-append s.front s.text, s.good.fits, place_fits f.body f.body.place s.text s.it.content s.body, f.most),
  omega (arith, s.left, s.some),
)
part_fits f (state.Closed bare) messages part current s keep = absurd (last_keeps messages s.before s.last s.are s.closes keep)

-- while all messages keep the connection, the bytes are bounded
pub bytes_bounded : (f : Framer) (bytes : List ℕ) (messages : List Message) (current : Option Current) → Stands f bytes messages current → AllKeep messages
    → length bytes ≤ most_bytes (limits_of f)
unfolding most_bytes
bytes_bounded f bytes messages current s keep =
    let most = most_message (limits_of f) in
    let part = part_fits f f.state messages s.part current s.inside keep in
    let front : length s.front ≤ length messages * most = messages_fit (limits_of f) 1 messages s.front s.spelled keep in
    let all : (length messages + 1) * most ≤ (limits_of f).requests * most = mul-le _ _ _ _ part.1 (omega arith) in
    omega (arith, ap length s.split, length-append s.front s.part, part.0)

-- a message that keeps the connection isn't the last that the limits allow
keeps_before : (limits : Limits) (n : ℕ) (m : Message) (text : List ℕ) → IsSpelling limits n m text → keeps_of m ≡ true → n ≡ limits.requests → ⊥
keeps_before limits n (whole head content keeps) text w keep last = by_number (stays head) n limits.requests (sym w.keeps_is ∙ keep) last
  where
    by_number : (s : Bool) (n most : ℕ) → (s && not (n == most)) ≡ true → n ≡ most → ⊥
    by_number true n most e last = grind (arith, nat_tests)
    by_number false n most e last = false≢true e
keeps_before limits n (refused f) text w keep last = false≢true keep

-- messages that begin with one that the limits allow are at most as many as they allow
numbers_fit : (limits : Limits) (n : ℕ) (ms : List Message) (text : List ℕ) → IsSpelled limits n ms text → n ≤ limits.requests → n + length ms ≤ limits.requests + 1
numbers_fit limits n [] text s le = omega arith
numbers_fit limits n (m ∷ []) text s le = omega arith
numbers_fit limits n (m ∷ k ∷ ms) text s le =
    let other : n ≡ limits.requests → ⊥ = keeps_before limits n m s.0 s.3 (s.5 (omega arith)) in
    let below : n + 1 ≤ limits.requests = below_by n limits.requests le other in
    let rest : (n + 1) + length (k ∷ ms) ≤ limits.requests + 1 = numbers_fit limits (n + 1) (k ∷ ms) s.1 s.4 below in
    omega arith
  where
    below_by : (n most : ℕ) → n ≤ most → (n ≡ most → ⊥) → n + 1 ≤ most
    below_by n most le other = omega arith

-- the messages are at most as many as the limits allow
pub messages_bounded : (f : Framer) (bytes : List ℕ) (messages : List Message) (current : Option Current) → Stands f bytes messages current → IsAllowed (limits_of f)
    → length messages ≤ (limits_of f).requests
messages_bounded f bytes messages current s allowed =
    omega (arith, numbers_fit (limits_of f) 1 messages s.front s.spelled allowed.requests.0)

-- the bound of the bytes is small
pub bound_small : (limits : Limits) → IsAllowed limits → most_bytes limits < 2 ^ 63
unfolding most_bytes
bound_small limits a =
    let one : most_message limits ≤ 278099198208 = omega (arith, a.head.1, a.body.1) in
    let all : limits.requests * most_message limits ≤ 100000 * 278099198208 = mul-le _ _ _ _ a.requests.1 one in
    omega arith
