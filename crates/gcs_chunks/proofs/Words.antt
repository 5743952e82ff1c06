-- What the words of a content say of its bytes, for this crate and for those above it.
use Rattle.std.proofs.Common.{◌≡◌, ◌<◌, ◌≤◌, refl, sym, ap, ap₂, ◌∙◌, arith, ℕ, ◌+◌, ◌-◌, Bool, true, false, nat_lt, List, [], ◌∷◌, ◌++◌, drop, take, length}
use Rattle.std.specs.Prelude.{slice_range, if◌then◌else◌, min}
use Rattle.std.proofs.lemmas.Bool.{ltb-true, ltb-false}
use Rattle.std.proofs.lemmas.List.{append_assoc, append-nil, drop-append-le, drop-drop, drop-take, length-drop}
use Rattle.std.proofs.lemmas.List.{length-take}
use Rattle.std.proofs.lemmas.List.{take-take, length-take-le}
use Rattle.std.proofs.Math.Seq.{drop-append-add, drop-nil, take-add, take-append_seam, drop-append_seam}
use Rattle.gcs_chunks.specs.Content.{Chunk, ChunksValue, ContentLiesIn, Part, PartsLieIn, PieceLiesIn, Whole, bytes_of, bytes_of_piece, joined, no_content, part_bytes, parts_bytes, part_of, rest_of, rest_parts}

-- the content without bytes has none
pub bytes_of-no_content : bytes_of no_content ≡ []
unfolding bytes_of no_content
bytes_of-no_content = refl

-- the parts of two lists have the bytes of the first and then those of the second
pub parts_bytes-append : (xs ys : List Part) → parts_bytes (xs ++ ys) ≡ parts_bytes xs ++ parts_bytes ys
parts_bytes-append [] ys = refl
parts_bytes-append (x ∷ xs) ys = ap (λ l. part_bytes x ++ l) (parts_bytes-append xs ys) ∙ sym (append_assoc (part_bytes x) (parts_bytes xs) (parts_bytes ys))

-- a content and then another has the bytes of both
pub bytes_of-joined : (first second : Whole) → bytes_of (joined first second) ≡ bytes_of first ++ bytes_of second
unfolding bytes_of joined
bytes_of-joined first second = parts_bytes-append first.parts second.parts

-- a part has no more bytes than places
pub part_short : (part : Part) → length (part_bytes part) ≤ part.to - part.from
part_short part = grind (arith, length-take (part.to - part.from) (drop part.from part.chunk.bytes))

-- a part within its piece has a byte for each place
pub part_size : (part : Part) → part.to ≤ length part.chunk.bytes → length (part_bytes part) ≡ part.to - part.from
part_size part within = grind (arith, length-take (part.to - part.from) (drop part.from part.chunk.bytes), length-drop part.from part.chunk.bytes)

-- a part without its first places
pub part_rest : (part : Part) (n : ℕ) → n < part.to - part.from → part_bytes (record part { from = part.from + n }) ≡ drop n (part_bytes part)
part_rest part n within =
    let size : n + (part.to - (part.from + n)) ≡ part.to - part.from = omega (arith, within) in
    ap (take (part.to - (part.from + n))) (sym (drop-drop n part.from part.chunk.bytes))
    ∙ sym (drop-take n (part.to - (part.from + n)) (drop part.from part.chunk.bytes))
    ∙ ap (λ k. drop n (take k (drop part.from part.chunk.bytes))) size

rest_by : (b : Bool) (n : ℕ) (part : Part) (parts : List Part) → nat_lt n (length (part_bytes part)) ≡ b
    → ((m : ℕ) → parts_bytes (rest_parts m parts) ≡ drop m (parts_bytes parts))
    → parts_bytes (if b then record part { from = part.from + n } ∷ rest_parts 0 parts else rest_parts (n - length (part_bytes part)) parts)
    ≡ drop n (part_bytes part ++ parts_bytes parts)
rest_by true n part parts more rest =
    let within : n < length (part_bytes part) = ltb-true n (length (part_bytes part)) more in
    ap₂ (λ a b. a ++ b) (part_rest part n (omega (arith, within, part_short part))) (rest 0) ∙ sym (drop-append-le n (part_bytes part) (parts_bytes parts) (omega (arith, within)))
rest_by false n part parts less rest =
    let past : length (part_bytes part) ≤ n = ltb-false n (length (part_bytes part)) less in
    rest (n - length (part_bytes part))
    ∙ sym (drop-append-add (part_bytes part) (parts_bytes parts) (n - length (part_bytes part)))
    ∙ ap (λ k. drop k (part_bytes part ++ parts_bytes parts)) (omega (arith, past))

-- parts without their first n bytes have the bytes from n on
pub bytes_of-parts : (parts : List Part) (n : ℕ) → parts_bytes (rest_parts n parts) ≡ drop n (parts_bytes parts)
bytes_of-parts [] n = sym (drop-nil n)
bytes_of-parts (part ∷ parts) n = rest_by (nat_lt n (length (part_bytes part))) n part parts refl (bytes_of-parts parts)

by_order : (b : Bool) (piece : Chunk) (from to : ℕ) → nat_lt from to ≡ b
    → parts_bytes (if b then record { chunk = piece; from = from; to = to } ∷ [] else []) ≡ slice_range piece.bytes from to
by_order true piece from to less = append-nil (slice_range piece.bytes from to)
by_order false piece from to past =
    let none : to - from ≡ 0 = omega (arith, ltb-false from to past) in
    sym (ap (λ k. take k (drop from piece.bytes)) none)

-- a part of a piece has the piece's bytes from one place up to the other
pub bytes_of-part_of : (piece : Chunk) (from to : ℕ) → bytes_of (part_of piece from to) ≡ slice_range (bytes_of_piece piece) from to
unfolding bytes_of part_of bytes_of_piece
bytes_of-part_of piece from to = by_order (nat_lt from to) piece from to refl

-- the rest of a part is what stands at its place
pub rest_stands : (first rest : List ℕ) (skip : ℕ) → skip < length first → drop skip first ≡ take (length (drop skip first)) (drop skip (first ++ rest))
rest_stands first rest skip within =
    sym (take-append_seam (drop skip first) rest)
    ∙ ap (take (length (drop skip first))) (sym (drop-append-le skip first rest (omega (arith, within))))

-- the first of the bytes that stand at a place
pub first_there : (bytes here : List ℕ) (at count : ℕ) → here ≡ take (length here) (drop at bytes) → count ≤ length here → take count here ≡ take count (drop at bytes)
first_there bytes here at count is short =
    ap (take count) is ∙ take-take count (length here) (drop at bytes) short

-- bytes that are equal up to a place, and behind it for some more, are equal so far
pub same_on : (xs ys here there : List ℕ) (at count : ℕ) → take at xs ≡ take at ys
    → here ≡ take (length here) (drop at xs) → there ≡ take (length there) (drop at ys)
    → count ≤ length here → count ≤ length there → take count here ≡ take count there
    → take (at + count) xs ≡ take (at + count) ys
same_on xs ys here there at count same is is' short short' both =
    take-add at count xs
    ∙ ap₂ (λ a b. a ++ b) same (sym (first_there xs here at count is short) ∙ both ∙ first_there ys there at count is' short')
    ∙ sym (take-add at count ys)

-- equal bytes are equal at each place
pub same_there : (xs ys here there : List ℕ) (at count : ℕ) → xs ≡ ys
    → here ≡ take (length here) (drop at xs) → there ≡ take (length there) (drop at ys)
    → count ≤ length here → count ≤ length there → take count here ≡ take count there
same_there xs ys here there at count same is is' short short' =
    first_there xs here at count is short ∙ ap (λ l. take count (drop at l)) same
    ∙ sym (first_there ys there at count is' short')

-- bytes read so far, and then more that stand behind them, are the bytes read with those
pub read_on : (bytes old into here : List ℕ) (start filled count k : ℕ) → k ≡ count
    → filled ≤ length old → filled ≤ length (drop start bytes)
    → into ≡ take filled (drop start bytes) ++ drop filled old
    → here ≡ take (length here) (drop (start + filled) bytes) → count ≤ length here
    → take filled into ++ (take count here ++ drop k (drop filled into)) ≡ take (filled + count) (drop start bytes) ++ drop (filled + count) old
read_on bytes old into here start filled count k same within there is stands short =
    let read = take filled (drop start bytes) in
    let size : length read ≡ filled = length-take-le filled (drop start bytes) there in
    let front : take filled into ≡ read =
    ap₂ take (sym size) is ∙ take-append_seam read (drop filled old) in
    let behind : drop filled into ≡ drop filled old =
    ap₂ drop (sym size) is ∙ drop-append_seam read (drop filled old) in
    let more : take count here ≡ take count (drop filled (drop start bytes)) =
    first_there bytes here (start + filled) count stands short
    ∙ ap (take count) (sym (drop-drop filled start bytes)) in
    let left : drop k (drop filled into) ≡ drop (filled + count) old =
    ap₂ drop same behind ∙ drop-drop count filled old in
    ap₂ (λ a b. a ++ b) front (ap₂ (λ a b. a ++ b) more left)
    ∙ sym (append_assoc read (take count (drop filled (drop start bytes))) (drop (filled + count) old))
    ∙ ap (λ l. l ++ drop (filled + count) old) (sym (take-add filled count (drop start bytes)))

-- what stands at a place is at most as long as what is there
pub stands_short : (bytes here : List ℕ) (at : ℕ) → here ≡ take (length here) (drop at bytes) → length here ≤ length bytes - at
stands_short bytes here at is =
    let size : length here ≡ min (length here) (length (drop at bytes)) = ap length is ∙ length-take (length here) (drop at bytes) in
    omega (arith, size, length-drop at bytes)

-- the content without bytes lies in every chunks
pub lies_nothing : (chunks : ChunksValue) → ContentLiesIn chunks no_content
unfolding ContentLiesIn no_content
lies_nothing chunks = tt

-- the parts of two lists that lie in the chunks
pub parts_lie-append : (chunks : ChunksValue) (xs ys : List Part) → PartsLieIn chunks xs → PartsLieIn chunks ys → PartsLieIn chunks (xs ++ ys)
parts_lie-append chunks [] ys lies lies' = lies'
parts_lie-append chunks (x ∷ xs) ys lies lies' = (lies.0, parts_lie-append chunks xs ys lies.1 lies')

-- two contents that lie in the chunks, one after the other
pub lies_joined : (chunks : ChunksValue) (first second : Whole) → ContentLiesIn chunks first → ContentLiesIn chunks second → ContentLiesIn chunks (joined first second)
unfolding ContentLiesIn joined
lies_joined chunks first second lies lies' = parts_lie-append chunks first.parts second.parts lies lies'

parts_lie-by : (b : Bool) (chunks : ChunksValue) (n : ℕ) (part : Part) (parts : List Part)
    → PieceLiesIn chunks part.chunk → ((m : ℕ) → PartsLieIn chunks (rest_parts m parts))
    → PartsLieIn chunks (if b then record part { from = part.from + n } ∷ rest_parts 0 parts else rest_parts (n - length (part_bytes part)) parts)
parts_lie-by true chunks n part parts here rest = (here, rest 0)
parts_lie-by false chunks n part parts here rest = rest (n - length (part_bytes part))

-- parts that lie in the chunks, without their first n bytes
pub parts_lie-rest : (chunks : ChunksValue) (parts : List Part) → PartsLieIn chunks parts → (n : ℕ) → PartsLieIn chunks (rest_parts n parts)
parts_lie-rest chunks [] lies n = tt
parts_lie-rest chunks (part ∷ parts) lies n =
    parts_lie-by (nat_lt n (length (part_bytes part))) chunks n part parts lies.0 (parts_lie-rest chunks parts lies.1)

-- the rest of a content that lies in the chunks
pub lies_rest : (chunks : ChunksValue) (content : Whole) (from : ℕ) → ContentLiesIn chunks content → ContentLiesIn chunks (rest_of content from)
unfolding ContentLiesIn rest_of
lies_rest chunks content from lies = parts_lie-rest chunks content.parts lies from

part_lies-by : (b : Bool) (chunks : ChunksValue) (piece : Chunk) (from to : ℕ) → PieceLiesIn chunks piece
    → PartsLieIn chunks (if b then record { chunk = piece; from = from; to = to } ∷ [] else [])
part_lies-by true chunks piece from to lies = (lies, tt)
part_lies-by false chunks piece from to lies = tt

-- a part of a piece that lies in the chunks
pub lies_part : (chunks : ChunksValue) (piece : Chunk) (from to : ℕ) → PieceLiesIn chunks piece → ContentLiesIn chunks (part_of piece from to)
unfolding ContentLiesIn part_of
lies_part chunks piece from to lies = part_lies-by (nat_lt from to) chunks piece from to lies
