-- Where the spans of a content begin and end.
use Rattle.std.proofs.Common.{◌≡◌, ◌<◌, ◌≤◌, refl, sym, subst, ap, ◌∙◌, arith, ℕ, zero, suc, ◌+◌, ◌-◌, add-zero, List, [], ◌∷◌, ◌++◌, drop, take, length, get_or}
use Rattle.std.specs.Prelude.{if◌then◌else◌}
use Rattle.std.specs.List.Sorted.{IsNonDecreasingBy}
use Rattle.std.proofs.lemmas.Bool.{lt-ltb, le-ltb}
use Rattle.std.proofs.lemmas.List.{append_assoc, append-nil, length-append, map-append}
use Rattle.std.proofs.Math.Seq.{drop-append-add, drop-cons, take-length}
use Rattle.std.proofs.Math.Numerals.{add-one}
use Rattle.gcs_chunks.specs.Content.{AreEnds, ChunksValue, Part, PartsLieIn, PieceLiesIn, Placed, part_bytes, parts_bytes, parts_in, rest_parts}
use Rattle.gcs_chunks.proofs.Words.{parts_bytes-append, rest_stands}

-- spans behind others
pub ends-append : (n : ℕ) (xs ys : List Placed) → AreEnds n xs → AreEnds (n + length (parts_bytes (parts_in xs))) ys → AreEnds n (xs ++ ys)
ends-append n [] ys h more = subst (λ m. AreEnds m ys) (add-zero n) more
ends-append n (x ∷ xs) ys h more =
    let same : n + length (part_bytes x.part ++ parts_bytes (parts_in xs)) ≡ x.end + length (parts_bytes (parts_in xs)) =
    omega (arith, length-append (part_bytes x.part) (parts_bytes (parts_in xs)), h.0) in
    (h.0, ends-append x.end xs ys h.1 (subst (λ m. AreEnds m ys) same more))

pub bytes-push : (spans : List Placed) (span : Placed) → parts_bytes (parts_in (spans ++ span ∷ [])) ≡ parts_bytes (parts_in spans) ++ part_bytes span.part
bytes-push spans span =
    ap parts_bytes (map-append (λ (s : Placed). s.part) spans (span ∷ []))
    ∙ parts_bytes-append (parts_in spans) (span.part ∷ [])
    ∙ ap (λ l. parts_bytes (parts_in spans) ++ l) (append-nil (part_bytes span.part))

-- the span of a number ends behind the bytes of those before it, and its own
pub end_at : (spans : List Placed) (n i : ℕ) (d : Placed) → AreEnds n spans → i < length spans
    → (get_or spans i d).end ≡ n + length (parts_bytes (parts_in (take i spans))) + length (part_bytes (get_or spans i d).part)
end_at [] n i d h within = absurd (omega arith)
end_at (x ∷ xs) n zero d h within = omega (arith, h.0)
end_at (x ∷ xs) n (suc i) d h within =
    let rest = end_at xs x.end i d h.1 (omega arith) in
    omega (arith, rest, h.0, length-append (part_bytes x.part) (parts_bytes (parts_in (take i xs))))

-- the ends rise
pub ends_rise : (spans : List Placed) (n : ℕ) → AreEnds n spans → IsNonDecreasingBy (λ (s : Placed). s.end) spans
ends_rise [] n h i j d below within = absurd (omega arith)
ends_rise (x ∷ xs) n h zero zero d below within = omega arith
ends_rise (x ∷ xs) n h zero (suc j) d below within =
    let behind = end_at xs x.end j d h.1 (omega arith) in
    omega (arith, behind)
ends_rise (x ∷ xs) n h (suc i) zero d below within = absurd (omega arith)
ends_rise (x ∷ xs) n h (suc i) (suc j) d below within = ends_rise xs x.end h.1 i j d (omega arith) (omega arith)

-- spans that end at a place at the latest have their bytes before it
pub ends_before : (i : ℕ) (spans : List Placed) (n at : ℕ) → n ≤ at → AreEnds n spans → i ≤ length spans → ((k : ℕ) (d : Placed) → k < i → (get_or spans k d).end ≤ at)
    → n + length (parts_bytes (parts_in (take i spans))) ≤ at
ends_before zero spans n at first h within each = omega arith
ends_before (suc i) [] n at first h within each = absurd (omega arith)
ends_before (suc i) (x ∷ xs) n at first h within each =
    let rest = ends_before i xs x.end at (each 0 x (omega arith)) h.1 (omega arith) (λ k d below. each (suc k) d (omega arith)) in
    omega (arith, rest, h.0, length-append (part_bytes x.part) (parts_bytes (parts_in (take i xs))))

-- the bytes before a span, its own, and those behind it
parts_split : (spans : List Placed) (i : ℕ) (span : Placed) → i < length spans → span ≡ get_or spans i span
    → parts_bytes (parts_in spans) ≡ parts_bytes (parts_in (take i spans)) ++ (part_bytes span.part ++ parts_bytes (parts_in (drop (suc i) spans)))
parts_split [] i span within is = absurd (omega arith)
parts_split (x ∷ xs) zero span within is = ap (λ (s : Placed). part_bytes s.part ++ parts_bytes (parts_in xs)) (sym is)
parts_split (x ∷ xs) (suc i) span within is =
    ap (λ l. part_bytes x.part ++ l) (parts_split xs i span (omega arith) is)
    ∙ sym (append_assoc (part_bytes x.part) (parts_bytes (parts_in (take i xs))) (part_bytes span.part ++ parts_bytes (parts_in (drop (suc i) xs))))

-- the rest of a span is what stands at its place in the content
pub span_stands : (spans : List Placed) (i at skip : ℕ) (span : Placed) → i < length spans → span ≡ get_or spans i span
    → at ≡ length (parts_bytes (parts_in (take i spans))) + skip → skip < length (part_bytes span.part)
    → drop skip (part_bytes span.part) ≡ take (length (drop skip (part_bytes span.part))) (drop at (parts_bytes (parts_in spans)))
span_stands spans i at skip span within is place short =
    let first = parts_bytes (parts_in (take i spans)) in
    let rest = parts_bytes (parts_in (drop (suc i) spans)) in
    let there : drop at (parts_bytes (parts_in spans)) ≡ drop skip (part_bytes span.part ++ rest) =
    ap (λ k. drop k (parts_bytes (parts_in spans))) place
    ∙ ap (drop (length first + skip)) (parts_split spans i span within is)
    ∙ drop-append-add first (part_bytes span.part ++ rest) skip in
    rest_stands (part_bytes span.part) rest skip short ∙ ap (take (length (drop skip (part_bytes span.part)))) (sym there)

-- a span of a number lies where all lie
pub span_lies : (chunks : ChunksValue) (spans : List Placed) (i : ℕ) (d : Placed) → PartsLieIn chunks (parts_in spans) → i < length spans → PieceLiesIn chunks (get_or spans i d).part.chunk
span_lies chunks [] i d lies within = absurd (omega arith)
span_lies chunks (x ∷ xs) zero d lies within = lies.0
span_lies chunks (x ∷ xs) (suc i) d lies within = span_lies chunks xs i d lies.1 (omega arith)

-- the span of a number and those behind it
pub parts_at : (spans : List Placed) (i : ℕ) (span : Placed) → i < length spans → span ≡ get_or spans i span
    → parts_in (drop i spans) ≡ span.part ∷ parts_in (drop (i + 1) spans)
parts_at spans i span within is = ap parts_in (drop-cons spans i span within) ∙ rw (add-one, ← is) refl

-- the bytes of the spans up to and with that of a number
bytes-suc : (spans : List Placed) (i : ℕ) (span : Placed) → i < length spans → span ≡ get_or spans i span
    → parts_bytes (parts_in (take (suc i) spans)) ≡ parts_bytes (parts_in (take i spans)) ++ part_bytes span.part
bytes-suc [] i span within is = absurd (omega arith)
bytes-suc (x ∷ xs) zero span within is = append-nil (part_bytes x.part) ∙ ap (λ (s : Placed). part_bytes s.part) (sym is)
bytes-suc (x ∷ xs) (suc i) span within is =
    ap (λ l. part_bytes x.part ++ l) (bytes-suc xs i span (omega arith) is)
    ∙ sym (append_assoc (part_bytes x.part) (parts_bytes (parts_in (take i xs))) (part_bytes span.part))

pub bytes-to : (spans : List Placed) (i : ℕ) (span : Placed) → i < length spans → span ≡ get_or spans i span
    → parts_bytes (parts_in (take (i + 1) spans)) ≡ parts_bytes (parts_in (take i spans)) ++ part_bytes span.part
bytes-to spans i span within is = rw add-one (bytes-suc spans i span within is)

-- a span of a number begins where those before it end
pub span_end : (spans : List Placed) (i : ℕ) (span : Placed) → AreEnds 0 spans → i < length spans → span ≡ get_or spans i span
    → span.end ≡ length (parts_bytes (parts_in (take i spans))) + length (part_bytes span.part)
span_end spans i span ends within is =
    let there = end_at spans 0 i span ends within in
    let mine : (get_or spans i span).end ≡ span.end = ap (λ (s : Placed). s.end) (sym is) in
    let size : length (part_bytes (get_or spans i span).part) ≡ length (part_bytes span.part) = ap (λ (s : Placed). length (part_bytes s.part)) (sym is) in
    omega (arith, there, mine, size)

-- all of them, where they end at a place at the latest
pub all_before : (spans : List Placed) (i at : ℕ) → AreEnds 0 spans → i ≡ length spans → ((k : ℕ) (d : Placed) → k < i → (get_or spans k d).end ≤ at)
    → length (parts_bytes (parts_in spans)) ≤ at
all_before spans i at ends all each =
    let before = ends_before i spans 0 at (omega arith) ends (omega arith) each in
    let whole : take i spans ≡ spans = ap (λ k. take k spans) all ∙ take-length spans in
    let same : length (parts_bytes (parts_in (take i spans))) ≡ length (parts_bytes (parts_in spans)) = ap (λ ss. length (parts_bytes (parts_in ss))) whole in
    omega (arith, before, same)

-- the parts of spans and one more
parts-push : (spans : List Placed) (span : Placed) → parts_in (spans ++ span ∷ []) ≡ parts_in spans ++ span.part ∷ []
parts-push spans span = map-append (λ (s : Placed). s.part) spans (span ∷ [])

rest_cut : (skip : ℕ) (part : Part) (more : List Part) → skip < length (part_bytes part) → rest_parts skip (part ∷ more) ≡ record part { from = part.from + skip } ∷ rest_parts 0 more
rest_cut skip part more short =
    ap (λ b. if b then record part { from = part.from + skip } ∷ rest_parts 0 more else rest_parts (skip - length (part_bytes part)) more) (lt-ltb skip (length (part_bytes part)) short)

rest_past : (skip : ℕ) (part : Part) (more : List Part) → length (part_bytes part) ≤ skip → rest_parts skip (part ∷ more) ≡ rest_parts (skip - length (part_bytes part)) more
rest_past skip part more past =
    ap (λ b. if b then record part { from = part.from + skip } ∷ rest_parts 0 more else rest_parts (skip - length (part_bytes part)) more) (le-ltb skip (length (part_bytes part)) past)

-- the spans so far, and one that is cut
pub cut_on : (made spans : List Placed) (i skip : ℕ) (span cut : Placed) (whole : List Part) → i < length spans → span ≡ get_or spans i span → skip < length (part_bytes span.part)
    → cut.part ≡ record span.part { from = span.part.from + skip } → parts_in made ++ rest_parts skip (parts_in (drop i spans)) ≡ whole
    → parts_in (made ++ cut ∷ []) ++ rest_parts 0 (parts_in (drop (i + 1) spans)) ≡ whole
cut_on made spans i skip span cut whole within is short part so =
    let rest = rest_parts 0 (parts_in (drop (i + 1) spans)) in
    ap (λ l. l ++ rest) (parts-push made cut)
    ∙ append_assoc (parts_in made) (cut.part ∷ []) rest
    ∙ ap (λ p. parts_in made ++ (p ∷ rest)) part
    ∙ ap (λ l. parts_in made ++ l) (sym (ap (rest_parts skip) (parts_at spans i span within is) ∙ rest_cut skip span.part (parts_in (drop (i + 1) spans)) short))
    ∙ so

-- the spans so far, and one that is passed over
pub passed_on : (made spans : List Placed) (i skip : ℕ) (span : Placed) (whole : List Part) → i < length spans → span ≡ get_or spans i span → length (part_bytes span.part) ≤ skip
    → parts_in made ++ rest_parts skip (parts_in (drop i spans)) ≡ whole
    → parts_in made ++ rest_parts (skip - length (part_bytes span.part)) (parts_in (drop (i + 1) spans)) ≡ whole
passed_on made spans i skip span whole within is past so =
    ap (λ l. parts_in made ++ l) (sym (ap (rest_parts skip) (parts_at spans i span within is) ∙ rest_past skip span.part (parts_in (drop (i + 1) spans)) past)) ∙ so

-- how many bytes are left from a span on
pub bytes_left : (spans : List Placed) (i : ℕ) (span : Placed) → i < length spans → span ≡ get_or spans i span
    → length (parts_bytes (parts_in (drop i spans))) ≡ length (part_bytes span.part) + length (parts_bytes (parts_in (drop (i + 1) spans)))
bytes_left spans i span within is =
    ap (λ ps. length (parts_bytes ps)) (parts_at spans i span within is)
    ∙ length-append (part_bytes span.part) (parts_bytes (parts_in (drop (i + 1) spans)))
