-- What was taken of a piece without an event.
use Rattle.std.proofs.Common.{◌≡◌, Some, None, subst, refl, take-add, length-drop, ℕ, ◌+◌, ◌<◌, ◌≤◌, List, [], ◌∷◌, ◌++◌, ◌-◌, length, take, drop, get_or, arith, Option, sym, ap, ◌∙◌, append-nil, append_assoc}
use Rattle.std.proofs.lemmas.List.{take_more, drop_more, take-take, take_at, length-append, length-take-le, take-append-drop}
use Rattle.std.proofs.Math.Seq.{take-append-add, take-length}
use Rattle.gcs_multipart.specs.declared.parts.State.{State}
use Rattle.gcs_multipart.specs.declared.parts.State.TheVariants as state
use Rattle.gcs_multipart.specs.declared.seek.Seeker.{Seeker}
use Rattle.gcs_multipart.specs.Seek.{HasSeen, Seeks}
use Rattle.std.specs.Prelude.{slice_range}
use Rattle.gcs_multipart.specs.declared.parts.Parts.{Parts}
use Rattle.gcs_multipart.specs.Delimiter.{IsBoundary}
use Rattle.gcs_multipart.specs.Grammar.{Part}
use Rattle.gcs_multipart.specs.declared.parts.Step.TheVariants as step
use Rattle.gcs_multipart.specs.Stands.{Stands, StandsIn, InBad, InContent, Pushed, held_of}

pub record Feeds (p q : Parts) (piece : List ℕ) (at : ℕ) : Type 0 where
  pub within : at ≤ length piece
  pub stands : (b bytes : List ℕ) (parts : List Part) (current : Option Part) → IsBoundary b → Stands p b bytes parts current → Stands q b (bytes ++ take at piece) parts current

-- one byte more of the piece
pub one_more : (bytes piece : List ℕ) (at : ℕ) → at < length piece → (bytes ++ take at piece) ++ get_or piece at 0 ∷ [] ≡ bytes ++ take (at + 1) piece
one_more bytes piece at lt = append_assoc bytes (take at piece) (get_or piece at 0 ∷ []) ∙ ap (λ t. bytes ++ t) (sym (take_more piece at 0 lt))

pub range_none : (xs : List ℕ) (i : ℕ) → slice_range xs i i ≡ []
range_none xs i = let e : i - i ≡ 0 = omega arith in ap (λ n. take n (drop i xs)) e

-- so many bytes behind a place
abbrev pub run_at : List ℕ → ℕ → ℕ → List ℕ
run_at xs i m = take m (take (length xs - (i + 1)) (drop (i + 1) xs))

run_fits : (xs : List ℕ) (i m : ℕ) → i < length xs → m ≤ length (take (length xs - (i + 1)) (drop (i + 1) xs)) → m ≤ length xs - (i + 1)
run_fits xs i m lt fits = omega (arith, fits, length-take-le (length xs - (i + 1)) (drop (i + 1) xs) (omega (arith, length-drop (i + 1) xs)))

run_is : (xs : List ℕ) (i m : ℕ) → m ≤ length xs - (i + 1) → take m (drop (i + 1) xs) ≡ run_at xs i m
run_is xs i m le = sym (take-take m (length xs - (i + 1)) (drop (i + 1) xs) le)

-- the byte at a place and so many behind it
run_is_front : (xs : List ℕ) (i m : ℕ) → i < length xs → m ≤ length (take (length xs - (i + 1)) (drop (i + 1) xs)) → take (1 + m) (drop i xs) ≡ get_or xs i 0 ∷ run_at xs i m
run_is_front xs i m lt fits =
    ap (take (1 + m)) (drop_more xs i 0 lt) ∙ take-add 1 m (get_or xs i 0 ∷ drop (i + 1) xs) ∙ ap (λ t. get_or xs i 0 ∷ t) (run_is xs i m (run_fits xs i m lt fits))

-- and a front of these
pub range_front : (xs : List ℕ) (i m held : ℕ) → i < length xs → m ≤ length (take (length xs - (i + 1)) (drop (i + 1) xs)) → held ≤ 1 + m
    → slice_range xs (i + 1 - 1) (i + 1 + m - held) ≡ take (1 + m - held) (get_or xs i 0 ∷ run_at xs i m)
range_front xs i m held lt fits le =
    let e : i + 1 - 1 ≡ i = omega arith in
    let f : i + 1 + m - held - i ≡ 1 + m - held = omega (arith, le) in
    let within : 1 + m - held ≤ 1 + m = omega arith in
    ap (λ n. slice_range xs n (i + 1 + m - held)) e ∙ ap (λ n. take n (drop i xs)) f ∙ sym (take-take (1 + m - held) (1 + m) (drop i xs) within)
    ∙ ap (take (1 + m - held)) (run_is_front xs i m lt fits)

pub take_run : (xs : List ℕ) (i m : ℕ) → i < length xs → m ≤ length (take (length xs - (i + 1)) (drop (i + 1) xs)) → take (i + 1 + m) xs ≡ take (i + 1) xs ++ run_at xs i m
take_run xs i m lt fits = take-add (i + 1) m xs ∙ ap (λ t. take (i + 1) xs ++ t) (run_is xs i m (run_fits xs i m lt fits))

pub run_within : (xs : List ℕ) (i m : ℕ) → i < length xs → m ≤ length (take (length xs - (i + 1)) (drop (i + 1) xs)) → i + 1 + m ≤ length xs
run_within xs i m lt fits = omega (arith, run_fits xs i m lt fits, lt)

or_empty : Option Part → Part
or_empty None = record { head = []; content = [] }
or_empty (Some p) = p

-- what stands before a tail, where this text stands behind another one
front_of : (xs ys zs tail : List ℕ) (k : ℕ) → xs ++ ys ≡ zs ++ tail → k + length tail ≡ length ys → zs ≡ xs ++ take k ys
front_of xs ys zs tail k e le =
    let n : length zs ≡ length xs + k = omega (arith, le, ap length e, length-append xs ys, length-append zs tail) in
    sym (take_at zs tail (length xs + k) n) ∙ ap (take (length xs + k)) (sym e) ∙ take-append-add xs ys k

-- behind this content and a byte more were taken, and all but what is held then is content
pub passes_on : (p : Parts) (new : Seeker) (b bytes told ys : List ℕ) (x k : ℕ) (parts : List Part) (it : Part) → p.state ≡ state.Content
    → ((rest : List ℕ) → Seeks p.seeker b rest it.content → (rest ≡ told ++ x ∷ []) × HasSeen new b (rest ++ ys)) → k + new.held ≡ 1 + length ys
    → Stands p b bytes parts (Some it) → StandsIn new p.head p.state b (bytes ++ ys) parts (Some record { head = it.head; content = told ++ take k (x ∷ ys) })
unfolding or_empty
passes_on p new b bytes told ys x k parts it e sees count h =
    let i : InContent p.seeker p.head b bytes parts (Some it) = subst (λ (s : State). StandsIn p.seeker p.head s b bytes parts (Some it)) e h in
    let same : i.it ≡ it = ap or_empty (sym i.is) in
    let seen = sees i.rest (subst (λ (q : Part). Seeks p.seeker b i.rest q.content) same i.seeks) in
    let s : Seeks new b (i.rest ++ ys) seen.1.0 = seen.1.1 in
    let long : length (take new.held new.text.items) ≡ new.held = length-take-le new.held new.text.items (omega (arith, new.held_in, new.text.ok.0)) in
    let spelled : told ++ x ∷ ys ≡ seen.1.0 ++ take new.held new.text.items = sym (append_assoc told (x ∷ []) ys) ∙ ap (λ (t : List ℕ). t ++ ys) (sym seen.0) ∙ s.spelled in
    let content : seen.1.0 ≡ told ++ take k (x ∷ ys) = front_of told (x ∷ ys) seen.1.0 (take new.held new.text.items) k spelled (omega (arith, long, count)) in
    let split : bytes ++ ys ≡ i.front ++ (i.it.head ++ (i.rest ++ ys)) = ap (λ t. t ++ ys) i.split ∙ append_assoc i.front (i.it.head ++ i.rest) ys ∙ ap (λ t. i.front ++ t) (append_assoc i.it.head i.rest ys) in
    let grown : Part = record { head = i.it.head; content = told ++ take k (x ∷ ys) } in
    let stands : InContent new p.head b (bytes ++ ys) parts (Some grown) = record {
      it = grown;
      is = refl;
      front = i.front;
      rest = i.rest ++ ys;
      split = split;
      before = i.before;
      head = i.head;
      holds = i.holds;
      seeks = subst (λ (t : List ℕ). Seeks new b (i.rest ++ ys) t) content s;
    } in
    let named = subst (λ (q : Part). InContent new p.head b (bytes ++ ys) parts (Some record { head = q.head; content = told ++ take k (x ∷ ys) })) same stands in
    subst (λ (s : State). StandsIn new p.head s b (bytes ++ ys) parts (Some record { head = it.head; content = told ++ take k (x ∷ ys) })) (sym e) named

-- content that a call tells of a piece: what was held before, and then what isn't held of the byte at this place and those behind it
abbrev pub IsTold : Parts → Seeker → List ℕ → List ℕ → List ℕ → ℕ → ℕ → List Part → Option Part → Type 0
IsTold p new b bytes piece at m parts current =
    (it : Part) × (current ≡ Some it) × StandsIn new p.head p.state b (bytes ++ take (at + 1 + m) piece) parts
    (Some record { head = it.head; content = it.content ++ (take new.given new.text.items ++ slice_range piece (at + 1 - 1) (at + 1 + m - new.held)) })

told_by : (p : Parts) (new : Seeker) (b bytes piece content : List ℕ) (at m : ℕ) (parts : List Part) (it : Part) → at < length piece → m ≤ length (take (length piece - (at + 1)) (drop (at + 1) piece))
    → p.state ≡ state.Content → new.held ≤ 1 + m → take new.given new.text.items ≡ held_of p
    → ((rest : List ℕ) → Seeks p.seeker b rest content → (rest ≡ (it.content ++ held_of p) ++ get_or piece at 0 ∷ []) × HasSeen new b (rest ++ run_at piece at m))
    → Stands p b (bytes ++ take (at + 1) piece) parts (Some record { head = it.head; content = content }) → IsTold p new b bytes piece at m parts (Some it)
told_by p new b bytes piece content at m parts it lt fits state few given sees h =
    let x = get_or piece at 0 in
    let ys = run_at piece at m in
    let told = it.content ++ held_of p in
    let k : ℕ = 1 + m - new.held in
    let count : k + new.held ≡ 1 + length ys = omega (arith, few, length-take-le m (take (length piece - (at + 1)) (drop (at + 1) piece)) fits) in
    let stands = passes_on p new b (bytes ++ take (at + 1) piece) told ys x k parts record { head = it.head; content = content } state sees count h in
    let text : (bytes ++ take (at + 1) piece) ++ ys ≡ bytes ++ take (at + 1 + m) piece = append_assoc bytes (take (at + 1) piece) ys ∙ ap (λ (t : List ℕ). bytes ++ t) (sym (take_run piece at m lt fits)) in
    let range = slice_range piece (at + 1 - 1) (at + 1 + m - new.held) in
    let same : told ++ take k (x ∷ ys) ≡ it.content ++ (take new.given new.text.items ++ range) =
    append_assoc it.content (held_of p) (take k (x ∷ ys)) ∙ ap (λ (t : List ℕ). it.content ++ (held_of p ++ t)) (sym (range_front piece at m new.held lt fits few))
    ∙ ap (λ (t : List ℕ). it.content ++ (t ++ range)) (sym given) in (
      it,
      refl,
      subst (λ (t : List ℕ). StandsIn new p.head p.state b (bytes ++ take (at + 1 + m) piece) parts (Some record { head = it.head; content = t })) same
          (subst (λ (t : List ℕ). StandsIn new p.head p.state b t parts (Some record { head = it.head; content = told ++ take k (x ∷ ys) })) text stands),
    )

-- the byte was a CR that is held
pub given_told : (p : Parts) (new : Seeker) (b bytes piece : List ℕ) (at m : ℕ) (parts : List Part) (current : Option Part) → at < length piece → m ≤ length (take (length piece - (at + 1)) (drop (at + 1) piece))
    → new.held ≤ p.seeker.held + m → take new.given new.text.items ≡ held_of p → ((text content : List ℕ) → Seeks p.seeker b text content → HasSeen new b (text ++ run_at piece at m))
    → Pushed p b step.Given (get_or piece at 0) (bytes ++ take (at + 1) piece) parts current → IsTold p new b bytes piece at m parts current
given_told p new b bytes piece at m parts current lt fits few given seen n =
    let it = n.3.0 in
    let told = it.content ++ held_of p in
    let sees : (rest : List ℕ) → Seeks p.seeker b rest told → (rest ≡ told ++ get_or piece at 0 ∷ []) × HasSeen new b (rest ++ run_at piece at m) =
    λ rest s. (
      s.spelled ∙ ap (λ (k : ℕ). told ++ take k p.seeker.text.items) n.2 ∙ ap (λ (t : List ℕ). told ++ take 1 t) s.whole ∙ ap (λ (y : ℕ). told ++ y ∷ []) (sym n.0),
      seen rest told s,
    ) in
    subst (λ (o : Option Part). IsTold p new b bytes piece at m parts o) (sym n.3.1)
    (told_by p new b bytes piece told at m parts it lt fits n.1 (omega (arith, few, n.2)) given sees n.3.2)

-- the byte was content
pub passed_told : (p : Parts) (new : Seeker) (b bytes piece : List ℕ) (at m : ℕ) (parts : List Part) (current : Option Part) → at < length piece → m ≤ length (take (length piece - (at + 1)) (drop (at + 1) piece))
    → new.held ≤ p.seeker.held + m → take new.given new.text.items ≡ held_of p → ((text content : List ℕ) → Seeks p.seeker b text content → HasSeen new b (text ++ run_at piece at m))
    → Pushed p b step.Passed (get_or piece at 0) (bytes ++ take (at + 1) piece) parts current → IsTold p new b bytes piece at m parts current
passed_told p new b bytes piece at m parts current lt fits few given seen n =
    let it = n.2.0 in
    let x = get_or piece at 0 in
    let content = it.content ++ (held_of p ++ x ∷ []) in
    let sees : (rest : List ℕ) → Seeks p.seeker b rest content → (rest ≡ (it.content ++ held_of p) ++ x ∷ []) × HasSeen new b (rest ++ run_at piece at m) =
    λ rest s. (
      s.spelled ∙ ap (λ (k : ℕ). content ++ take k p.seeker.text.items) n.1 ∙ append-nil content ∙ sym (append_assoc it.content (held_of p) (x ∷ [])),
      seen rest content s,
    ) in
    subst (λ (o : Option Part). IsTold p new b bytes piece at m parts o) (sym n.2.1)
    (told_by p new b bytes piece content at m parts it lt fits n.0 (omega (arith, few, n.1)) given sees n.2.2)

-- lines that are too long stay so, whatever comes behind them
bad_more : (b bytes more : List ℕ) (parts : List Part) (current : Option Part) → InBad b bytes parts current → InBad b (bytes ++ more) parts current
bad_more b bytes more parts current i = record {
  nothing = i.nothing;
  front = i.front;
  head = i.head;
  rest = i.rest ++ more;
  split = ap (λ (t : List ℕ). t ++ more) i.split ∙ append_assoc i.front (i.head ++ i.rest) more ∙ ap (λ (t : List ℕ). i.front ++ t) (append_assoc i.head i.rest more);
  before = i.before;
  long = i.long;
}

pub bad_told : (b bytes piece : List ℕ) (n : ℕ) (parts : List Part) (current : Option Part) → InBad b (bytes ++ take n piece) parts current → InBad b (bytes ++ take (length piece) piece) parts current
bad_told b bytes piece n parts current i =
    let whole : (bytes ++ take n piece) ++ drop n piece ≡ bytes ++ take (length piece) piece =
    append_assoc bytes (take n piece) (drop n piece) ∙ ap (λ (t : List ℕ). bytes ++ t) (take-append-drop n piece ∙ sym (take-length piece)) in
    subst (λ (t : List ℕ). InBad b t parts current) whole (bad_more b (bytes ++ take n piece) (drop n piece) parts current i)
