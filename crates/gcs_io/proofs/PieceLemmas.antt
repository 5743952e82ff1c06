-- Going on from one piece to the next, and taking bytes of a piece.
use Rattle.std.proofs.Common.{◌≡◌, ℕ, suc, zero, ◌+◌, ◌-◌, ◌<◌, ◌≤◌, List, [], ◌∷◌, ◌++◌, length, get_or, take, drop, subst, refl, ap, sym, ◌∙◌, append_assoc, append-nil, slice_range, add-one, arith, length-drop}
use Rattle.std.proofs.Math.ListN.{drop_of_length-le}
use Rattle.std.proofs.Math.Seq.{take_all, take-add}
use Rattle.std.proofs.lemmas.List.{drop-drop, take-append-drop}
use Rattle.std.specs.Global.{Vec}
use Rattle.gcs_io.specs.Pieces.{joined, front_of, after_front, passed, left, filled_or, next_bytes}

-- where nothing of the first piece was read, all pieces are left
after_front-zero : (ps : List (Vec ℕ)) → after_front ps 0 ≡ joined ps
after_front-zero [] = refl
after_front-zero (p ∷ ps) = refl

-- and nothing of it is passed
front_of-zero : (ps : List (Vec ℕ)) → front_of ps 0 ≡ []
front_of-zero [] = refl
front_of-zero (p ∷ ps) = refl

-- behind the last piece nothing is left
pub left-over : (ps : List (Vec ℕ)) (i at : ℕ) → length ps ≤ i → left ps i at ≡ []
left-over ps i at h = rw (drop_of_length-le ps h) refl

-- past a piece that is read through the same bytes are left
pub left-next : (ps : List (Vec ℕ)) (i at : ℕ) (p : Vec ℕ) → i < length ps → p ≡ get_or ps i p → length p.items ≤ at → left ps (i + 1) 0 ≡ left ps i at
left-next [] i at p h e l = absurd (omega arith)
left-next (q ∷ ps) zero at p h e l =
    let over : drop at q.items ≡ [] = drop_of_length-le q.items (let P : Vec ℕ → Type 0 = λ v. length v.items ≤ at in subst P e l) in
    after_front-zero ps ∙ sym (ap (λ (x : List ℕ). x ++ joined ps) over)
left-next (q ∷ ps) (suc i) at p h e l =
    ap (λ (n : ℕ). left (q ∷ ps) n 0) (add-one (suc i)) ∙ ap (λ (n : ℕ). left ps n 0) (sym (add-one i)) ∙ left-next ps i at p (omega arith) e l

-- and what was read stays
pub passed-next : (ps : List (Vec ℕ)) (i at : ℕ) (p : Vec ℕ) → i < length ps → p ≡ get_or ps i p → length p.items ≤ at → passed ps (i + 1) 0 ≡ passed ps i at
passed-next [] i at p h e l = absurd (omega arith)
passed-next (q ∷ ps) zero at p h e l =
    let over : take at q.items ≡ q.items = take_all at q.items (let P : Vec ℕ → Type 0 = λ v. length v.items ≤ at in subst P e l) in
    ap (λ (x : List ℕ). (q.items ++ []) ++ x) (front_of-zero ps) ∙ append-nil (q.items ++ []) ∙ append-nil q.items ∙ sym over
passed-next (q ∷ ps) (suc i) at p h e l =
    ap (λ (n : ℕ). passed (q ∷ ps) n 0) (add-one (suc i)) ∙ ap (λ (n : ℕ). passed (q ∷ ps) (suc n) 0) (sym (add-one i))
    ∙ append_assoc q.items (joined (take (i + 1) ps)) (front_of (drop (i + 1) ps) 0)
    ∙ ap (λ (x : List ℕ). q.items ++ x) (passed-next ps i at p (omega arith) e l)
    ∙ sym (append_assoc q.items (joined (take i ps)) (front_of (drop i ps) at))

-- and the same bytes come next
pub next_bytes-next : (ps : List (Vec ℕ)) (i at : ℕ) (p : Vec ℕ) → i < length ps → p ≡ get_or ps i p → length p.items ≤ at → next_bytes (drop (i + 1) ps) 0 ≡ next_bytes (drop i ps) at
next_bytes-next [] i at p h e l = absurd (omega arith)
next_bytes-next (q ∷ ps) zero at p h e l =
    let over : drop at q.items ≡ [] = drop_of_length-le q.items (let P : Vec ℕ → Type 0 = λ v. length v.items ≤ at in subst P e l) in
    sym (ap (λ (x : List ℕ). filled_or x (next_bytes ps 0)) over)
next_bytes-next (q ∷ ps) (suc i) at p h e l =
    ap (λ (n : ℕ). next_bytes (drop n (q ∷ ps)) 0) (add-one (suc i)) ∙ ap (λ (n : ℕ). next_bytes (drop n ps) 0) (sym (add-one i)) ∙ next_bytes-next ps i at p (omega arith) e l

-- a text that isn't empty stands
filled_or-filled : (xs other : List ℕ) → 0 < length xs → filled_or xs other ≡ xs
filled_or-filled [] other h = absurd (omega (arith, h))
filled_or-filled (x ∷ xs) other h = refl

-- at a place in a piece, the bytes that come next are the rest of that piece
pub next_bytes-inside : (ps : List (Vec ℕ)) (i at : ℕ) (p : Vec ℕ) → i < length ps → p ≡ get_or ps i p → at < length p.items → length (next_bytes (drop i ps) at) ≡ length p.items - at
next_bytes-inside [] i at p h e l = absurd (omega arith)
next_bytes-inside (q ∷ ps) zero at p h e l =
    let rest : length (drop at q.items) ≡ length p.items - at = length-drop at q.items ∙ ap (λ (v : Vec ℕ). length v.items - at) (sym e) in
    ap length (filled_or-filled (drop at q.items) (next_bytes ps 0) (omega (arith, rest, l))) ∙ rest
next_bytes-inside (q ∷ ps) (suc i) at p h e l = next_bytes-inside ps i at p (omega arith) e l

-- what is left at a place is n bytes of the piece there, and then what is left behind them
pub left-given : (ps : List (Vec ℕ)) (i at n : ℕ) (p : Vec ℕ) → i < length ps → p ≡ get_or ps i p → at + n ≤ length p.items → left ps i at ≡ slice_range p.items at (at + n) ++ left ps i (at + n)
left-given [] i at n p h e l = absurd (omega arith)
left-given (q ∷ ps) zero at n p h e l =
    let range : slice_range p.items at (at + n) ≡ take n (drop at q.items) = ap (λ (k : ℕ). take k (drop at p.items)) (let z : at + n - at ≡ n = omega arith in z) ∙ ap (λ (v : Vec ℕ). take n (drop at v.items)) e in
    rw range (ap (λ (x : List ℕ). x ++ joined ps) (sym (take-append-drop n (drop at q.items)) ∙ ap (λ (x : List ℕ). take n (drop at q.items) ++ x) (drop-drop n at q.items)) ∙ append_assoc (take n (drop at q.items)) (drop (at + n) q.items) (joined ps))
left-given (q ∷ ps) (suc i) at n p h e l = left-given ps i at n p (omega arith) e l

-- and they are passed
pub passed-given : (ps : List (Vec ℕ)) (i at n : ℕ) (p : Vec ℕ) → i < length ps → p ≡ get_or ps i p → at + n ≤ length p.items → passed ps i (at + n) ≡ passed ps i at ++ slice_range p.items at (at + n)
passed-given [] i at n p h e l = absurd (omega arith)
passed-given (q ∷ ps) zero at n p h e l =
    let range : slice_range p.items at (at + n) ≡ take n (drop at q.items) = ap (λ (k : ℕ). take k (drop at p.items)) (let z : at + n - at ≡ n = omega arith in z) ∙ ap (λ (v : Vec ℕ). take n (drop at v.items)) e in
    rw range (take-add at n q.items)
passed-given (q ∷ ps) (suc i) at n p h e l =
    append_assoc q.items (joined (take i ps)) (front_of (drop i ps) (at + n))
    ∙ ap (λ (x : List ℕ). q.items ++ x) (passed-given ps i at n p (omega arith) e l)
    ∙ sym (append_assoc q.items (passed ps i at) (slice_range p.items at (at + n)))
    ∙ ap (λ (x : List ℕ). x ++ slice_range p.items at (at + n)) (sym (append_assoc q.items (joined (take i ps)) (front_of (drop i ps) at)))

-- the item at an index is one
pub same_item : (ps : List (Vec ℕ)) (i : ℕ) (p q : Vec ℕ) → i < length ps → p ≡ get_or ps i p → q ≡ get_or ps i q → p ≡ q
same_item [] i p q h e f = absurd (omega arith)
same_item (x ∷ ps) zero p q h e f = e ∙ sym f
same_item (x ∷ ps) (suc i) p q h e f = same_item ps i p q (omega arith) e f
