-- Bytes that are read from a place on, as many as fit.
use Rattle.std.proofs.Common.{◌≡◌, ◌∙◌, ◌++◌, ◌∷◌, ◌+◌, ◌-◌, ◌≤◌, ◌<◌, ℕ, suc, List, [], length, min, take, drop, ap, sym, refl, append_assoc, append-nil, zero-add, ⊎_elim, arith}
use Rattle.std.specs.Prelude.{slice_range}
use Rattle.std.proofs.lemmas.Bool.{cases_lt}
use Rattle.std.proofs.lemmas.List.{drop_all, drop_at, drop-append-le, drop-drop, drop-take, length-drop, length-take-le, take_all, take_at, take-append-le, take-take, take_rest}

-- what is left of two lists after some elements
drop-append : (n : ℕ) (xs ys : List ℕ) → drop n (xs ++ ys) ≡ drop n xs ++ drop (n - length xs) ys
drop-append n xs ys =
    ⊎_elim
    (λ inside. let none : n - length xs ≡ 0 = omega arith in drop-append-le n xs ys (omega arith) ∙ ap (λ (k : ℕ). drop n xs ++ drop k ys) (sym none))
    (λ outside.
    let sum : n ≡ length xs + (n - length xs) = omega arith in
    ap (λ (k : ℕ). drop k (xs ++ ys)) sum ∙ sym (drop-drop (n - length xs) (length xs) (xs ++ ys))
    ∙ ap (λ (l : List ℕ). drop (n - length xs) l) (drop_at xs ys (length xs) refl)
    ∙ ap (λ (l : List ℕ). l ++ drop (n - length xs) ys) (sym (drop_all n xs outside)))
    (cases_lt n (length xs))

-- the whole of a list and some elements of a second one
take-over : (xs ys : List ℕ) (n : ℕ) → take (length xs + n) (xs ++ ys) ≡ xs ++ take n ys
take-over [] ys n = ap (λ (k : ℕ). take k ys) (zero-add n)
take-over (x ∷ xs) ys n =
    let next : suc (length xs) + n ≡ suc (length xs + n) = omega arith in
    ap (λ (k : ℕ). take k (x ∷ (xs ++ ys))) next ∙ ap (λ (l : List ℕ). x ∷ l) (take-over xs ys n)

-- the front of two lists, which has some of the second only where it has all of the first
take-both : (xs ys : List ℕ) (m n : ℕ) → m ≤ length xs → (m < length xs → n ≡ 0) → take (m + n) (xs ++ ys) ≡ take m xs ++ take n ys
take-both xs ys m n fits none =
    ⊎_elim
    (λ inside.
    let zero : n ≡ 0 = none inside in
    let same : m + n ≡ m = omega arith in
    ap (λ (k : ℕ). take k (xs ++ ys)) same ∙ take-append-le m xs ys fits ∙ sym (append-nil (take m xs))
    ∙ ap (λ (k : ℕ). take m xs ++ take k ys) (sym zero))
    (λ outside.
    let whole : m ≡ length xs = omega arith in
    ap (λ (k : ℕ). take (k + n) (xs ++ ys)) whole ∙ take-over xs ys n ∙ ap (λ (l : List ℕ). l ++ take n ys) (sym (take_all m xs outside)))
    (cases_lt m (length xs))

-- the bytes at a place within a part
at-place : (xs : List ℕ) (from to at k n : ℕ) → k ≡ min at (to - from) → n ≤ to - (from + k) → take n (drop (from + k) xs) ≡ take n (drop at (slice_range xs from to))
at-place xs from to at k n k-is fits =
    ⊎_elim
    (λ inside.
    let here : k ≡ at = omega arith in
    let more : ℕ = to - from - at in
    let sum : to - from ≡ at + more = omega arith in
    let few : n ≤ more = omega arith in
    ap (λ (m : ℕ). take n (drop (from + m) xs)) here ∙ ap (λ (l : List ℕ). take n l) (sym (drop-drop at from xs))
    ∙ sym (take-take n more (drop at (drop from xs)) few) ∙ ap (λ (l : List ℕ). take n l) (sym (drop-take at more (drop from xs)))
    ∙ ap (λ (m : ℕ). take n (drop at (take m (drop from xs)))) (sym sum))
    (λ outside.
    let zero : n ≡ 0 = omega arith in
    ap (λ (m : ℕ). take m (drop (from + k) xs)) zero ∙ sym (ap (λ (m : ℕ). take m (drop at (slice_range xs from to))) zero))
    (cases_lt at (to - from))

-- bytes of a part, at a place within it
pub read-part : (xs into filled : List ℕ) (from to at k most n : ℕ) → from ≤ to → to ≤ length xs → k ≡ min at (to - from) → most ≡ min (to - (from + k)) (length into)
    → n ≡ min (length (take most into)) (length xs - (from + k)) → filled ≡ take n (drop (from + k) xs) ++ drop n (take most into)
    → filled ++ drop most into ≡ take n (drop at (slice_range xs from to)) ++ drop n into
read-part xs into filled from to at k most n order within k-is most-is n-is filled-is =
    let size : length (take most into) ≡ most = length-take-le most into (omega arith) in
    let same : n ≡ most = omega arith in
    let none : drop n (take most into) ≡ [] = drop_all n (take most into) (omega arith) in
    let bytes : take n (drop (from + k) xs) ≡ take n (drop at (slice_range xs from to)) = at-place xs from to at k n k-is (omega arith) in
    ap (λ (l : List ℕ). l ++ drop most into)
    (filled-is ∙ ap (λ (l : List ℕ). take n (drop (from + k) xs) ++ l) none ∙ append-nil (take n (drop (from + k) xs)) ∙ bytes)
    ∙ ap (λ (m : ℕ). take n (drop at (slice_range xs from to)) ++ drop m into) (sym same)

-- bytes of a head, and behind them bytes of a body
pub read-both : (head body into mid rest : List ℕ) (at past first second : ℕ) → past ≡ at - length head → first ≡ min (length into) (length head - at)
    → mid ≡ take first (drop at head) ++ drop first into → second ≡ min (length (take (length mid - first) (drop first mid))) (length body - past)
    → rest ≡ take second (drop past body) ++ drop second (take (length mid - first) (drop first mid))
    → take first mid ++ (rest ++ drop (length mid - first) (drop first mid)) ≡ take (first + second) (drop at (head ++ body)) ++ drop (first + second) into
read-both head body into mid rest at past first second past-is first-is mid-is second-is rest-is =
    let ahead : List ℕ = drop at head in
    let behind : List ℕ = drop past body in
    let there : length ahead ≡ length head - at = length-drop at head in
    let size : length (take first ahead) ≡ first = length-take-le first ahead (omega arith) in
    let front : take first mid ≡ take first ahead = ap (λ (l : List ℕ). take first l) mid-is ∙ take_at (take first ahead) (drop first into) first size in
    let back : drop first mid ≡ drop first into = ap (λ (l : List ℕ). drop first l) mid-is ∙ drop_at (take first ahead) (drop first into) first size in
    let room : take (length mid - first) (drop first mid) ≡ drop first into = take_rest mid first ∙ back in
    let gone : drop (length mid - first) (drop first mid) ≡ [] = drop_all (length mid - first) (drop first mid) (omega (arith, length-drop first mid)) in
    let count : second ≡ min (length (drop first into)) (length body - past) = second-is ∙ ap (λ (l : List ℕ). min (length l) (length body - past)) room in
    let none : first < length ahead → second ≡ 0 = λ short. omega (arith, count, length-drop first into) in
    let filled : rest ≡ take second behind ++ drop (first + second) into =
    rest-is ∙ ap (λ (l : List ℕ). take second behind ++ drop second l) room ∙ ap (λ (l : List ℕ). take second behind ++ l) (drop-drop second first into) in
    let bytes : drop at (head ++ body) ≡ ahead ++ behind = drop-append at head body ∙ ap (λ (k : ℕ). ahead ++ drop k body) (sym past-is) in
    ap (λ (l : List ℕ). l ++ (rest ++ drop (length mid - first) (drop first mid))) front
    ∙ ap (λ (l : List ℕ). take first ahead ++ (rest ++ l)) gone
    ∙ ap (λ (l : List ℕ). take first ahead ++ l) (append-nil rest ∙ filled)
    ∙ sym (append_assoc (take first ahead) (take second behind) (drop (first + second) into))
    ∙ ap (λ (l : List ℕ). l ++ drop (first + second) into)
    (sym (take-both ahead behind first second (omega arith) none) ∙ ap (λ (l : List ℕ). take (first + second) l) (sym bytes))
