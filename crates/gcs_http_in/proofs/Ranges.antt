-- The part of a buffer after a front.
use Rattle.std.proofs.Common.{◌≡◌, ℕ, ◌+◌, ◌-◌, ◌≤◌, List, [], ◌∷◌, ◌++◌, length, take, drop, refl, ap, sym, ◌∙◌, arith, length-append}
use Rattle.std.proofs.lemmas.List.{drop-take, length-take-le}

-- behind the front stands the rest
pub drop_front : (front rest : List ℕ) → drop (length front) (front ++ rest) ≡ rest
drop_front [] rest = refl
drop_front (x ∷ front) rest = drop_front front rest

-- a range behind a front
pub range_after : (xs front rest : List ℕ) (i n : ℕ) → take n xs ≡ front ++ rest → i ≡ length front → n ≤ length xs → take (n - i) (drop i xs) ≡ rest
range_after xs front rest i n e len le =
    let k : n ≡ length front + length rest = sym (length-take-le n xs le) ∙ ap length e ∙ length-append front rest in
    let h : i + (n - i) ≡ n = omega arith in
    sym (drop-take i (n - i) xs) ∙ ap (λ (m : ℕ). drop i (take m xs)) h ∙ ap (drop i) e ∙ ap (λ (j : ℕ). drop j (front ++ rest)) len ∙ drop_front front rest

-- what a slice of a whole buffer leaves in it
pub take_written : {X : Type 0} (n : ℕ) (xs ys : List X) → length xs ≡ n → take n (xs ++ ys) ≡ xs
take_written n [] ys e = rw (← e) refl
take_written n (x ∷ xs) ys e = rw (← e) (ap (λ (t : List _). x ∷ t) (take_written (length xs) xs ys refl))
