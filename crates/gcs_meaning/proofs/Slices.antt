-- A list that is gone over slice by slice.
use Rattle.std.proofs.Common.{◌≡◌, ◌≤◌, ◌+◌, ℕ, List, ◌++◌, length, take, drop, ap, sym, ◌∙◌, arith}
use Rattle.std.proofs.lemmas.List.{length-drop, length-take, take-append-drop}
use Rattle.std.proofs.Math.Seq.{take-append-add}

-- a slice from a place on ends within the list
pub slice_within : (xs part : List ℕ) (at : ℕ) → at ≤ length xs → part ≡ take (length part) (drop at xs) → at + length part ≤ length xs
slice_within xs part at fits is =
    let size : length part ≡ length (take (length part) (drop at xs)) = ap length is in
    grind (arith, size, length-take (length part) (drop at xs), length-drop at xs)

-- what comes before the slice and the slice are the front of the list
pub slice_next : (xs part : List ℕ) (at : ℕ) → at ≤ length xs → part ≡ take (length part) (drop at xs) → take (at + length part) xs ≡ take at xs ++ part
slice_next xs part at fits is =
    let n : ℕ = length part in
    let size : length (take at xs) ≡ at = grind (arith, length-take at xs) in
    ap (take (at + n)) (sym (take-append-drop at xs))
    ∙ ap (λ m. take (m + n) (take at xs ++ drop at xs)) (sym size)
    ∙ take-append-add (take at xs) (drop at xs) n
    ∙ ap (λ l. take at xs ++ l) (sym is)
