-- What is left of a list.
use Rattle.std.proofs.Common.{◌≡◌, ◌≤◌, ◌-◌, ℕ, List, [], length, drop, take, ap, arith}
use Rattle.std.proofs.lemmas.List.{drop_all, length-drop, take_all}

pub nothing-left : {X : Type 0} (n : ℕ) (xs : List X) → n ≡ length xs → drop n xs ≡ []
nothing-left n xs e = drop_all n xs (omega (arith, e))

pub all-gone : {X : Type 0} (n : ℕ) (xs : List X) → n ≤ length xs → drop n xs ≡ [] → n ≡ length xs
all-gone {X} n xs fits e =
    let none : length (drop n xs) ≡ 0 = ap (length {A = X}) e in
    omega (arith, fits, none, length-drop n xs)

pub rest-whole : (l : List ℕ) (n : ℕ) → take (length l - n) (drop n l) ≡ drop n l
rest-whole l n = take_all (length l - n) (drop n l) (omega (arith, length-drop n l))
