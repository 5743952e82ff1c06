use Rattle.std.proofs.Common.{◌≡◌, ℕ, ◌+◌, ◌-◌, List, Option, Some, length, take, drop, ap, ◌∙◌, sym, arith}
use Rattle.std.proofs.lemmas.List.{length-drop, take_all}
use Rattle.std.specs.Option.{option_map}
use Rattle.gcs_request.proofs.ranges.around.Goals as goal

-- what is left of a text is taken whole
rest-whole : (l : List ℕ) (n : ℕ) → take (length l - n) (drop n l) ≡ drop n l
rest-whole l n = take_all (length l - n) (drop n l) (omega (arith, length-drop n l))

-- the texts round a place
abbrev parts_at : List ℕ → Option ℕ → Option (List ℕ × List ℕ)
parts_at text at = option_map (λ (n : ℕ). (take n text, drop (n + 1) text)) at

pub returns-in_err-at : goal.returns-in_err-at
returns-in_err-at c = rw c.from_residual.ensures (ap (parts_at c.args.text.now) (sym c.in_err-at.ensures.value))

pub returns : goal.returns
returns c =
    let text = c.args.text.now in
    ap (parts_at text) (sym c.in_ok-at.ensures.value)
    ∙ ap (λ (l : List ℕ). Some (take c.in_ok-at.at text, l)) (sym (rest-whole text (c.in_ok-at.at + 1)))
