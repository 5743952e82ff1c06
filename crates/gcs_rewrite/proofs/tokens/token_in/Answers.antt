use Rattle.std.proofs.Common.{◌≡◌, ◌∙◌, sym, ℕ, Ok, List, map, length, get_or, Bor, ap, arith, ltb-true, ltb-false}
use Rattle.std.specs.Prelude.{Result}
use Rattle.std.proofs.lemmas.List.{length-map}
use Rattle.gcs_rewrite.specs.Tokens.{token_lines}
use Rattle.gcs_rewrite.proofs.Lines.{line_at}
use Rattle.gcs_rewrite.proofs.tokens.token_in.Goals.{in_default-via-then-lines-lt6, in_default-via-else-lines-lt6+else-lines-lt7}
use Rattle.gcs_rewrite.proofs.tokens.token_in.Goals as goal

pub returns-in_default-clause-none : goal.returns-in_default-clause-none
returns-in_default-clause-none c = λ _ k has same.
    let six : length c.args.lines.now ≡ 6 = sym (length-map c.args.lines.now (λ line. line.now)) ∙ ap length same in
    elim c.in_default.branch [
      | in_default-via-then-lines-lt6 w ↦ omega (arith, six, ltb-true)
      | in_default-via-else-lines-lt6+else-lines-lt7 w ↦ omega (arith, six, ltb-false)
    ]

-- the line at a place is that of the token
line_is : (lines : List (Bor (List ℕ))) (own : List (List ℕ)) (i : ℕ) (d : Bor (List ℕ)) → map (λ line. line.now) lines ≡ own → (get_or lines i d).now ≡ get_or own i d.now
line_is lines own i d same = line_at lines i d ∙ ap (λ ls. get_or ls i d.now) same

number_is : {E : Type 0} (n m : ℕ) → ◌≡◌ {A = Result ℕ E} (Ok n) (Ok m) → n ≡ m
number_is n m same = cc

pub returns-clause-same : goal.returns-clause-same
returns-clause-same c = λ k has same.
    let generation = number_is c.in_ok-generation.generation k.generation (c.in_ok-generation.ensures k.generation has.generation (line_is c.args.lines.now (token_lines k) 0 _ same)) in
    let done = number_is c.in_ok-done.done k.done (c.in_ok-done.ensures k.done has.done (line_is c.args.lines.now (token_lines k) 1 _ same)) in
    let from_bucket = c.in_ok-bucket_in.ensures.name.0 ∙ line_is c.args.lines.now (token_lines k) 2 _ same in
    let from_name = c.in_ok-object_in.ensures.name.0 ∙ line_is c.args.lines.now (token_lines k) 3 _ same in
    let to_bucket = c.in_ok-bucket_in-2.ensures.name.0 ∙ line_is c.args.lines.now (token_lines k) 4 _ same in
    let to_name = c.in_ok-object_in-2.ensures.name.0 ∙ line_is c.args.lines.now (token_lines k) 5 _ same in
    λ i. record {
      generation = generation i;
      done = done i;
      from_bucket = from_bucket i;
      from_name = from_name i;
      to_bucket = to_bucket i;
      to_name = to_name i;
    }
