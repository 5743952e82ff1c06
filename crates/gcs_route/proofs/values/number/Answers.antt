use Rattle.std.proofs.Common.{rules, ◌≡◌, ℕ, Option, Some, None, Ok, [], sym}
use Rattle.gcs_query.specs.Values.{IsNumber}
use Rattle.gcs_route.specs.Params.{text_at}
use Rattle.gcs_route.proofs.ValueLemmas.{of_value, right_number}
use Rattle.gcs_route.proofs.values.number.Goals as goal

pub returns-clause-right : goal.returns-clause-right
returns-clause-right c =
    let same : (n : Option ℕ) → c.map_err.result ≡ Ok n → c.number.result ≡ Ok n = search rules in
    let none : c.number.result ≡ Ok None → text_at c.args.query.now c.args.key ≡ [] = search rules in
    let some : (n : ℕ) → c.number.result ≡ Ok (Some n) → IsNumber (text_at c.args.query.now c.args.key) = λ n is. rw (sym c.key_text.ensures) (c.number.ensures.some n is).0 in
    of_value c.map_err.result _ (λ n is. right_number c.number.result _ none some n (same n is))
