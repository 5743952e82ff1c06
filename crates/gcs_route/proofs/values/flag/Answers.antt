use Rattle.std.proofs.Common.{rules, ◌≡◌, Bool, Ok, true, false, [], ◌⊎◌}
use Rattle.gcs_query.specs.Values.{IsTrueText, IsFalseText}
use Rattle.gcs_route.specs.Params.{text_at}
use Rattle.gcs_route.proofs.ValueLemmas.{of_value, right_flag}
use Rattle.gcs_route.proofs.values.flag.Goals as goal

pub returns-clause-right : goal.returns-clause-right
returns-clause-right c =
    let same : (flag : Bool) → c.map_err.result ≡ Ok flag → c.flag.result ≡ Ok flag = search rules in
    let yes : c.flag.result ≡ Ok true → IsTrueText (text_at c.args.query.now c.args.key) = search rules in
    let no : c.flag.result ≡ Ok false → (text_at c.args.query.now c.args.key ≡ []) ⊎ IsFalseText (text_at c.args.query.now c.args.key) = search rules in
    of_value c.map_err.result _ (λ flag is. right_flag c.flag.result _ yes no flag (same flag is))
