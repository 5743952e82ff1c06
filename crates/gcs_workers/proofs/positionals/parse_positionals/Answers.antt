use Rattle.std.proofs.Common.{rules, ap, ap₂, codes, ◌≡◌, ◌∙◌}
use Rattle.std.proofs.lemmas.Result.{IfErr-weaker, IfOk-weaker}
use Rattle.clap.specs.Words.{app_of, first_of, is_simple, matches_of, new_rule, rule_of, found_of, takes, with_rule}
use Rattle.clap.proofs.WalkLemmas.{first_value-rows}
use Rattle.gcs_workers.specs.Positionals.{command, first_rule}
use Rattle.gcs_workers.proofs.PositionalLemmas.{simple, takes_few, first_few, second_few, third_few, fourth_few}
use Rattle.gcs_workers.proofs.positionals.parse_positionals.Goals as goal

command_is : (c : goal.After-try_get_matches_from) → app_of c.in_ok-command.command ≡ command
command_is c =
    let a : rule_of c.required-first.result ≡ first_rule = search rules in
    let b : rule_of c.new-second.result ≡ new_rule (codes "second") = search rules in
    let d : rule_of c.new-third.result ≡ new_rule (codes "third") = search rules in
    let e : rule_of c.new-fourth.result ≡ new_rule (codes "fourth") = search rules in
    c.in_ok-command.ensures.shape (search rules)
    ∙ ap₂ with_rule (c.in_ok-arg-3.ensures.shape (search rules)
    ∙ ap₂ with_rule (c.in_ok-arg-2.ensures.shape (search rules)
    ∙ ap₂ with_rule (c.in_ok-arg.ensures.shape (search rules) ∙ ap₂ with_rule c.new-2.ensures.app a) b) d) e

pub returns-clause-err : goal.returns-clause-err
returns-clause-err c =
    let w = c.requires in
    IfErr-weaker c.try_get_matches_from.result _ _ (λ e h. h (ap₂ takes (command_is c) w.1 ∙ takes_few w.0 w.2 w.3)) c.try_get_matches_from.ensures.passes

pub returns-clause-ok : goal.returns-clause-ok
returns-clause-ok c =
    IfOk-weaker c.try_get_matches_from.result _ _
    (λ m h. λ texts words least most.
    let rows = (h (ap is_simple (command_is c) ∙ simple)).0 ∙ ap₂ matches_of (command_is c) words in
    record {
      first = first_value-rows (found_of m) (codes "first") ∙ ap (first_of (codes "first")) rows ∙ first_few texts least most;
      second = first_value-rows (found_of m) (codes "second") ∙ ap (first_of (codes "second")) rows ∙ second_few texts least most;
      third = first_value-rows (found_of m) (codes "third") ∙ ap (first_of (codes "third")) rows ∙ third_few texts least most;
      fourth = first_value-rows (found_of m) (codes "fourth") ∙ ap (first_of (codes "fourth")) rows ∙ fourth_few texts least most;
    })
    c.try_get_matches_from.ensures.matches
