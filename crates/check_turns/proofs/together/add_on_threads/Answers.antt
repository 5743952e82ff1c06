use Rattle.std.proofs.Common.{rules, sym, ap, ◌∙◌, subst}
use Rattle.gcs_turn.specs.Passes.{IsPassOf, caller_of}
use Rattle.gcs_turn.proofs.AllPasses.{pass_at, all_changed}
use Rattle.check_turns.proofs.together.add_on_threads.Goals as goal

pub for_each_mut-requires-clause-accepts : goal.for_each_mut-requires-clause-accepts
for_each_mut-requires-clause-accepts g c κs within = λ i p below is. (pass_at _ c.args.turn.now c.args.passes.now i p.now c.requires below is).0

pub returns : goal.returns
returns g c = all_changed _ c.args.turn.now c.args.passes.now c.for_each_mut.new.s c.requires (search rules)
    (λ i p below. let t = (c.for_each_mut.ensures i p below).1 in
    (subst (IsPassOf (λ _. tt) c.args.turn.now) t.left t.call.0, ap caller_of (sym t.left) ∙ (t.call.1 ∙ ap caller_of t.argument_is)))
