use Rattle.std.proofs.Common.{◌∙◌}
use Rattle.gcs_turn.proofs.AllPasses.{pass_at, all_with}
use Rattle.check_turns.proofs.alone.add.Goals as goal

pub call-requires-clause-own : goal.call-requires-clause-own
call-requires-clause-own g c κs within = (pass_at _ c.args.turn.now c.args.passes.now.items c.args.caller c.index_mut.result.now c.requires.passes c.requires.caller c.index_mut.ensures.value).0

pub returns : goal.returns
returns g c = let own = c.call.ensures.own in
    all_with _ c.args.turn.now c.args.passes.now.items c.args.caller c.call.new.pass c.requires.passes own.0
    (own.1 ∙ (pass_at _ c.args.turn.now c.args.passes.now.items c.args.caller c.index_mut.result.now c.requires.passes c.requires.caller c.index_mut.ensures.value).1)
