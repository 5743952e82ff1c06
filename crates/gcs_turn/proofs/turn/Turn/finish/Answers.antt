use Rattle.std.proofs.Common.{◌++◌, map, suc, sym, ap, ◌∙◌}
use lib.ListN.{get_elem?}
use Rattle.gcs_turn.specs.Passes.{told}
use Rattle.gcs_turn.proofs.Finishes.{first_of, all_taken, made_by_each}
use Rattle.gcs_turn.proofs.turn.Turn.finish.Goals as goal

pub take_all-requires-clause-first : goal.take_all-requires-clause-first
take_all-requires-clause-first g c κs within = let p = c.split_first-first.result.0 in let first = c.requires.passes.each 0 p (ap (λ l. get_elem? l 0) c.split_first-first.ensures) in
    first_of p.seat first.0 (sym p.caller_is ∙ first.1)

pub take_all-requires-clause-each : goal.take_all-requires-clause-each
take_all-requires-clause-each g c κs within = λ i p at. (c.requires.passes.each (suc i) p (ap (λ l. get_elem? l (suc i)) c.split_first-first.ensures ∙ at)).0

pub close-requires-clause-all : goal.close-requires-clause-all
close-requires-clause-all g c κs within = let p = c.split_first-first.result.0 in let first = c.requires.passes.each 0 p (ap (λ l. get_elem? l 0) c.split_first-first.ensures) in
    all_taken told p c.split_first-first.result.1.items c.args.passes.items _ c.split_first-first.ensures (c.take_all.ensures.taken ∙ ap (λ l. l ++ map told c.split_first-first.result.1.items) first.0.joined)
    (λ i q at. sym q.caller_is ∙ (c.requires.passes.each i q at).1) c.args.self.callers c.requires.passes.count

pub returns-clause-made : goal.returns-clause-made
returns-clause-made g c = let p = c.split_first-first.result.0 in let first = c.requires.passes.each 0 p (ap (λ l. get_elem? l 0) c.split_first-first.ensures) in
    made_by_each told p c.split_first-first.result.1.items c.args.passes.items _ c.split_first-first.ensures (c.take_all.ensures.taken ∙ ap (λ l. l ++ map told c.split_first-first.result.1.items) first.0.joined)
    (λ i q at. sym q.caller_is ∙ (c.requires.passes.each i q at).1) _ _ _ (c.take_all.ensures.kept.0 ∙ first.0.own) c.take_all.ensures.kept.1 c.close.ensures.first c.close.ensures.taken
