use Rattle.std.proofs.Common.{◌≡◌, ◌+◌, ◌∷◌, [], ◌++◌, length, sym, ap, ◌∙◌, subst, ⊎_elim, arith, length-append}
use lib.ListN.{get_elem?}
use Rattle.gcs_turn.specs.Turning.{one_more, next_seat, newcomer}
use Rattle.gcs_turn.proofs.Histories.{at_end}
use Rattle.gcs_turn.proofs.seats.other_passes.Goals as goal

pub loop-caller-preserved : goal.loop-caller-preserved
loop-caller-preserved g c = let inv = c.loop-caller.invariant in let kept = c.next_pass.ensures.kept in let given = c.next_pass.ensures.given in
    let old = c.loop-caller.passes.items in let p = c.next_pass.result in
    let items : c.push.new.self.items ≡ old ++ p ∷ [] = c.in_ok-push.ensures.items in
    let count = inv.count in
    record {
      table = kept.0 ∙ inv.table;
      me = kept.1 ∙ ap (λ m. (one_more m.0, m.1)) inv.me;
      count = let a = ap (λ l. length l) items in let b = length-append old (p ∷ []) in omega arith;
      each = λ i q at. ⊎_elim (λ e. inv.each i q e)
          (λ e. subst (λ x. (x.seat.table_id ≡ c.args.first.now.table_id) × (x.seat.me.0 ≡ newcomer (i + 1) c.args.first.now.me.0.home c.args.first.now.me.0.seen)) e.1
          (given.0 ∙ inv.table, ap (λ m. m.0) given.1 ∙ (ap (λ m. next_seat m.0) inv.me ∙ ap (λ k. newcomer k c.args.first.now.me.0.home c.args.first.now.me.0.seen) (let n : c.loop-caller.caller ≡ i + 1 = let z = e.0 in omega arith in n))))
          (at_end old p q i (ap (λ l. get_elem? l i) (sym items) ∙ at));
    }
