use Rattle.std.proofs.Common.{◌≡◌, [], ◌∷◌, length, length-append, ap, sym, ◌∙◌, subst, ⊎_elim, arith}
use mathlib.Core.Option.{some-ne-none}
use lib.ListN.{get_elem?}
use Rattle.gcs_turn.proofs.Histories.{at_end}
use Rattle.gcs_store.proofs.opening.empty_passes.Goals as goal

pub loop-caller-init : goal.loop-caller-init
loop-caller-init c = record {
  count = ap (λ l. length l) c.new-all.ensures.items;
  each = λ i p at. absurd (some-ne-none p (sym at ∙ ap (λ l. get_elem? l i) c.new-all.ensures.items));
}

pub loop-caller-preserved : goal.loop-caller-preserved
loop-caller-preserved c = let inv = c.loop-caller.invariant in let items = c.in_ok-push.ensures.items in record {
  count = let n = ap (λ l. length l) items in let m = length-append c.loop-caller.all.items (record { caller = c.loop-caller.caller; seats = c.new.result } ∷ []) in omega (arith, inv.count);
  each = λ i p at. ⊎_elim (λ e. inv.each i p e) (λ e. subst (λ x. (x.caller ≡ i) × (x.seats.items ≡ [])) e.1 (sym (e.0 ∙ inv.count), c.new.ensures.items)) (at_end c.loop-caller.all.items _ p i (ap (λ l. get_elem? l i) (sym items) ∙ at));
}
