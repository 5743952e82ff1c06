use Rattle.std.proofs.Common.{◌≡◌, suc, ◌∷◌, [], ◌++◌, sym, refl, ap, ◌∙◌, map}
use Rattle.std.proofs.lemmas.List.{append-nil, append_assoc}
use mathlib.Core.List.{map-append}
use lib.ListN.{get_elem?}
use Rattle.gcs_turn.specs.Passes.{taken_of, told}
use Rattle.gcs_turn.proofs.turn.Turn.take_all.Goals as goal

pub loop-other-init : goal.loop-other-init
loop-other-init g c = let given : c.into_iter-other-iterator.result.rest.items ≡ c.args.others.items = c.into_iter-other-iterator.ensures.into_iter_gives.0 in record {
  first = c.requires.first;
  taken = sym (append-nil (taken_of c.args.first.now));
  kept = (refl, refl);
  each = λ i p at. c.requires.each i p (ap (λ l. get_elem? l i) (sym given) ∙ at);
}

pub take_in-requires-clause-other : goal.take_in-requires-clause-other
take_in-requires-clause-other g c κs within = c.loop-other.invariant.each 0 c.in-Some.other (ap (λ l. get_elem? l 0) c.in-Some.ensures.steps.0)

pub loop-other-preserved : goal.loop-other-preserved
loop-other-preserved g c = let inv = c.loop-other.invariant in let took = c.take_in.ensures in let other = c.in-Some.other in let before = taken_of c.args.first.now in record {
  first = took.first;
  taken = took.taken ∙ (ap (λ l. l ++ told other ∷ []) inv.taken ∙ (append_assoc before (map told c.loop-other.yielded) (told other ∷ []) ∙ ap (λ l. before ++ l) (sym (map-append told c.loop-other.yielded (other ∷ [])))));
  kept = (took.kept.0 ∙ inv.kept.0, took.kept.1 ∙ inv.kept.1);
  each = λ i p at. inv.each (suc i) p (ap (λ l. get_elem? l (suc i)) c.in-Some.ensures.steps.0 ∙ at);
}
