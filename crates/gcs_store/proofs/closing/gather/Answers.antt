use Rattle.std.proofs.Common.{◌≡◌, suc, [], ◌∷◌, ◌++◌, map, ap, sym, ◌∙◌, subst, append-nil, append_assoc, arith}
use Rattle.std.proofs.lemmas.List.{nil_from_length}
use mathlib.Core.List.{map-append}
use lib.ListN.{get_elem?}
use Rattle.gcs_turn.specs.Passes.{told}
use Rattle.gcs_turn.proofs.Finishes.{first_of}
use Rattle.gcs_store.specs.Passes.{AreAtTurns, told_at, told_in}
use Rattle.gcs_store.proofs.closing.gather.Goals as goal

pub loop-other-init : goal.loop-other-init
loop-other-init c =
    let first = c.take_first-firsts.result in let split = c.take_first-firsts.ensures in let given = c.into_iter-other-iterator.ensures.into_iter_gives.0 in
    let own = c.requires.each 0 first (ap (λ l. get_elem? l 0) split) in
    record {
      first = first;
      all = split ∙ ap (λ l. first ∷ l) (sym given);
      as_many = own.0.as_many;
      each = λ s t p turn_at at. let of = own.0.each s t p turn_at at in
          (first_of p.seat of.0 (sym p.caller_is ∙ of.1), of.0.joined, of.0.own ∙ ap (λ o. (told_in o).seen) (sym at), ap (λ o. (told_in o).mine) (sym at));
      others = λ i q at. let other = c.requires.each (suc i) q (ap (λ l. get_elem? l (suc i)) split ∙ (ap (λ l. get_elem? l i) (sym given) ∙ at)) in
          subst (λ k. AreAtTurns c.args.turns.now k q.seats.items) (sym other.1) other.0;
    }

pub take_seats-requires-clause-as_many : goal.take_seats-requires-clause-as_many
take_seats-requires-clause-as_many c = let inv = c.loop-other.invariant in ((inv.others 0 c.in-Some.other (ap (λ l. get_elem? l 0) c.in-Some.ensures.steps.0)).as_many, inv.as_many)

pub take_seats-requires-clause-other : goal.take_seats-requires-clause-other
take_seats-requires-clause-other c = λ s t p turn_at at. ((c.loop-other.invariant.others 0 c.in-Some.other (ap (λ l. get_elem? l 0) c.in-Some.ensures.steps.0)).each s t p turn_at at).0

pub loop-other-preserved : goal.loop-other-preserved
loop-other-preserved c =
    let inv = c.loop-other.invariant in let other = c.in-Some.other in let next = c.in-Some.ensures.steps.0 in let yielded = c.loop-other.yielded in
    record {
      first = inv.first;
      all = inv.all ∙ ap (λ l. inv.first ∷ l) (ap (λ l. yielded ++ l) next ∙ sym (append_assoc yielded (other ∷ []) c.next.new.self.rest.items));
      as_many = c.take_seats.ensures.as_many ∙ inv.as_many;
      each = λ s t p turn_at at. let e = c.take_seats.ensures.each s t p turn_at at in let was = inv.each s t e.0 turn_at e.2 in (
        e.4,
        e.5 ∙ (ap (λ l. l ++ told e.1 ∷ []) was.1 ∙ (ap (λ o. map (told_at s) yielded ++ told_in o ∷ []) (sym e.3) ∙ sym (map-append (told_at s) yielded (other ∷ [])))),
        e.6 ∙ was.2,
        e.7 ∙ was.3,
      );
      others = λ i q at. inv.others (suc i) q (ap (λ l. get_elem? l (suc i)) next ∙ at);
    }

pub returns : goal.returns
returns c =
    let inv = c.loop-other.invariant in let yielded = c.loop-other.yielded in let rest = c.loop-other.other-iterator.rest in
    let none : rest.items ≡ [] = nil_from_length _ (omega (arith, c.in-None.ensures.steps.0, rest.ok.0)) in
    record {
      as_many = inv.as_many;
      first = inv.first;
      others = yielded;
      all_is = inv.all ∙ ap (λ l. inv.first ∷ l) (ap (λ l. yielded ++ l) none ∙ append-nil yielded);
      each = inv.each;
    }
