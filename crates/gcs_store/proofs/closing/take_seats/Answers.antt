use Rattle.std.proofs.Common.{◌≡◌, ◌+◌, [], ◌∷◌, length, length-append, append-nil, ap, sym, ◌∙◌, subst, arith}
use mathlib.Core.Option.{some, some-injective}
use lib.ListN.{get_elem?}
use Rattle.atomic_table.proofs.Lists.{at_index}
use Rattle.gcs_turn.specs.Passes.{IsFirstOf}
use Rattle.gcs_store.specs.Store.{ShardTurn}
use Rattle.gcs_store.proofs.Changes.{at_last_of, none_changed, one_changed_at}
use Rattle.gcs_store.proofs.closing.take_seats.Goals as goal

pub loop-seat-init : goal.loop-seat-init
loop-seat-init c = record {
  given = ([], sym (append-nil c.args.seats.items));
  changed = none_changed _ _ _ _ (omega (arith, c.requires.as_many));
}

pub take_in-requires-clause-first : goal.take_in-requires-clause-first
take_in-requires-clause-first c κs =
    let inv = c.loop-seat.invariant in let was = c.loop-seat.seats.items in let left = c.pop.new.self.items in let o = c.index_mut-first.result.now in let turn = c.index-turns-place.result in
    let one_less : length was ≡ length left + 1 = ap (λ l. length l) c.in-Some.ensures.items ∙ length-append left (c.in-Some.seat ∷ []) in
    let all : length c.args.seats.items ≡ length was + length inv.given.0 = ap (λ l. length l) inv.given.1 ∙ length-append was inv.given.0 in
    let place = c.len-place.result in let is : place ≡ length left = omega (arith, c.len-place.ensures, c.pop.new.self.ok.0) in
    c.requires.first place turn o (at_index c.args.turns.now place turn (omega (arith, is, one_less, all, c.requires.as_many)) c.index-turns-place.is)
    (inv.changed.before place o (omega (arith, is, one_less)) (at_index c.loop-seat.firsts.items place o (omega (arith, is, one_less, all, c.requires.as_many, inv.changed.count)) c.index_mut-first.ensures.value))

pub take_in-requires-clause-other : goal.take_in-requires-clause-other
take_in-requires-clause-other c κs =
    let inv = c.loop-seat.invariant in let seat = c.in-Some.seat in let was = c.loop-seat.seats.items in let left = c.pop.new.self.items in let turn = c.index-turns-place.result in
    let split = at_last_of c.args.seats.items was left inv.given.0 seat inv.given.1 c.in-Some.ensures.items in
    let one_less : length was ≡ length left + 1 = ap (λ l. length l) c.in-Some.ensures.items ∙ length-append left (seat ∷ []) in
    let all : length c.args.seats.items ≡ length was + length inv.given.0 = ap (λ l. length l) inv.given.1 ∙ length-append was inv.given.0 in
    let place = c.len-place.result in let is : place ≡ length left = omega (arith, c.len-place.ensures, c.pop.new.self.ok.0) in
    c.requires.other place turn seat (at_index c.args.turns.now place turn (omega (arith, is, one_less, all, c.requires.as_many)) c.index-turns-place.is)
    (ap (λ k. get_elem? c.args.seats.items k) is ∙ split.1)

pub loop-seat-preserved : goal.loop-seat-preserved
loop-seat-preserved c =
    let inv = c.loop-seat.invariant in let seat = c.in-Some.seat in let was = c.loop-seat.seats.items in let left = c.pop.new.self.items in let o = c.index_mut-first.result.now in let turn = c.index-turns-place.result in
    let split = at_last_of c.args.seats.items was left inv.given.0 seat inv.given.1 c.in-Some.ensures.items in
    let one_less : length was ≡ length left + 1 = ap (λ l. length l) c.in-Some.ensures.items ∙ length-append left (seat ∷ []) in
    let all : length c.args.seats.items ≡ length was + length inv.given.0 = ap (λ l. length l) inv.given.1 ∙ length-append was inv.given.0 in
    let place = c.len-place.result in let is : place ≡ length left = omega (arith, c.len-place.ensures, c.pop.new.self.ok.0) in
    let turn_at : get_elem? c.args.turns.now (length left) ≡ some turn
    = ap (λ k. get_elem? c.args.turns.now k) (sym is) ∙ at_index c.args.turns.now place turn (omega (arith, is, one_less, all, c.requires.as_many)) c.index-turns-place.is in
    record {
      given = (seat ∷ inv.given.0, split.0);
      changed = one_changed_at _ _ _ place (length left) (length was) c.loop-seat.firsts.items o c.take_in.new.first seat is one_less inv.changed
          (at_index c.loop-seat.firsts.items place o (omega (arith, is, one_less, all, c.requires.as_many, inv.changed.count)) c.index_mut-first.ensures.value) split.1
          (λ t at. subst (λ (x : ShardTurn). IsFirstOf x c.take_in.new.first) (some-injective turn t (sym turn_at ∙ at)) c.take_in.ensures.first, c.take_in.ensures.taken, c.take_in.ensures.kept.0, c.take_in.ensures.kept.1);
    }

pub returns-clause-each : goal.returns-clause-each
returns-clause-each c = λ s t p turn_at at.
    let none : length c.loop-seat.seats.items ≡ 0 = grind (arith, c.in_default.ensures.variant, c.loop-seat.seats.ok.0) in
    let e = c.loop-seat.invariant.changed.from s p (omega (arith, none)) at in
    (e.0, e.1, e.2, e.3, e.4.0 t turn_at, e.4.1, e.4.2, e.4.3)
