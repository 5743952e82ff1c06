use Rattle.std.proofs.Common.{◌≡◌, ◌+◌, [], ◌∷◌, length, length-append, append-nil, refl, ap, sym, ◌∙◌, arith}
use Rattle.atomic_table.proofs.Lists.{at_index}
use Rattle.gcs_store.proofs.Changes.{at_last_of, none_changed, one_changed_at}
use Rattle.gcs_store.proofs.opening.add_seats.Goals as goal

pub loop-seat-init : goal.loop-seat-init
loop-seat-init c = record {
  given = ([], sym (append-nil c.args.seats.items));
  changed = none_changed _ _ _ _ (omega (arith, c.requires));
}

pub loop-seat-preserved : goal.loop-seat-preserved
loop-seat-preserved c =
    let inv = c.loop-seat.invariant in let seat = c.in-Some.seat in let was = c.loop-seat.seats.items in let left = c.pop.new.self.items in let o = c.index_mut-passes.result.now in
    let split = at_last_of c.args.seats.items was left inv.given.0 seat inv.given.1 c.in-Some.ensures.items in
    let one_less : length was ≡ length left + 1 = ap (λ l. length l) c.in-Some.ensures.items ∙ length-append left (seat ∷ []) in
    let all : length c.args.seats.items ≡ length was + length inv.given.0 = ap (λ l. length l) inv.given.1 ∙ length-append was inv.given.0 in
    let place = c.len.result in let is : place ≡ length left = omega (arith, c.len.ensures, c.pop.new.self.ok.0) in
    record {
      given = (seat ∷ inv.given.0, split.0);
      changed = one_changed_at _ _ _ place (length left) (length was) c.loop-seat.all.items o _ seat is one_less inv.changed
          (at_index c.loop-seat.all.items place o (omega (arith, is, one_less, all, c.requires, inv.changed.count)) c.index_mut-passes.ensures.value) split.1 (refl, c.in_ok-push.ensures.items);
    }

pub returns-clause-each : goal.returns-clause-each
returns-clause-each c = λ i p at.
    let none : length c.loop-seat.seats.items ≡ 0 = grind (arith, c.in_default.ensures.variant, c.loop-seat.seats.ok.0) in
    let e = c.loop-seat.invariant.changed.from i p (omega (arith, none)) at in
    (e.0, e.1, e.2, e.3, e.4.0, e.4.1)
