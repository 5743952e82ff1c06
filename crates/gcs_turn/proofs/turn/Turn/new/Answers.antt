use Rattle.std.proofs.Common.{◌≡◌, ◌+◌, ◌∷◌, [], ◌++◌, length, sym, refl, ap, ◌∙◌, subst, ⊎_elim, Some, arith, cond, ne_eqb}
use lib.ListN.{get_elem?}
use Rattle.atomic_table.specs.Table.{opening}
use Rattle.gcs_turn.specs.Turning.{newcomer, TurnRule}
use Rattle.gcs_turn.specs.Seating.{OfTurn}
use Rattle.gcs_turn.proofs.Histories.{at_cons}
use Rattle.gcs_turn.proofs.Joining.{starts}
use Rattle.gcs_turn.proofs.Finishes.{of_view}
use Rattle.gcs_turn.proofs.turn.Turn.new.Goals as goal

pub new-requires : goal.new-requires
new-requires g c = let home = g.O.Object.home in let key = c.of-key.result.value in
    let items : c.push.new.self.items ≡ Some c.args.object ∷ [] = c.in_ok-push.ensures.items ∙ ap (λ l. l ++ Some c.args.object ∷ []) c.new-slots.ensures.items in
    subst (λ l. TurnRule g.O.Object.history home (home key) (opening (0 ∷ 0 ∷ 0 ∷ []) l (record (newcomer 0 (Some (home key)) []) { made = 1 }))) (sym items)
    (starts g.O.Object.history home (home key) c.args.object c.requires.empty (ap home (sym c.of-key.ensures)))

pub returns-clause-passes : goal.returns-clause-passes
returns-clause-passes g c =
    let home = g.O.Object.home in let key = c.of-key.result.value in let table = c.in-Ok.table.shared in
    let ok = c.in-Ok.ensures.ok in let rest = c.in_ok-others.ensures in let made = c.first_pass.ensures in let seat = c.first_pass.result.seat in let items = c.in_ok-passes.ensures in
    let same : home key ≡ home table.key.value = ap (λ k. home k.value) (sym ok.5) in
    let first = record (newcomer 0 (Some (home key)) []) { made = c.args.callers } in
    let is : seat.me.0 ≡ first = ap (λ s. s.me.0) made.0 ∙ (ap (λ m. m.0) rest.first.1 ∙ ap (λ m. record m.0 { made = c.args.callers }) ok.4) in
    let at_table : seat.table_id ≡ table.table_id = ap (λ s. s.table_id) made.0 ∙ (rest.first.0 ∙ ok.2) in
    record {
      count = let a = ap (λ l. length l) items in let b = rest.count in omega arith;
      each = λ i p at. ⊎_elim
          (λ e. subst (λ x. OfTurn table.table_id (home table.key.value) c.args.callers x.seat × (x.caller ≡ i)) e.1
          (of_view seat first _ _ _ is at_table (ap (λ h. Some h) same) refl refl refl refl refl, made.1 ∙ sym e.0))
          (λ e. let t = rest.each e.0 p e.2 in let home_is = ap (λ m. m.0.home) ok.4 in let seen_is = ap (λ m. m.0.seen) ok.4 in (
            of_view p.seat _ _ _ _ t.1 t.0 (home_is ∙ ap (λ h. Some h) same) (ap (λ b. cond b c.args.callers 0) (sym (ne_eqb (e.0 + 1) 0 (λ z. omega arith)))) refl refl seen_is refl,
            p.caller_is ∙ (ap (λ v. v.caller) t.1 ∙ sym e.1),
          ))
          (at_cons c.first_pass.result c.in_ok-others.others.items i p (ap (λ l. get_elem? l i) (sym items) ∙ at));
    }

pub returns-clause-fresh : goal.returns-clause-fresh
returns-clause-fresh g c = λ i p at.
    let ok = c.in-Ok.ensures.ok in let rest = c.in_ok-others.ensures in let made = c.first_pass.ensures in let seen_is = ap (λ m. m.0.seen) ok.4 in
    ⊎_elim
    (λ e. subst (λ x. (x.seat.me.0.seen ≡ []) × (x.seat.me.0.mine ≡ [])) e.1
    (let is = ap (λ s. s.me.0) made.0 ∙ ap (λ m. m.0) rest.first.1 in (ap (λ v. v.seen) is ∙ seen_is, ap (λ v. v.mine) is ∙ ap (λ m. m.0.mine) ok.4)))
    (λ e. let t = rest.each e.0 p e.2 in (ap (λ v. v.seen) t.1 ∙ seen_is, ap (λ v. v.mine) t.1))
    (at_cons c.first_pass.result c.in_ok-others.others.items i p (ap (λ l. get_elem? l i) (sym c.in_ok-passes.ensures) ∙ at))
