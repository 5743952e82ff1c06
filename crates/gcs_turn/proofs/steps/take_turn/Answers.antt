use Rattle.std.proofs.Common.{rules, ◌≡◌, ◌∷◌, [], sym, ap, ◌∙◌, Some}
use Rattle.atomic_table.specs.Table.{rest}
use Rattle.gcs_turn.proofs.steps.take_turn.Goals as goal

pub exchange-requires : goal.exchange-requires
exchange-requires g c = let t = c.wait_turn.ensures.took in let bare = c.draw-ticket.ensures.own.1 in
    let carried : c.wait_turn.new.seat.me.1 ≡ (0, Some t.object) ∷ [] = ap (λ m. m.1) t.now ∙ ap (λ cs. (0, Some t.object) ∷ cs) bare in
    (search rules, (Some t.object, carried ∙ ap (λ cs. (0, Some t.object) ∷ rest cs) (sym carried)))
