use Rattle.std.proofs.Common.{◌≡◌, ℕ, [], ◌∷◌, ◌++◌, length, sym, refl, ap, ◌∙◌, subst}
use Rattle.gcs_turn.specs.declared.object.Entry.{Entry}
use Rattle.gcs_turn.proofs.Calls.{after, still_of, was_called, some_is}
use Rattle.gcs_turn.proofs.turn.Turn.call.Goals as goal

pub returns-in-Ok-clause-own : goal.returns-in-Ok-clause-own
returns-in-Ok-clause-own g c = let take = c.take_turn-object.ensures in let log = g.O.Object.history c.take_turn-object.result in let p = c.args.pass.now in
    let e : Entry g.row.O-Command.Denot = record { caller = p.caller; number = p.calls; moment = c.args.moment; command = c.of-said.result.value } in
    let now : c.give_back.new.seat.me.0 ≡ after p.seat.me.0 log e take.took.0 = ap (λ m. m.0) c.give_back.ensures.left ∙ (ap (λ m. record m.0 { stage = 0 }) c.add_entry.ensures.added ∙ ap (λ m. record m.0 { stage = 0; seen = m.0.base ++ e ∷ []; own = m.0.base ++ e ∷ []; mine = m.0.mine ++ e ∷ [] }) take.took.1) in
    (still_of p.seat c.give_back.new.seat log e take.took.0 now take.made p.caller_is p.calls_are _ _ _ c.requires.own (c.give_back.ensures.own ∙ (c.add_entry.ensures.own ∙ take.own)) take.numbered, refl)

pub returns-in-Ok-clause-ok : goal.returns-in-Ok-clause-ok
returns-in-Ok-clause-ok g c = let take = c.take_turn-object.ensures in let object = c.take_turn-object.result in let log = g.O.Object.history object in let p = c.args.pass.now in let home = g.O.Object.home in
    let e : Entry g.row.O-Command.Denot = record { caller = p.caller; number = p.calls; moment = c.args.moment; command = c.of-said.result.value } in
    let now : c.give_back.new.seat.me.0 ≡ after p.seat.me.0 log e take.took.0 = ap (λ m. m.0) c.give_back.ensures.left ∙ (ap (λ m. record m.0 { stage = 0 }) c.add_entry.ensures.added ∙ ap (λ m. record m.0 { stage = 0; seen = m.0.base ++ e ∷ []; own = m.0.base ++ e ∷ []; mine = m.0.mine ++ e ∷ [] }) take.took.1) in
    let made : ℕ → g.row.O-Command.Denot → Entry g.row.O-Command.Denot = λ n k. record { caller = p.caller; number = n; moment = c.args.moment; command = k } in
    let right = c.in-Ok.ensures.answer in let key = c.args.self.now.table.shared.key.value in (
      was_called p.seat c.give_back.new.seat log e take.took.0 now take.made p.caller_is p.calls_are g.O.Object.answer p.caller (made (length p.seat.me.0.mine) c.args.command) c.in-Ok.answer p.caller_is c.requires.own.calls
          (λ i. made (p.calls_are i) (c.of-said.ensures i)) (subst (λ n. g.O.Object.answer log (made n c.args.command) c.in-Ok.answer) p.calls_are right.0),
      subst (λ h. g.O.Object.suits h c.in-Ok.answer) (some_is (home object) (home key) (sym take.home ∙ c.requires.own.home_is)) right.1,
    )
