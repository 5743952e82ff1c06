use Rattle.std.proofs.Common.{List, [], ◌∷◌, length, length-append, ap, sym, ◌∙◌, subst, arith}
use Rattle.gcs_store.specs.Store.{ShardTurn}
use Rattle.gcs_store.proofs.Opened.{IsOpened, fresh_passes, one_opened, passes_of_store}
use Rattle.gcs_store.proofs.store.SharedStore.new.Goals as goal

pub loop-preserved : goal.loop-preserved
loop-preserved c =
    let inv = c.loop.invariant in let turn = c.in_ok-turn.turn in let turns = c.loop.turns.items in let is = c.in_ok-turn.ensures in
    record {
      as_many = let n = ap (λ l. length l) c.in_ok-push.ensures.items in let m = length-append turns (turn ∷ []) in omega (arith, inv.as_many);
      opened = subst (λ (l : List ShardTurn). IsOpened c.args.chunks.now c.args.callers l c.add_seats.new.all.items) (sym c.in_ok-push.ensures.items)
          (one_opened _ _ turns c.loop.all.items c.add_seats.new.all.items turn c.in_ok-turn.seats.items inv.opened (is.turn.0, is.turn.1 ∙ ap (λ s. s.chunks) c.new.ensures) is.passes is.fresh
          c.in_ok-add_seats.ensures.count c.in_ok-add_seats.ensures.each);
    }

pub returns-clause-passes : goal.returns-clause-passes
returns-clause-passes c = passes_of_store _ _ _ _ c.loop.invariant.opened

pub returns-clause-fresh : goal.returns-clause-fresh
returns-clause-fresh c = fresh_passes _ _ _ _ c.loop.invariant.opened
