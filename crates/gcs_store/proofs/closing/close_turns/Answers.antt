use Rattle.std.proofs.Common.{◌≡◌, ℕ, suc, ◌+◌, [], ◌∷◌, length, length-append, ap, sym, ◌∙◌, subst, ⊎_elim, arith}
use mathlib.Core.Option.{some, some-injective}
use lib.ListN.{get_elem?}
use Rattle.gcs_turn.proofs.Histories.{at_end}
use Rattle.gcs_store.specs.Closed.{IsClosedAs}
use Rattle.gcs_store.proofs.closing.close_turns.Goals as goal

pub close-shard-requires-clause-first : goal.close-shard-requires-clause-first
close-shard-requires-clause-first c κs = let inv = c.loop-turn.invariant in
    (c.requires.each _ c.in-Some.turn c.take_first-first.result (inv.turns 0 c.in-Some.turn (ap (λ l. get_elem? l 0) c.in-Some.ensures.steps.0)) (inv.firsts 0 c.take_first-first.result (ap (λ l. get_elem? l 0) c.take_first-first.ensures))).0

pub close-shard-requires-clause-all : goal.close-shard-requires-clause-all
close-shard-requires-clause-all c κs = let inv = c.loop-turn.invariant in
    (c.requires.each _ c.in-Some.turn c.take_first-first.result (inv.turns 0 c.in-Some.turn (ap (λ l. get_elem? l 0) c.in-Some.ensures.steps.0)) (inv.firsts 0 c.take_first-first.result (ap (λ l. get_elem? l 0) c.take_first-first.ensures))).1

pub loop-turn-preserved : goal.loop-turn-preserved
loop-turn-preserved c =
    let inv = c.loop-turn.invariant in let turn = c.in-Some.turn in let first = c.take_first-first.result in let done = c.loop-turn.shards.items in let shard = c.close-shard.result in
    let next = c.in-Some.ensures.steps.0 in let split = c.take_first-first.ensures in let made = c.close-shard.ensures in
    let turn_at = inv.turns 0 turn (ap (λ l. get_elem? l 0) next) in let first_at = inv.firsts 0 first (ap (λ l. get_elem? l 0) split) in
    let one_more : length c.push_reserved.new.self.items ≡ length done + 1 = ap (λ l. length l) c.push_reserved.ensures.items ∙ length-append done (shard ∷ []) in
    let place : (s : ℕ) → length done + suc s ≡ length c.push_reserved.new.self.items + s = λ s. omega (arith, one_more) in
    record {
      as_many = let a = ap (λ l. length l) next in let b = ap (λ l. length l) split in omega (arith, inv.as_many);
      count = let a = ap (λ l. length l) next in omega (arith, inv.count, one_more);
      room = omega (arith, inv.room, c.push_reserved.ensures.capacity);
      turns = λ s t at. subst (λ k. get_elem? c.args.turns.items k ≡ some t) (place s) (inv.turns (suc s) t (ap (λ l. get_elem? l (suc s)) next ∙ at));
      firsts = λ s p at. subst (λ k. get_elem? c.args.firsts.items k ≡ some p) (place s) (inv.firsts (suc s) p (ap (λ l. get_elem? l (suc s)) split ∙ at));
      closed = λ s t p x t_at p_at at. ⊎_elim
          (λ was. inv.closed s t p x t_at p_at was)
          (λ (e : (s ≡ length done) × (shard ≡ x)).
          let here : length done + 0 ≡ s = omega (arith, e.0) in
          let same_turn = some-injective turn t (sym turn_at ∙ (ap (λ k. get_elem? c.args.turns.items k) here ∙ t_at)) in
          let same_first = some-injective first p (sym first_at ∙ (ap (λ k. get_elem? c.args.firsts.items k) here ∙ p_at)) in
          let whole : IsClosedAs turn first shard = record { home = made.home; first_made = made.first; taken_made = made.taken; all = made.all } in
          subst (IsClosedAs t p) e.1 (subst (λ q. IsClosedAs t q shard) same_first (subst (λ u. IsClosedAs u first shard) same_turn whole)))
          (at_end done shard x s (ap (λ l. get_elem? l s) (sym c.push_reserved.ensures.items) ∙ at));
    }
