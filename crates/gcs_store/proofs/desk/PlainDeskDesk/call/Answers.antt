use Rattle.std.proofs.Common.{◌<◌, length, ◌∙◌, sym, subst, arith}
use Rattle.std.proofs.lemmas.List.{get_or_default}
use Rattle.gcs_chunks.specs.Content.{ChunksValue}
use Rattle.gcs_meaning.specs.Contents.{AnswerLiesIn, CommandLiesIn}
use Rattle.gcs_store.proofs.Desks.{chunks_at, own_push, stepped_push}
use Rattle.gcs_store.proofs.desk.PlainDeskDesk.call.Goals as goal

pub apply-requires-clause-contents : goal.apply-requires-clause-contents
apply-requires-clause-contents c =
    let inside : c.args.shard < length c.self.inside.shards.items = omega (arith, c.self.invariant.sixteen, c.requires.shard) in
    let same = chunks_at _ c.args.shard c.index_mut-shard.result.now c.self.invariant (c.index_mut-shard.ensures.value ∙ get_or_default _ _ _ _ inside) in
    subst (λ (chunks : ChunksValue). CommandLiesIn chunks c.args.command) (sym same) (rw (← c.self.view_is) at c.requires.contents)

pub invariant_of-self-2 : goal.invariant_of-self-2
invariant_of-self-2 c =
    let inside : c.args.shard < length c.self.inside.shards.items = omega (arith, c.self.invariant.sixteen, c.requires.shard) in
    own_push _ c.args.shard c.args.moment c.args.command c.index_mut-shard.result.now _ c.self.invariant c.requires.shard
    (c.index_mut-shard.ensures.value ∙ get_or_default _ _ _ _ inside)
    (record { entry = rw c.history.ensures at c.in-Ok.ensures.entry; chunks = c.in-Ok.ensures.chunks })

pub returns-clause-lists : goal.returns-clause-lists
returns-clause-lists c =
    let inside : c.args.shard < length c.self.inside.shards.items = omega (arith, c.self.invariant.sixteen, c.requires.shard) in
    rw (← c.self.view_is)
    (stepped_push _ c.args.shard c.args.moment c.args.command _ c.index_mut-shard.result.now _ c.self.invariant c.requires.shard
    (c.index_mut-shard.ensures.value ∙ get_or_default _ _ _ _ inside)
    (record { entry = rw c.history.ensures at c.in-Ok.ensures.entry; chunks = c.in-Ok.ensures.chunks })
    c.in-Ok.ensures.answer)

pub returns-clause-contents : goal.returns-clause-contents
returns-clause-contents c =
    let inside : c.args.shard < length c.self.inside.shards.items = omega (arith, c.self.invariant.sixteen, c.requires.shard) in
    let same = chunks_at _ c.args.shard c.index_mut-shard.result.now c.self.invariant (c.index_mut-shard.ensures.value ∙ get_or_default _ _ _ _ inside) in
    rw (← c.self.view_is) (subst (λ (chunks : ChunksValue). AnswerLiesIn chunks c.in-Ok.answer) same c.in-Ok.ensures.lies)
