use Rattle.std.proofs.Common.{◌≡◌, ◌∙◌, ℕ, List, ap, sym, subst, replicate, arith}
use Rattle.gcs_store.specs.Desk.{AreOwn, empty_shard, history_at}
use Rattle.gcs_store.specs.Shard.{ShardValue}
use Rattle.gcs_store.proofs.Desks.{empty_at, replicate_own}
use Rattle.gcs_store.proofs.desk.PlainDesk.new.Goals as goal

pub invariant_of-result : goal.invariant_of-result
invariant_of-result c =
    let all : c.loop.counter ≡ 16 = omega arith in
    subst (λ (shards : List ShardValue). AreOwn (record { chunks = c.args.chunks.now; shards = shards }))
    (sym (c.loop.invariant ∙ ap (λ (n : ℕ). replicate n (empty_shard c.args.chunks.now)) all)) (replicate_own c.args.chunks.now)

pub returns-clause-empty : goal.returns-clause-empty
returns-clause-empty c = λ s.
    ap (λ (shards : List ShardValue). history_at (record { chunks = c.args.chunks.now; shards = shards }) s) c.loop.invariant
    ∙ ap (λ (shard : ShardValue). shard.history) (empty_at c.args.chunks.now c.loop.counter s)
