use Rattle.std.proofs.Common.{◌≡◌, replicate}
use Rattle.gcs_store.specs.Desk.{empty_shard}
use Rattle.gcs_store.proofs.desk.PlainDesk.new.Given as goal

abbrev pub invariant-loop : goal.invariant-loop
invariant-loop l = l.shards.items ≡ replicate l.counter (empty_shard l.chunks)
