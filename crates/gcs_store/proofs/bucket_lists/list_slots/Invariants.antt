use Rattle.std.proofs.Common.{◌≡◌, ◌≤◌, ◌++◌, drop, length}
use Rattle.gcs_store.specs.Shard.{all_shown}
use Rattle.gcs_store.proofs.bucket_lists.list_slots.Given as goal

-- what is shown so far, and with what is left all that is shown
abbrev pub invariant-loop-name : goal.invariant-loop-name
invariant-loop-name l = record {
  all : l.rows.items ++ all_shown (drop l.name-index l.listed) ≡ all_shown l.listed;
  few : length l.rows.items ≤ l.most;
}
