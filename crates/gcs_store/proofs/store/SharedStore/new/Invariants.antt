use Rattle.std.proofs.Common.{◌≡◌, length}
use Rattle.gcs_store.proofs.Opened.{IsOpened}
use Rattle.gcs_store.proofs.store.SharedStore.new.Given as goal

-- so many turns are open, and each caller has a pass for each of them
abbrev pub invariant-loop : goal.invariant-loop
invariant-loop l = record {
  as_many : length l.turns.items ≡ l.counter;
  opened : IsOpened l.chunks l.callers l.turns.items l.all.items;
}
