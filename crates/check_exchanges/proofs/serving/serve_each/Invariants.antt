use Rattle.std.proofs.Common.{◌≡◌}
use Rattle.check_exchanges.proofs.serving.serve_each.Given as goal

-- the desk keeps its chunks
abbrev pub invariant-loop-connection : goal.invariant-loop-connection
invariant-loop-connection l = l.desk.chunks ≡ l.chunks
