use Rattle.std.specs.Prelude.{IfSome}
use Rattle.gcs_index.specs.Entries.{IsGood}
use Rattle.check_index.proofs.compared.Compared.has_list.Given as goal

-- an entry stands at the place
abbrev pub invariant-loop-key : goal.invariant-loop-key
invariant-loop-key g l = IfSome l.place (IsGood l.self.index.sizes)
