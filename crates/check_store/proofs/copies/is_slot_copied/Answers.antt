use Rattle.std.proofs.Common.{subst}
use Rattle.std.specs.Option.{IfSome}
use Rattle.check_store.specs.Commands.{IsAskable}
use Rattle.check_store.proofs.copies.is_slot_copied.Goals as goal

pub apply-requires-clause-contents : goal.apply-requires-clause-contents
apply-requires-clause-contents c = (subst (λ o. IfSome o IsAskable) c.in-Some.is c.in_ok-insert.ensures).1 _
