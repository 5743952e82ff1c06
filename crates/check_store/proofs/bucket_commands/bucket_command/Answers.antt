use Rattle.std.proofs.Common.{sym, subst}
use Rattle.std.specs.Option.{IfSome}
use Rattle.check_store.specs.Commands.{IsAskable}
use Rattle.check_store.proofs.bucket_commands.bucket_command.Goals.{in-text, in-text-2, in-lock, in-text-3, in-text-4, in_default+in-Some+in_ok-insert-in-Some, in_default+in-None}
use Rattle.check_store.proofs.bucket_commands.bucket_command.Goals as goal

pub returns : goal.returns
returns c =
    elim c.match-word.branch [
      | in-text w ↦ subst (λ o. IfSome o IsAskable) (sym w.result-is) (tt, λ chunks. tt)
      | in-text-2 w ↦ subst (λ o. IfSome o IsAskable) (sym w.result-is) (tt, λ chunks. tt)
      | in-lock w ↦ subst (λ o. IfSome o IsAskable) (sym w.result-is) (tt, λ chunks. tt)
      | in-text-3 w ↦ subst (λ o. IfSome o IsAskable) (sym w.result-is) (tt, λ chunks. tt)
      | in-text-4 w ↦ subst (λ o. IfSome o IsAskable) (sym w.result-is) (tt, λ chunks. tt)
      | in_default+in-Some+in_ok-insert-in-Some w ↦ subst (λ o. IfSome o IsAskable) (sym w.result-is) w.in_ok-insert-in-Some.ensures
      | in_default+in-None w ↦ subst (λ o. IfSome o IsAskable) (sym w.result-is) w.change_command.ensures
    ]
