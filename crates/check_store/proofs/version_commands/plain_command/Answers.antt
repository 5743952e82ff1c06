use Rattle.std.proofs.Common.{sym, subst}
use Rattle.check_store.specs.Commands.{IsAskable}
use Rattle.check_store.proofs.version_commands.plain_command.Goals.{in-get, in-text, in-delete, in-restore, in-compose+in_ok-compose-in-compose, in-list}
use Rattle.check_store.proofs.version_commands.plain_command.Goals as goal

pub returns : goal.returns
returns c =
    elim c.match-word.branch [
      | in-get w ↦ subst IsAskable (sym w.result-is) (tt, λ chunks. tt)
      | in-text w ↦ subst IsAskable (sym w.result-is) (tt, λ chunks. tt)
      | in-delete w ↦ subst IsAskable (sym w.result-is) (tt, λ chunks. tt)
      | in-restore w ↦ subst IsAskable (sym w.result-is) (tt, λ chunks. tt)
      | in-compose+in_ok-compose-in-compose w ↦ subst IsAskable (sym w.result-is) w.in_ok-compose-in-compose.ensures
      | in-list w ↦ subst IsAskable (sym w.result-is) (tt, λ chunks. tt)
    ]
