use Rattle.std.proofs.Common.{sym, subst}
use Rattle.check_store.specs.Commands.{IsAskable}
use Rattle.check_store.proofs.version_commands.version_command.Goals.{in-put+in_ok-put-in-put, in-text+in_ok-put-in-text, in-text-2+in_ok-put-in-text-2, in-text-3+in_ok-change-in-text-3, in-hold+in_ok-change-in-hold, in-release+in_ok-change-in-release}
use Rattle.check_store.proofs.version_commands.version_command.Goals as goal

pub returns : goal.returns
returns c =
    elim c.match-word.branch [
      | in-put+in_ok-put-in-put w ↦ subst IsAskable (sym w.result-is) w.in_ok-put-in-put.ensures
      | in-text+in_ok-put-in-text w ↦ subst IsAskable (sym w.result-is) w.in_ok-put-in-text.ensures
      | in-text-2+in_ok-put-in-text-2 w ↦ subst IsAskable (sym w.result-is) w.in_ok-put-in-text-2.ensures
      | in-text-3+in_ok-change-in-text-3 w ↦ subst IsAskable (sym w.result-is) w.in_ok-change-in-text-3.ensures
      | in-hold+in_ok-change-in-hold w ↦ subst IsAskable (sym w.result-is) w.in_ok-change-in-hold.ensures
      | in-release+in_ok-change-in-release w ↦ subst IsAskable (sym w.result-is) w.in_ok-change-in-release.ensures
    ]
