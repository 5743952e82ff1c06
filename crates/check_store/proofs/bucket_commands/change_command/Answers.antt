use Rattle.std.proofs.Common.{sym, subst}
use Rattle.check_store.specs.Commands.{IsAskable}
use Rattle.check_store.proofs.bucket_commands.change_command.Goals.{in-text, in-text-2, in-text-3, in-text-4, in-text-5, in-text-6, in-text-7}
use Rattle.check_store.proofs.bucket_commands.change_command.Goals as goal

pub returns : goal.returns
returns c =
    elim c.match-word.branch [
      | in-text w ↦ subst IsAskable (sym w.result-is) w.change_bucket.ensures
      | in-text-2 w ↦ subst IsAskable (sym w.result-is) w.change_bucket-in-text-2.ensures
      | in-text-3 w ↦ subst IsAskable (sym w.result-is) w.change_bucket-in-text-3.ensures
      | in-text-4 w ↦ subst IsAskable (sym w.result-is) w.change_bucket-in-text-4.ensures
      | in-text-5 w ↦ subst IsAskable (sym w.result-is) w.change_bucket-in-text-5.ensures
      | in-text-6 w ↦ subst IsAskable (sym w.result-is) w.change_bucket-in-text-6.ensures
      | in-text-7 w ↦ subst IsAskable (sym w.result-is) w.change_bucket-in-text-7.ensures
    ]
