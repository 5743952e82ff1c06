use Rattle.std.proofs.Common.{sym, subst}
use Rattle.gcs_chunks.specs.Content.{ContentLiesIn}
use Rattle.check_store.specs.Commands.{IsAskable}
use Rattle.check_store.proofs.upload_commands.upload_command.Goals.{in-start+in_ok-start-in-start, in-text+in_ok-start-in-text, in-text-2+in_ok-start-in-text-2, in-append+in_ok-append-in-append, in-finish+in_ok-tub-in-finish, in-cancel+in_ok-tub-in-cancel}
use Rattle.check_store.proofs.upload_commands.upload_command.Goals as goal

pub returns : goal.returns
returns c =
    elim c.match-word.branch [
      | in-start+in_ok-start-in-start w ↦ subst IsAskable (sym w.result-is) w.in_ok-start-in-start.ensures
      | in-text+in_ok-start-in-text w ↦ subst IsAskable (sym w.result-is) w.in_ok-start-in-text.ensures
      | in-text-2+in_ok-start-in-text-2 w ↦ subst IsAskable (sym w.result-is) w.in_ok-start-in-text-2.ensures
      | in-append+in_ok-append-in-append w ↦ subst IsAskable (sym w.result-is) w.in_ok-append-in-append.ensures
      | in-finish+in_ok-tub-in-finish w ↦ subst IsAskable (sym w.result-is) (tt, λ chunks. subst (ContentLiesIn chunks) (sym w.of.ensures.content) (w.empty.ensures.lies chunks))
      | in-cancel+in_ok-tub-in-cancel w ↦ subst IsAskable (sym w.result-is) (tt, λ chunks. tt)
    ]
