use Rattle.std.proofs.Common.{◌<◌, ◌^◌, map, ap, sym, ◌∙◌, subst}
use lib.ListN.{length-map}
use Rattle.gcs_meaning.specs.History.{answer_of}
use Rattle.gcs_store.specs.Entries.{turned}
use Rattle.gcs_store.proofs.Entries.{there_and_back, turned-push}
use Rattle.gcs_store.proofs.object.ShardObject.apply.Goals as goal

pub returns-in-Ok-clause-entry : goal.returns-in-Ok-clause-entry
returns-in-Ok-clause-entry c = ap (λ l. map turned l) c.in-Ok.ensures.entry ∙ turned-push c.args.self.now.history _

pub returns-in-Ok-clause-room : goal.returns-in-Ok-clause-room
returns-in-Ok-clause-room c = subst (λ n. n < 2 ^ 59) (sym (length-map c.apply.new.self.history turned)) c.in-Ok.ensures.few

pub returns-in-Ok-clause-answer : goal.returns-in-Ok-clause-answer
returns-in-Ok-clause-answer c = (c.in-Ok.ensures.answer ∙ ap (λ l. answer_of l c.args.moment c.args.command) (sym (there_and_back c.args.self.now.history)), c.in-Ok.ensures.lies)

pub returns-in-Err-clause-err : goal.returns-in-Err-clause-err
returns-in-Err-clause-err c = (c.in-Err.ensures.back, ap (λ s. map turned s.history) c.in-Err.ensures.unchanged)
