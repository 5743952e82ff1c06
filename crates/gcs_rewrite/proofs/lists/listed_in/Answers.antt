use Rattle.std.proofs.Common.{◌≡◌, ◌∙◌, ◌+◌, ◌∷◌, List, take, drop, ap, arith, sym}
use Rattle.std.proofs.lemmas.List.{drop_more}
use Rattle.gcs_meaning.specs.declared.command.Answer.{Answer}
use Rattle.gcs_rewrite.specs.Lists.{listed_from, rows_in, with_all_listed}
use Rattle.gcs_rewrite.proofs.Listed.{first_from}
use Rattle.gcs_rewrite.proofs.lists.listed_in.Goals as goal

pub loop-answer-preserved : goal.loop-answer-preserved
loop-answer-preserved c =
    let rest : List Answer = drop (c.loop-answer.answer-index + 1) c.args.answers.now in
    let next : drop c.loop-answer.answer-index c.args.answers.now ≡ c.answer-item.result ∷ rest =
    drop_more c.args.answers.now c.loop-answer.answer-index c.answer-item.result (omega arith) ∙ ap (λ answer. answer ∷ rest) (sym c.answer-item.is) in
    record {
      listed = c.in_ok-add_all.ensures.first;
      same =
          c.loop-answer.invariant.same
          ∙ ap (λ left. take c.args.most (listed_from c.loop-answer.listed.items left)) next
          ∙ first_from c.args.most rest (with_all_listed (rows_in c.answer-item.result) c.loop-answer.listed.items)
          ∙ ap (λ listed. take c.args.most (listed_from listed rest))
          (sym (c.in_ok-add_all.ensures.added ∙ ap (λ rows. take c.args.most (with_all_listed rows c.loop-answer.listed.items)) c.rows_in.ensures));
    }
