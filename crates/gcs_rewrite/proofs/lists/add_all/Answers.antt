use Rattle.std.proofs.Common.{◌≡◌, ◌∙◌, ◌+◌, ◌∷◌, List, take, drop, ap, arith, sym}
use Rattle.std.proofs.lemmas.List.{drop_more}
use Rattle.gcs_meaning.specs.declared.version.BucketRow.{BucketRow}
use Rattle.gcs_rewrite.specs.Lists.{with_all_listed, with_listed}
use Rattle.gcs_rewrite.proofs.Listed.{first_all_listed}
use Rattle.gcs_rewrite.proofs.lists.add_all.Goals as goal

pub loop-row-preserved : goal.loop-row-preserved
loop-row-preserved c =
    let rest : List BucketRow = drop (c.loop-row.row-index + 1) c.args.rows.now in
    let next : drop c.loop-row.row-index c.args.rows.now ≡ c.row-item.result ∷ rest =
    drop_more c.args.rows.now c.loop-row.row-index c.row-item.result (omega arith) ∙ ap (λ row. row ∷ rest) (sym c.row-item.is) in
    record {
      listed = c.in_ok-add.ensures.first;
      same =
          c.loop-row.invariant.same
          ∙ ap (λ left. take c.args.most (with_all_listed left c.loop-row.listed.items)) next
          ∙ first_all_listed c.args.most rest (with_listed c.row-item.result c.loop-row.listed.items)
          ∙ ap (λ listed. take c.args.most (with_all_listed rest listed)) (sym c.in_ok-add.ensures.added);
    }
