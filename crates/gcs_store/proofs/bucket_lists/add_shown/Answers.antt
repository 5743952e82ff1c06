use Rattle.std.proofs.Common.{sym, ◌∙◌}
use Rattle.gcs_store.proofs.Listed.{shown_none, shown_some}
use Rattle.gcs_store.proofs.bucket_lists.add_shown.Goals as goal

pub returns-in_ok-push-clause-items : goal.returns-in_ok-push-clause-items
returns-in_ok-push-clause-items c =
    c.in_ok-push.ensures.items
    ∙ shown_some c.args.name.now c.args.bucket.now.alive c.args.rows.now.items c.in-Some.row (sym c.in-Some.is ∙ c.in_ok-row.ensures)

pub returns-in_default-clause-items : goal.returns-in_default-clause-items
returns-in_default-clause-items c = shown_none c.args.name.now c.args.bucket.now.alive _ (sym c.in_default.is ∙ c.in_ok-row.ensures)
