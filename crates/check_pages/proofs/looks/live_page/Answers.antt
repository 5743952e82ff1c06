use Rattle.std.proofs.Common.{◌≤◌, ◌+◌, arith, length}
use Rattle.std.specs.Prelude.{◌*◌}
use Rattle.std.proofs.lemmas.Result.{IfOk-weaker}
use Rattle.gcs_index.specs.Looks.{fewer_searches}
use Rattle.gcs_listing.specs.Seeking.{gone_count}
use Rattle.check_pages.proofs.LivePages.{none_gone}
use Rattle.check_pages.proofs.looks.live_page.Goals as goal

pub returns : goal.returns
returns g c =
    let rows = c.args.versions.now.rows in
    IfOk-weaker c.page.result _ _
    (λ page looks few one.
    let gone = none_gone c.args.query.now.view 1000 rows c.requires in
    let searches = 2 * (length page.items + length page.prefixes) + 3 + gone_count c.args.query.now.view 1000 rows in
    omega (arith, fewer_searches searches 5 (length rows) c.args.steps.now c.page.new.steps (omega (arith, one, gone)) looks 16 (omega (arith, few))))
    c.page.ensures.looks
