use Rattle.std.proofs.Common.{◌+◌, ◌*◌, sym, subst, length}
use Rattle.std.proofs.lemmas.Result.{IfOk-weaker}
use Rattle.gcs_index.specs.Looks.{AreLooks}
use Rattle.gcs_meaning.specs.declared.listing.Page.{Page}
use Rattle.gcs_listing.specs.Seeking.{gone_count}
use Rattle.gcs_listing.proofs.PageLemmas.{page_is}
use Rattle.gcs_listing.proofs.paging.page.Goals as goal

pub returns-clause-page : goal.returns-clause-page
returns-clause-page g c =
    IfOk-weaker c.whole_page.result _ _
    (λ page is. page_is c.args.query.now c.args.moment c.args.versions.now.rows c.args.settings.now c.take_units.new.taken c.in_ok-next.next page c.in_ok-next.ensures.paged is) c.whole_page.ensures

pub returns-clause-looks : goal.returns-clause-looks
returns-clause-looks g c =
    let rows = c.args.versions.now.rows in
    let looks : Page → Type 0 =
    λ page. AreLooks (2 * (length page.items + length page.prefixes) + 3 + gone_count c.args.query.now.view c.args.moment rows) (length rows) c.args.steps.now c.take_units.new.steps in
    IfOk-weaker c.whole_page.result _ _ (λ page is. subst looks (sym is) c.in_ok-next.ensures.looks) c.whole_page.ensures
