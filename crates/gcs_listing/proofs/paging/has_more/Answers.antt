use Rattle.std.proofs.Common.{arith}
use Rattle.gcs_listing.specs.Seeking.{gone_count}
use Rattle.gcs_listing.proofs.SearchLemmas.{searches_within}
use Rattle.gcs_listing.proofs.ViewLemmas.{passed_by_gone}
use Rattle.gcs_listing.proofs.paging.has_more.Goals as goal

pub returns-clause-looks : goal.returns-clause-looks
returns-clause-looks g c =
    let view = c.args.query.now.view in
    let rows = c.args.versions.now.rows in
    searches_within 2 2 (gone_count view c.args.moment rows) _ c.in_ok-found.ensures.looks (omega (arith, passed_by_gone view c.args.moment rows c.in_ok-found.found))
