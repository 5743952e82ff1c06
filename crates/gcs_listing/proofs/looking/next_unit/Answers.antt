use Rattle.std.proofs.Common.{◌≡◌, ap, arith}
use Rattle.gcs_listing.specs.Looking.{passed_in}
use Rattle.gcs_listing.specs.Seeking.{gone_count, passed_count}
use Rattle.gcs_listing.proofs.SearchLemmas.{searches_on, searches_within}
use Rattle.gcs_listing.proofs.looking.next_unit.Goals as goal

pub returns-in-End-clause-looks : goal.returns-in-End-clause-looks
returns-in-End-clause-looks g c =
    let view = c.args.query.now.view in
    let rows = c.args.versions.now.rows in
    let at : passed_in view c.args.moment rows c.in_ok-look_from.field-0 ≡ gone_count view c.args.moment rows = ap (passed_in view c.args.moment rows) c.in-End.is in
    searches_within 1 2 (gone_count view c.args.moment rows) _ c.in_ok-look_from.ensures.looks (omega (arith, at))

pub returns-in-Next-clause-looks : goal.returns-in-Next-clause-looks
returns-in-Next-clause-looks g c =
    let view = c.args.query.now.view in
    let rows = c.args.versions.now.rows in
    let bound = c.in-Next.found.bound in
    let at : passed_in view c.args.moment rows c.in_ok-look_from.field-0 ≡ passed_count view c.args.moment rows bound = ap (passed_in view c.args.moment rows) c.in-Next.is in
    searches_within 1 2 (passed_count view c.args.moment rows bound) _ c.in_ok-look_from.ensures.looks (omega (arith, at))

pub returns-in-End-2-clause-looks : goal.returns-in-End-2-clause-looks
returns-in-End-2-clause-looks g c =
    let view = c.args.query.now.view in
    let rows = c.args.versions.now.rows in
    let at : passed_in view c.args.moment rows c.in_ok-look_from.field-0 ≡ passed_count view c.args.moment rows c.in-Past.past = ap (passed_in view c.args.moment rows) c.in-Past.is in
    let end : passed_in view c.args.moment rows c.in_ok-look_from-in-Past.field-0 ≡ gone_count view c.args.moment rows = ap (passed_in view c.args.moment rows) c.in-End-2.is in
    searches_on 1 1 2 c.look_from-in-Past.new.steps _ _ (gone_count view c.args.moment rows) _ c.in_ok-look_from.ensures.looks c.in_ok-look_from-in-Past.ensures.looks (omega (arith, at, end))

pub returns-in-Next-2-clause-looks : goal.returns-in-Next-2-clause-looks
returns-in-Next-2-clause-looks g c =
    let view = c.args.query.now.view in
    let rows = c.args.versions.now.rows in
    let bound = c.in-Next-2.found.bound in
    let at : passed_in view c.args.moment rows c.in_ok-look_from.field-0 ≡ passed_count view c.args.moment rows c.in-Past.past = ap (passed_in view c.args.moment rows) c.in-Past.is in
    let end : passed_in view c.args.moment rows c.in_ok-look_from-in-Past.field-0 ≡ passed_count view c.args.moment rows bound = ap (passed_in view c.args.moment rows) c.in-Next-2.is in
    searches_on 1 1 2 c.look_from-in-Past.new.steps _ _ (passed_count view c.args.moment rows bound) _ c.in_ok-look_from.ensures.looks c.in_ok-look_from-in-Past.ensures.looks (omega (arith, at, end))
