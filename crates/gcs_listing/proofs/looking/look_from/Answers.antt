use Rattle.std.proofs.Common.{◌≡◌, ◌∙◌, ap, sym, arith, Some, None}
use Rattle.std.specs.List.{find}
use Rattle.std.specs.Option.{option_copied}
use Rattle.std.proofs.lemmas.Result.{IfOk-weaker}
use Rattle.gcs_meaning.specs.Order.{is_at_least, place_of}
use Rattle.gcs_listing.specs.Looking.{passed_at, passed_in}
use Rattle.gcs_listing.specs.Seeking.{gone_count, listed_rows}
use Rattle.gcs_listing.proofs.LookLemmas.{look_none, look_out, looked}
use Rattle.gcs_listing.proofs.PassLemmas.{look_passed, passed_gone}
use Rattle.gcs_listing.proofs.SearchLemmas.{searches_within}
use Rattle.gcs_listing.proofs.ViewLemmas.{are_view}
use Rattle.gcs_listing.proofs.looking.look_from.Goals as goal

pub returns-then-is_kept-clause-looked : goal.returns-then-is_kept-clause-looked
returns-then-is_kept-clause-looked g c =
    let q = c.args.query.now in
    let listed = listed_rows q.view c.args.moment c.args.versions.now.rows in
    let row = c.in-Some.row.now in
    let found : find (is_at_least c.args.from) listed ≡ Some row = sym c.in_ok-row.ensures.found ∙ ap option_copied c.in-Some.is in
    IfOk-weaker c.look_at.result _ _
    (λ look is. looked q listed (are_view q.view c.args.moment c.args.versions.now.rows c.requires.known) c.args.last.now c.args.from c.requires.from row found (sym c.is_kept.ensures ∙ c.if-is_kept.true) look is)
    c.look_at.ensures

pub returns-then-is_kept-clause-looks : goal.returns-then-is_kept-clause-looks
returns-then-is_kept-clause-looks g c =
    let q = c.args.query.now in
    let rows = c.args.versions.now.rows in
    let row = c.in-Some.row.now in
    let at : passed_at q.view c.args.moment rows (option_copied c.in_ok-row.field-0) ≡ passed_at q.view c.args.moment rows (Some row) =
    ap (λ o. passed_at q.view c.args.moment rows (option_copied o)) c.in-Some.is in
    IfOk-weaker c.look_at.result _ _
    (λ look is.
    let moved = look_passed q.view c.args.moment rows q c.args.last.now row (sym c.is_kept.ensures ∙ c.if-is_kept.true) look is in
    searches_within 1 1 (passed_in q.view c.args.moment rows look) _ c.in_ok-row.ensures.looks (omega (arith, moved, at))) c.look_at.ensures

pub returns-else-is_kept-clause-looked : goal.returns-else-is_kept-clause-looked
returns-else-is_kept-clause-looked g c =
    let q = c.args.query.now in
    let listed = listed_rows q.view c.args.moment c.args.versions.now.rows in
    let row = c.in-Some.row.now in
    let found : find (is_at_least c.args.from) listed ≡ Some row = sym c.in_ok-row.ensures.found ∙ ap option_copied c.in-Some.is in
    look_out q listed (are_view q.view c.args.moment c.args.versions.now.rows c.requires.known) c.args.last.now c.args.from c.requires.from row found (sym c.is_kept.ensures ∙ c.if-is_kept.false)

pub returns-else-is_kept-clause-looks : goal.returns-else-is_kept-clause-looks
returns-else-is_kept-clause-looks g c =
    let q = c.args.query.now in
    let rows = c.args.versions.now.rows in
    let row = c.in-Some.row.now in
    let at : passed_at q.view c.args.moment rows (option_copied c.in_ok-row.field-0) ≡ passed_at q.view c.args.moment rows (Some row) =
    ap (λ o. passed_at q.view c.args.moment rows (option_copied o)) c.in-Some.is in
    searches_within 1 1 (gone_count q.view c.args.moment rows) _ c.in_ok-row.ensures.looks (omega (arith, at, passed_gone q.view c.args.moment rows (place_of row)))

pub returns-in-None-clause-looked : goal.returns-in-None-clause-looked
returns-in-None-clause-looked g c =
    let q = c.args.query.now in
    let listed = listed_rows q.view c.args.moment c.args.versions.now.rows in
    let none : find (is_at_least c.args.from) listed ≡ None = sym c.in_ok-row.ensures.found ∙ ap option_copied c.in-None.is in
    look_none q listed (are_view q.view c.args.moment c.args.versions.now.rows c.requires.known) c.args.last.now c.args.from c.requires.from none

pub returns-in-None-clause-looks : goal.returns-in-None-clause-looks
returns-in-None-clause-looks g c =
    let q = c.args.query.now in
    let rows = c.args.versions.now.rows in
    let at : passed_at q.view c.args.moment rows (option_copied c.in_ok-row.field-0) ≡ gone_count q.view c.args.moment rows =
    ap (λ o. passed_at q.view c.args.moment rows (option_copied o)) c.in-None.is in
    searches_within 1 1 (gone_count q.view c.args.moment rows) _ c.in_ok-row.ensures.looks (omega (arith, at))
