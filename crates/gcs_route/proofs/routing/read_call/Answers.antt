use Rattle.std.proofs.Common.{rules, ◌≡◌, map, refl, sym, subst, codes, Err}
use Rattle.gcs_query.specs.Query.{pairs_of}
use Rattle.gcs_route.specs.Calls.{blank}
use Rattle.gcs_route.specs.Kinds.{row_of}
use Rattle.gcs_route.specs.Pieces.{row_by}
use Rattle.gcs_route.specs.Refusals.{name_tests, names_at, tests, IsAlwaysFirstFault, IsFirstFault}
use Rattle.gcs_route.specs.Table.{route_of}
use Rattle.gcs_route.proofs.Rows.{same_path, by_query, names_by, named_by, call_by_query, refused_name, refused_query, refused_param, refused_mask, is_call_of}
use Rattle.gcs_route.proofs.routing.read_call.Goals as goal

-- the names are refused
pub returns-in_err-read_names-clause-fault : goal.returns-in_err-read_names-clause-fault
returns-in_err-read_names-clause-fault c =
    let e : c.from_residual.result ≡ Err c.in_err-read_names.field-0.0 = search rules in
    let row = route_of c.args.route.now in
    let text = c.args.query.now in
    let segs = map (λ s. s.now) c.args.segments.now in
    rw e (refused_name (row_by (pairs_of text) row) segs text _
    (subst (λ path. IsAlwaysFirstFault (name_tests path segs) c.in_err-read_names.field-0.0) (sym (same_path (pairs_of text) row)) c.in_err-read_names.ensures.wrong))

-- the query is refused
pub returns-in_err-query-clause-fault : goal.returns-in_err-query-clause-fault
returns-in_err-query-clause-fault c =
    let e : c.from_residual-in_err-query.result ≡ Err c.in_err-query.field-0.0 = search rules in
    let row = route_of c.args.route.now in
    let text = c.args.query.now in
    let segs = map (λ s. s.now) c.args.segments.now in
    let names = names_by row (row_by (pairs_of text) row) segs (pairs_of text) refl c.in_ok-read_names.ensures.right in
    rw e (refused_query (row_by (pairs_of text) row) segs text _ names c.in_err-query.ensures.wrong)

-- a parameter is refused
pub returns-in_err-read_params-clause-fault : goal.returns-in_err-read_params-clause-fault
returns-in_err-read_params-clause-fault c =
    let e : c.from_residual-in_err-read_params.result ≡ Err c.in_err-read_params.field-0.0 = search rules in
    let row = route_of c.args.route.now in
    let by = route_of c.route_by-route.result in
    let text = c.args.query.now in
    let segs = map (λ s. s.now) c.args.segments.now in
    let query = c.in_ok-query.ensures in
    let is = by_query row by text _ query.pairs c.route_by-route.ensures in
    let names = names_by row by segs (pairs_of text) is c.in_ok-read_names.ensures.right in
    rw e (subst (λ x. IsFirstFault text (tests x segs) c.in_err-read_params.field-0.0) is
    (refused_param by segs text _ _ query.pairs names query.right c.in_err-read_params.ensures.wrong))

-- the mask is refused
pub returns-in_err-call-clause-fault : goal.returns-in_err-call-clause-fault
returns-in_err-call-clause-fault c =
    let e : c.from_residual-in_err-call.result ≡ Err c.in_err-call.field-0.0 = search rules in
    let row = route_of c.args.route.now in
    let by = route_of c.route_by-route.result in
    let text = c.args.query.now in
    let segs = map (λ s. s.now) c.args.segments.now in
    let query = c.in_ok-query.ensures in
    let is = by_query row by text _ query.pairs c.route_by-route.ensures in
    let names = names_by row by segs (pairs_of text) is c.in_ok-read_names.ensures.right in
    rw e (subst (λ x. IsFirstFault text (tests x segs) c.in_err-call.field-0.0) is
    (refused_mask by segs text _ _ query.pairs names query.right c.in_ok-read_params.ensures.right c.in_err-call.ensures.wrong))

pub returns-clause-call : goal.returns-clause-call
returns-clause-call c =
    let row = route_of c.args.route.now in
    let by = route_of c.route_by-route.result in
    let text = c.args.query.now in
    let segs = map (λ s. s.now) c.args.segments.now in
    let query = c.in_ok-query.ensures in
    let is = by_query row by text _ query.pairs c.route_by-route.ensures in
    let names = names_by row by segs (pairs_of text) is c.in_ok-read_names.ensures.right in
    let start : c.blank-call.result ≡ blank (row_of by.kind) (names_at (codes "{bucket}") row.path segs) (names_at (codes "{object}") row.path segs) = search rules in
    call_by_query row by segs text _ is
    (is_call_of by segs text _ _ _ _ query.pairs (named_by row by segs (pairs_of text) _ is start) names query.right
    c.in_ok-read_params.ensures.right c.in_ok-read_params.ensures.value c.in_ok-call.ensures.value)
