use Rattle.std.proofs.Common.{rules, ◌≡◌, map, Err, Some}
use Rattle.std.proofs.lemmas.Result.{IfOk-weaker}
use Rattle.gcs_route.specs.declared.fault.RouteFault.TheVariants.{NoMemory}
use Rattle.gcs_route.specs.Table.{route_of, routes}
use Rattle.gcs_route.specs.Paths.{segments, path_of, query_of}
use Rattle.gcs_route.specs.Finding.{find_row}
use Rattle.gcs_route.proofs.OfTable.{of_table}
use Rattle.gcs_route.proofs.Rows.{is_call, no_memory}
use Rattle.gcs_route.proofs.routing.route.Goals as goal

-- no memory for the segments
pub returns-in_err-segments-clause-fault : goal.returns-in_err-segments-clause-fault
returns-in_err-segments-clause-fault c =
    let e : c.from_residual.result ≡ Err NoMemory = search rules in
    rw e (no_memory (find_row routes c.args.method.now (segments (path_of c.args.target.now))) (segments (path_of c.args.target.now)) (query_of c.args.target.now))

pub returns-clause-call : goal.returns-clause-call
returns-clause-call c =
    let s : map (λ x. x.now) c.deref-2.result.now ≡ segments (path_of c.args.target.now) = search rules in
    let f : find_row routes c.args.method.now (map (λ x. x.now) c.deref-2.result.now) ≡ Some (route_of c.in-Some.route.now) = search rules in
    IfOk-weaker c.read_call.result _ _
    (λ call h. is_call c.args.method.now c.args.target.now (route_of c.in-Some.route.now) (map (λ x. x.now) c.deref-2.result.now) c.query_of.result.now call s c.query_of.ensures f h)
    c.read_call.ensures.call

pub returns-clause-fits : goal.returns-clause-fits
returns-clause-fits c =
    let s : map (λ x. x.now) c.deref-2.result.now ≡ segments (path_of c.args.target.now) = search rules in
    let f : find_row routes c.args.method.now (map (λ x. x.now) c.deref-2.result.now) ≡ Some (route_of c.in-Some.route.now) = search rules in
    IfOk-weaker c.read_call.result _ _
    (λ call h. of_table c.args.method.now c.args.target.now call (is_call c.args.method.now c.args.target.now (route_of c.in-Some.route.now) (map (λ x. x.now) c.deref-2.result.now) c.query_of.result.now call s c.query_of.ensures f h))
    c.read_call.ensures.call
