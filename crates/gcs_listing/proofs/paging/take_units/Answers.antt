use Rattle.std.proofs.Common.{◌≡◌, ◌≤◌, ◌+◌, ◌*◌, ap, sym, subst, length, arith, Some, []}
use Rattle.gcs_listing.specs.Looking.{passed_by, IsNext, IsNextUnit}
use Rattle.gcs_listing.specs.Paging.{IsPaged}
use Rattle.gcs_listing.specs.Seeking.{gone_count, listed_rows, passed_count, units_after, IsBound}
use Rattle.gcs_listing.proofs.LookLemmas.{among}
use Rattle.gcs_listing.proofs.PageLemmas.{none_taken, one_taken, paged_end, paged_full}
use Rattle.gcs_listing.proofs.SearchLemmas.{looks_within, no_searches, searches_on}
use Rattle.gcs_listing.proofs.ViewLemmas.{are_view}
use Rattle.gcs_listing.proofs.paging.take_units.Goals as goal

pub loop-init : goal.loop-init
loop-init g c =
    let q = c.args.query.now in
    let rows = c.args.versions.now.rows in
    let view = are_view q.view c.args.moment rows c.requires.known in
    let from = c.in_ok-from.from in
    record {
      taken = none_taken q (listed_rows q.view c.args.moment rows) c.args.taken.now c.in_ok-last.last c.requires.items c.requires.prefixes c.in_ok-last.ensures;
      bound = among q (listed_rows q.view c.args.moment rows) c.in_ok-last.last from view.numbers (subst (λ o. IsBound q o from) (sym c.in_ok-last.ensures) c.in_ok-from.ensures);
      looks = no_searches (length rows) c.args.steps.now 0 (passed_count q.view c.args.moment rows from) (omega arith);
      most = λ i. q.most;
    }

pub returns-in-None-clause-paged : goal.returns-in-None-clause-paged
returns-in-None-clause-paged g c =
    let q = c.args.query.now in
    let listed = listed_rows q.view c.args.moment c.args.versions.now.rows in
    let none : units_after q listed c.loop.last ≡ [] = subst (IsNext q listed c.loop.last) c.in-None.is c.in_ok-found.ensures.next in
    let few : c.loop.counter ≤ q.most = omega arith in
    paged_end q listed c.loop.taken c.loop.last c.loop.counter c.loop.invariant.taken none few

pub returns-in-None-clause-looks : goal.returns-in-None-clause-looks
returns-in-None-clause-looks g c =
    let q = c.args.query.now in
    let rows = c.args.versions.now.rows in
    let gone = gone_count q.view c.args.moment rows in
    let end : passed_by q.view c.args.moment rows c.in_ok-found.field-0 ≡ gone = ap (passed_by q.view c.args.moment rows) c.in-None.is in
    looks_within (2 * c.loop.counter + 2) (2 * (length c.loop.taken.items + length c.loop.taken.prefixes) + 3 + gone) _
    (searches_on (2 * c.loop.counter) 2 (2 * c.loop.counter + 2) c.next_unit.new.steps _ _ gone _ c.loop.invariant.looks c.in_ok-found.ensures.looks (omega (arith, end)))
    (omega (arith, c.loop.invariant.taken.shown))

pub loop-preserved : goal.loop-preserved
loop-preserved g c =
    let q = c.args.query.now in
    let rows = c.args.versions.now.rows in
    let listed = listed_rows q.view c.args.moment rows in
    let found = c.in-Some.found in
    let next : IsNextUnit q listed c.loop.last found = subst (IsNext q listed c.loop.last) c.in-Some.is c.in_ok-found.ensures.next in
    let passed : passed_by q.view c.args.moment rows c.in_ok-found.field-0 ≡ passed_by q.view c.args.moment rows (Some found) = ap (passed_by q.view c.args.moment rows) c.in-Some.is in
    record {
      taken = one_taken q listed c.loop.taken c.add.new.self c.loop.last c.loop.counter found c.loop.invariant.taken next c.in_ok-add-in-Some.ensures.items c.in_ok-add-in-Some.ensures.prefixes;
      bound = next.bound;
      looks = searches_on (2 * c.loop.counter) 2 (2 * (c.loop.counter + 1)) c.next_unit.new.steps _ _ (passed_count q.view c.args.moment rows found.bound) _ c.loop.invariant.looks c.in_ok-found.ensures.looks (omega (arith, passed));
      most = c.loop.invariant.most;
    }

pub returns-clause-paged : goal.returns-clause-paged
returns-clause-paged g c =
    let q = c.args.query.now in
    let listed = listed_rows q.view c.args.moment c.args.versions.now.rows in
    let full : c.loop.counter ≡ q.most = omega arith in
    subst (IsPaged q listed c.loop.taken) (sym c.token.ensures) (paged_full q listed c.loop.taken c.loop.last c.loop.counter c.in_ok-more.more c.loop.invariant.taken c.in_ok-more.ensures.more full)

pub returns-clause-looks : goal.returns-clause-looks
returns-clause-looks g c =
    let q = c.args.query.now in
    let gone = gone_count q.view c.args.moment c.args.versions.now.rows in
    looks_within (2 * c.loop.counter + 2) (2 * (length c.loop.taken.items + length c.loop.taken.prefixes) + 3 + gone) _
    (searches_on (2 * c.loop.counter) 2 (2 * c.loop.counter + 2) c.has_more.new.steps _ _ gone _ c.loop.invariant.looks c.in_ok-more.ensures.looks (omega arith))
    (omega (arith, c.loop.invariant.taken.shown))
