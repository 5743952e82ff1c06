use Rattle.std.proofs.Common.{◌≡◌, ◌≤◌, ◌+◌, ◌∙◌, sym, subst, refl, length, arith, Some, None}
use Rattle.std.specs.Prelude.{false}
use Rattle.std.specs.List.{find}
use Rattle.gcs_meaning.specs.declared.listing.View.TheVariants.{Versions}
use Rattle.gcs_meaning.specs.Aging.{kind_stays}
use Rattle.gcs_meaning.specs.Order.{is_at_least, place_of, shown_rows, unit_at}
use Rattle.gcs_listing.specs.Seeking.{gone_count, listed_rows, passed_count, IsAfterBound}
use Rattle.gcs_listing.proofs.PassLemmas.{passed_gone}
use Rattle.gcs_listing.proofs.SearchLemmas.{no_searches, one_search_on}
use Rattle.gcs_listing.proofs.ViewLemmas.{listed_found, listed_none, listed_on, passed_found, passed_on, sought}
use Rattle.gcs_listing.proofs.seeking.first_listed.Goals as goal

pub loop-row-init : goal.loop-row-init
loop-row-init g c =
    let rows = c.args.versions.now.rows in
    let passed = passed_count c.args.view c.args.moment rows c.args.bound in
    record {
      same = refl {a = find (is_at_least c.args.bound) (listed_rows c.args.view c.args.moment rows)};
      looks = no_searches (length rows) c.args.steps.now passed passed (omega arith);
    }

pub returns-in_default-clause-found : goal.returns-in_default-clause-found
returns-in_default-clause-found g c =
    let rows = c.args.versions.now.rows in
    let from = c.loop-row.from in
    let none : find (is_at_least from) (shown_rows c.args.view rows) ≡ None =
    sought c.args.view rows from c.text.result.now c.number.result c.text.ensures c.number.ensures ∙ sym c.in_default.ensures.found in
    sym (listed_none c.args.view c.args.moment rows from none) ∙ c.loop-row.invariant.same

pub returns-in_default-clause-looks : goal.returns-in_default-clause-looks
returns-in_default-clause-looks g c =
    let rows = c.args.versions.now.rows in
    one_search_on 0 1 c.seek.new.steps (gone_count c.args.view c.args.moment rows) _ c.loop-row.invariant.looks c.in_default.ensures.looks
    (omega (arith, passed_gone c.args.view c.args.moment rows c.loop-row.from))

pub returns-then-stays-clause-found : goal.returns-then-stays-clause-found
returns-then-stays-clause-found g c =
    let rows = c.args.versions.now.rows in
    let from = c.loop-row.from in
    let row = c.in-Some.row.now in
    let found : find (is_at_least from) (shown_rows c.args.view rows) ≡ Some row =
    sought c.args.view rows from c.text.result.now c.number.result c.text.ensures c.number.ensures ∙ sym c.in-Some.ensures.found in
    sym (listed_found c.args.view c.args.moment rows from row found (sym c.stays.ensures ∙ c.if-stays.true)) ∙ c.loop-row.invariant.same

pub returns-then-stays-clause-looks : goal.returns-then-stays-clause-looks
returns-then-stays-clause-looks g c =
    let rows = c.args.versions.now.rows in
    let from = c.loop-row.from in
    let row = c.in-Some.row.now in
    let found : find (is_at_least from) (shown_rows c.args.view rows) ≡ Some row =
    sought c.args.view rows from c.text.result.now c.number.result c.text.ensures c.number.ensures ∙ sym c.in-Some.ensures.found in
    one_search_on 0 1 c.seek.new.steps (passed_count c.args.view c.args.moment rows (place_of row)) _ c.loop-row.invariant.looks c.in-Some.ensures.looks
    (omega (arith, passed_found c.args.view c.args.moment rows from row found))

pub loop-row-smaller : goal.loop-row-smaller
loop-row-smaller g c =
    let rows = c.args.versions.now.rows in
    let from = c.loop-row.from in
    let row = c.in-Some.row.now in
    let next = c.in_ok-from.from in
    let found : find (is_at_least from) (shown_rows c.args.view rows) ≡ Some row =
    sought c.args.view rows from c.text.result.now c.number.result c.text.ensures c.number.ensures ∙ sym c.in-Some.ensures.found in
    let gone : kind_stays c.args.moment row.kind ≡ false = sym c.stays.ensures ∙ c.if-stays.false in
    let after : IsAfterBound Versions (place_of row) next = subst (λ t. IsAfterBound Versions (unit_at t row.generation) next) c.as_bytes.ensures c.in_ok-from.ensures in
    let more : passed_count c.args.view c.args.moment rows from + 1 ≤ passed_count c.args.view c.args.moment rows next = passed_on c.args.view c.args.moment rows from next row found gone after in
    omega (arith, more, passed_gone c.args.view c.args.moment rows next)

pub loop-row-preserved : goal.loop-row-preserved
loop-row-preserved g c =
    let rows = c.args.versions.now.rows in
    let from = c.loop-row.from in
    let row = c.in-Some.row.now in
    let next = c.in_ok-from.from in
    let found : find (is_at_least from) (shown_rows c.args.view rows) ≡ Some row =
    sought c.args.view rows from c.text.result.now c.number.result c.text.ensures c.number.ensures ∙ sym c.in-Some.ensures.found in
    let gone : kind_stays c.args.moment row.kind ≡ false = sym c.stays.ensures ∙ c.if-stays.false in
    let after : IsAfterBound Versions (place_of row) next = subst (λ t. IsAfterBound Versions (unit_at t row.generation) next) c.as_bytes.ensures c.in_ok-from.ensures in
    let more : passed_count c.args.view c.args.moment rows from + 1 ≤ passed_count c.args.view c.args.moment rows next = passed_on c.args.view c.args.moment rows from next row found gone after in
    record {
      same = listed_on c.args.view c.args.moment rows from next row c.requires.known found gone after ∙ c.loop-row.invariant.same;
      looks = one_search_on 0 0 c.seek.new.steps (passed_count c.args.view c.args.moment rows next) _ c.loop-row.invariant.looks c.in-Some.ensures.looks (omega (arith, more));
    }
