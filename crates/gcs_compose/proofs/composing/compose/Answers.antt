use Rattle.std.proofs.Common.{◌≡◌, ◌≤◌, ◌<◌, ◌+◌, ◌∙◌, sym, ap, ap₂, arith, List, length, drop, get_or}
use Rattle.gcs_chunks.specs.Content.{bytes_of}
use Rattle.gcs_chunks.proofs.Words.{bytes_of-no_content}
use Rattle.gcs_index.specs.Looks.{fewer_searches}
use Rattle.gcs_meaning.specs.declared.version.Part.{Part}
use Rattle.gcs_meaning.specs.Compose.{composed, composed_from}
use Rattle.gcs_meaning.specs.Content.{bytes_in}
use Rattle.gcs_meaning.specs.Tests.{largest_object}
use Rattle.gcs_meaning.proofs.Chosen.{all-chosen}
use Rattle.gcs_compose.proofs.Sources.{joined_length, one_more_search, source_joined, source_missing, source_refused}
use Rattle.gcs_compose.proofs.composing.compose.Goals as goal

pub loop-i-init : goal.loop-i-init
unfolding composed
loop-i-init g c = record {
  rest = ap (λ content. composed_from c.args.versions.now.rows 0 content 0 c.args.sources.now) (sym c.none.ensures.content);
  size = omega (arith, ap length (ap bytes_of c.none.ensures.content ∙ bytes_of-no_content));
  count = omega arith;
  md5 = c.none.ensures.md5;
  looks = λ s next. omega arith;
}

pub returns-in_default-clause-refused : goal.returns-in_default-clause-refused
returns-in_default-clause-refused g c =
    let within : c.loop-i.i < length c.args.sources.now = omega (arith, c.loop-i-test.true, ap length c.as_slice-source-items.ensures) in
    let there : c.source-item.result ≡ get_or c.args.sources.now c.loop-i.i c.source-item.result =
    c.source-item.is ∙ ap (λ (parts : List Part). get_or parts c.loop-i.i c.source-item.result) c.as_slice-source-items.ensures in
    c.loop-i.invariant.rest
    ∙ source_missing c.args.versions.now.rows c.loop-i.i c.loop-i.joined.hashed.content c.loop-i.joined.count c.args.sources.now c.source-item.result within there
    (sym c.in_default.ensures.found)

pub returns-in_default-clause-looks : goal.returns-in_default-clause-looks
returns-in_default-clause-looks g c =
    let within : c.loop-i.i < length c.args.sources.now = omega (arith, c.loop-i-test.true, ap length c.as_slice-source-items.ensures) in
    one_more_search c.loop-i.i (length c.args.sources.now) (length c.args.versions.now.rows) c.args.steps.now c.loop-i.steps c.chosen.new.steps within c.loop-i.invariant.looks
    c.in_default.ensures.looks

pub returns-in-Some-other_generation-clause-refused : goal.returns-in-Some-other_generation-clause-refused
returns-in-Some-other_generation-clause-refused g c =
    let within : c.loop-i.i < length c.args.sources.now = omega (arith, c.loop-i-test.true, ap length c.as_slice-source-items.ensures) in
    let there : c.source-item.result ≡ get_or c.args.sources.now c.loop-i.i c.source-item.result =
    c.source-item.is ∙ ap (λ (parts : List Part). get_or parts c.loop-i.i c.source-item.result) c.as_slice-source-items.ensures in
    c.loop-i.invariant.rest
    ∙ source_refused c.args.versions.now.rows c.loop-i.i c.loop-i.joined.hashed.content c.loop-i.joined.count c.args.sources.now c.source-item.result c.in-Some.row.now
    c.in-Some-other_generation.reason within there (sym c.in-Some.ensures.found) (sym c.in-Some-other_generation.ensures)

pub returns-in-Some-other_generation-clause-looks : goal.returns-in-Some-other_generation-clause-looks
returns-in-Some-other_generation-clause-looks g c =
    let within : c.loop-i.i < length c.args.sources.now = omega (arith, c.loop-i-test.true, ap length c.as_slice-source-items.ensures) in
    one_more_search c.loop-i.i (length c.args.sources.now) (length c.args.versions.now.rows) c.args.steps.now c.loop-i.steps c.chosen.new.steps within c.loop-i.invariant.looks
    c.in-Some.ensures.looks

pub add-requires-clause-size : goal.add-requires-clause-size
add-requires-clause-size g c =
    let within : c.loop-i.i < length c.args.sources.now = omega (arith, c.loop-i-test.true, ap length c.as_slice-source-items.ensures) in
    let small : length (bytes_in c.in-Some.row.now.hashed) ≤ largest_object =
    all-chosen (λ row. length (bytes_in row.hashed) ≤ largest_object) c.source-item.result.name c.source-item.result.generation c.in-Some.row.now c.args.versions.now.rows
    (sym c.in-Some.ensures.found) c.requires.sizes in
    omega (arith, within, small, c.loop-i.invariant.size, c.requires.few)

pub loop-i-preserved : goal.loop-i-preserved
loop-i-preserved g c =
    let within : c.loop-i.i < length c.args.sources.now = omega (arith, c.loop-i-test.true, ap length c.as_slice-source-items.ensures) in
    let there : c.source-item.result ≡ get_or c.args.sources.now c.loop-i.i c.source-item.result =
    c.source-item.is ∙ ap (λ (parts : List Part). get_or parts c.loop-i.i c.source-item.result) c.as_slice-source-items.ensures in
    let small : length (bytes_in c.in-Some.row.now.hashed) ≤ largest_object =
    all-chosen (λ row. length (bytes_in row.hashed) ≤ largest_object) c.source-item.result.name c.source-item.result.generation c.in-Some.row.now c.args.versions.now.rows
    (sym c.in-Some.ensures.found) c.requires.sizes in
    let longer = ap (λ content. length (bytes_of content)) c.in_ok-add.ensures.content ∙ joined_length c.loop-i.joined.hashed.content c.in-Some.row.now.hashed.content in
    record {
      rest =
          c.loop-i.invariant.rest
          ∙ source_joined c.args.versions.now.rows c.loop-i.i c.loop-i.joined.hashed.content c.loop-i.joined.count c.args.sources.now c.source-item.result c.in-Some.row.now
          within there (sym c.in-Some.ensures.found) (sym c.in_default-other_generation.ensures)
          ∙ ap₂ (λ content count. composed_from c.args.versions.now.rows (c.loop-i.i + 1) content count (drop (c.loop-i.i + 1) c.args.sources.now))
          (sym c.in_ok-add.ensures.content) (sym c.in_ok-add.ensures.count);
      size = omega (arith, longer, small, c.loop-i.invariant.size);
      count = omega (arith, c.in_ok-add.ensures.below, c.loop-i.invariant.count);
      md5 = c.in_ok-add.ensures.md5;
      looks =
          one_more_search c.loop-i.i (c.loop-i.i + 1) (length c.args.versions.now.rows) c.args.steps.now c.loop-i.steps c.chosen.new.steps (omega arith) c.loop-i.invariant.looks
          c.in-Some.ensures.looks;
    }

pub returns-in_err-add-clause-looks : goal.returns-in_err-add-clause-looks
returns-in_err-add-clause-looks g c =
    let within : c.loop-i.i < length c.args.sources.now = omega (arith, c.loop-i-test.true, ap length c.as_slice-source-items.ensures) in
    one_more_search c.loop-i.i (length c.args.sources.now) (length c.args.versions.now.rows) c.args.steps.now c.loop-i.steps c.chosen.new.steps within c.loop-i.invariant.looks
    c.in-Some.ensures.looks

pub returns-clause-looks : goal.returns-clause-looks
returns-clause-looks g c =
    let few : c.loop-i.i ≤ length c.args.sources.now = omega (arith, ap length c.as_slice-source-items.ensures) in
    fewer_searches c.loop-i.i (length c.args.sources.now) (length c.args.versions.now.rows) c.args.steps.now c.loop-i.steps few c.loop-i.invariant.looks
