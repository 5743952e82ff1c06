use Rattle.std.proofs.Common.{◌≤◌, sym, subst, arith, length, IsUtf8, Some, None}
use Rattle.std.specs.Str.Pattern.{FindsText}
use Rattle.std.proofs.lemmas.Bool.{eqb-false}
use Rattle.std.proofs.lemmas.Str.{IsCharBoundary-from_take}
use Rattle.gcs_listing.proofs.CutLemmas.{begins_length, begins_take, fold_found, fold_lacks}
use Rattle.gcs_listing.proofs.folding.fold.Goals as goal

pub range_from-rest-requires : goal.range_from-rest-requires
range_from-rest-requires c =
    let prefix = c.args.prefix.now in
    let name = c.args.name.now in
    λ _. IsCharBoundary-from_take name (length prefix) c.utf8.name (begins_length prefix name c.requires.kept) (subst IsUtf8 (sym (begins_take prefix name c.requires.kept)) c.utf8.prefix)

pub returns-in-Some : goal.returns-in-Some
returns-in-Some c =
    let prefix = c.args.prefix.now in
    let delimiter = c.args.delimiter.now in
    let name = c.args.name.now in
    let apart = eqb-false (length delimiter) 0 (sym c.if-is_empty.ensures) in
    let some : 1 ≤ length delimiter = omega arith in
    fold_found prefix delimiter name c.range.result.now c.in-Some.at c.in-Some.ensures.cases.0 some c.requires.kept
    (subst (λ s. FindsText delimiter s (Some (c.in-Some.at, c.in-Some.ensures.cases.0))) c.range_from-rest.ensures.value c.in-Some.ensures.cases.1) c.range.ensures.value

pub returns-in-None : goal.returns-in-None
returns-in-None c =
    let delimiter = c.args.delimiter.now in
    let apart = eqb-false (length delimiter) 0 (sym c.if-is_empty.ensures) in
    let some : 1 ≤ length delimiter = omega arith in
    fold_lacks c.args.prefix.now delimiter c.args.name.now some (subst (λ s. FindsText delimiter s None) c.range_from-rest.ensures.value c.in-None.ensures.cases)
