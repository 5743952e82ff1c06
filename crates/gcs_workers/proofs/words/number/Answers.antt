use Rattle.std.proofs.Common.{◌≡◌, ◌<◌, ◌^◌, ◌∙◌, sym, rules, arith, true, false}
use Rattle.std.proofs.lemmas.Fmt.{parse-decimal}
use Rattle.gcs_workers.proofs.words.number.Goals as goal

-- a number in the range that the word writes is the one that was read
pub returns-in_default-clause-bad : goal.returns-in_default-clause-bad
returns-in_default-clause-bad c _ n p =
    let fits : n < 2 ^ 32 = omega (arith, c.ranges.most.fits, p.2) in
    let read = parse-decimal 32 n _ _ fits (omega (arith, fits)) p.0 c.parse.ensures.value.0 in
    let same : c.in-Ok.n ≡ n = cc in
    let text : c.format.result.now ≡ c.args.word.now = cc in
    let yes : c.eq.result ≡ true = search rules in
    let no : true ≡ false = sym yes ∙ c.if-eq.false in
    cc

pub returns-in_default-2-clause-bad : goal.returns-in_default-2-clause-bad
returns-in_default-2-clause-bad c _ n p =
    let fits : n < 2 ^ 32 = omega (arith, c.ranges.most.fits, p.2) in
    let read = parse-decimal 32 n _ _ fits (omega (arith, fits)) p.0 c.parse.ensures.value.0 in
    let same : c.in-Ok.n ≡ n = cc in
    omega (arith, same, p.2, c.if-n-most.false)

pub returns-in_default-3-clause-bad : goal.returns-in_default-3-clause-bad
returns-in_default-3-clause-bad c _ n p =
    let fits : n < 2 ^ 32 = omega (arith, c.ranges.most.fits, p.2) in
    let read = parse-decimal 32 n _ _ fits (omega (arith, fits)) p.0 c.parse.ensures.value.0 in
    let same : c.in-Ok.n ≡ n = cc in
    omega (arith, same, p.1, c.if-n-ge1.false)

pub returns-in_default-4-clause-bad : goal.returns-in_default-4-clause-bad
returns-in_default-4-clause-bad c _ n p =
    let fits : n < 2 ^ 32 = omega (arith, c.ranges.most.fits, p.2) in
    let read = parse-decimal 32 n _ _ fits (omega (arith, fits)) p.0 c.parse.ensures.value.0 in
    cc
