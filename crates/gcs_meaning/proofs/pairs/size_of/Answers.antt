use Rattle.std.proofs.Common.{◌≡◌, drop, ap, arith}
use Rattle.std.proofs.lemmas.List.{drop_all}
use Rattle.gcs_meaning.specs.Pairs.{pairs_size}
use Rattle.gcs_meaning.proofs.pairs.size_of.Goals as goal

pub returns : goal.returns
returns c =
    let done : pairs_size (drop c.loop-key.key-index c.args.entries.now) ≡ 0 = ap pairs_size (drop_all _ _ c.loop-key-test.false) in
    omega (arith, done, c.loop-key.invariant.size, c.loop-key.invariant.within)
