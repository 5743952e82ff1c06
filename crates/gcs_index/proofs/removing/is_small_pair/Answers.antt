use Rattle.std.proofs.Common.{◌≡◌, ◌+◌, suc, ap, arith, length}
use Rattle.std.specs.Vec.{vec_len}
use Rattle.std.proofs.lemmas.Bool.{leb-true, leb-false}
use Rattle.gcs_index.specs.declared.blocks.Block.{Block}
use Rattle.gcs_index.specs.Blocks.{entries_at}
use Rattle.gcs_index.proofs.EditLemmas.{at_is}
use Rattle.gcs_index.proofs.removing.is_small_pair.Given as given
use Rattle.gcs_index.proofs.removing.is_small_pair.Goals as goal

-- both lengths, as the code reads them
sizes : (g : given.Over) (c : goal.After-len-then-right-blocks g) → c.len.result + c.len-then-right-blocks.result ≡ length (entries_at c.args.left c.args.blocks.now) + length (entries_at (suc c.args.left) c.args.blocks.now)
sizes g c =
    let bs = c.args.blocks.now in
    let k = c.args.left in
    let a = c.index-blocks-left.result in
    let b = c.index-blocks-right.result in
    let left = at_is bs k a c.requires.within c.index-blocks-left.is in
    let right = at_is bs (k + 1) b c.if-right-blocks.true c.index-blocks-right.is in
    let next = ap (λ n. length (entries_at n bs)) {x = k + 1} {y = suc k} (omega arith) in
    let first = ap (λ (x : Block g.row.K.Denot g.row.V.Denot). vec_len x.entries) c.index-blocks-left.is in
    let second = ap (λ (x : Block g.row.K.Denot g.row.V.Denot). vec_len x.entries) c.index-blocks-right.is in
    omega (arith, c.len.ensures, c.len-then-right-blocks.ensures, ap length left, ap length right, next, first, second, a.entries.ok.0, b.entries.ok.0)

pub returns-then-right-blocks-clause-few : goal.returns-then-right-blocks-clause-few
returns-then-right-blocks-clause-few g c h = omega (arith, leb-true _ _ h, sizes g c)

pub returns-then-right-blocks-clause-many : goal.returns-then-right-blocks-clause-many
returns-then-right-blocks-clause-many g c h within = omega (arith, leb-false _ _ h, sizes g c)
