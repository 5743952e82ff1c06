use Rattle.std.proofs.Common.{◌≡◌, ◌++◌, ◌∙◌, ap, sym, arith, length}
use Rattle.std.proofs.lemmas.List.{drop_all}
use Rattle.gcs_store.specs.Shard.{all_shown}
use Rattle.gcs_store.proofs.Listed.{enough, whole}
use Rattle.gcs_store.proofs.bucket_lists.list_slots.Goals as goal

pub returns-then-len-most : goal.returns-then-len-most
returns-then-len-most c =
    let count : length c.loop-name.rows.items ≡ c.args.most = omega (arith, c.loop-name.invariant.few, c.if-len-most.true, c.len.ensures, c.loop-name.rows.ok.0) in
    enough c.args.prefix.now c.args.after.now c.args.most c.args.slots.now c.listed_slots-listed.result.now c.loop-name.rows.items _ c.listed_slots-listed.ensures
    c.loop-name.invariant.all count

pub returns : goal.returns
returns c =
    whole c.args.prefix.now c.args.after.now c.args.most c.args.slots.now c.listed_slots-listed.result.now c.loop-name.rows.items c.listed_slots-listed.ensures
    (ap (λ slots. c.loop-name.rows.items ++ all_shown slots) (sym (drop_all c.loop-name.name-index c.listed_slots-listed.result.now c.loop-name-test.false)) ∙ c.loop-name.invariant.all)
    c.loop-name.invariant.few
