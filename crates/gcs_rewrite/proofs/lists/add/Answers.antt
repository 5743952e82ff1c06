use Rattle.std.proofs.Common.{◌≡◌, ◌∙◌, ℕ, ◌-◌, List, suc, insert, take, ap₂, arith, subst, sym}
use Rattle.gcs_meaning.specs.declared.version.BucketRow.{BucketRow}
use Rattle.gcs_rewrite.specs.Lists.{with_listed}
use Rattle.gcs_rewrite.proofs.Listed.{insert_within, one_listed}
use Rattle.gcs_rewrite.proofs.lists.add.Goals as goal

pub returns : goal.returns
returns c =
    let rows : List BucketRow = c.args.listed.now.items in
    let place : ℕ = c.place_of-place.result in
    let at : with_listed c.args.row.now rows ≡ insert rows place c.args.row.now =
    subst (λ l. with_listed c.args.row.now l ≡ insert l place c.args.row.now) c.deref.ensures.value c.place_of-place.ensures.place in
    let last : suc (c.args.most - 1) ≡ c.args.most = omega arith in
    let added : c.insert.new.self.items ≡ take c.args.most (with_listed c.args.row.now rows) =
    c.in_ok-insert.ensures.items
    ∙ ap₂ (λ l copy. insert l place copy) c.truncate.ensures.items c.in_ok-row.ensures
    ∙ insert_within c.args.row.now rows place (c.args.most - 1) (omega arith) (omega (arith, c.place_of-place.ensures.within, c.deref.ensures.len))
    ∙ ap₂ (λ n l. take n l) last (sym at) in
    record {
      first = one_listed c.args.most c.args.row.now rows c.insert.new.self.items c.requires added;
      added = added;
    }
