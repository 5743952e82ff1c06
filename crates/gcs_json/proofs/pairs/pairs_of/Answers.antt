use Rattle.std.proofs.Common.{◌≡◌, Some, string_bytes, sym, ap, ap₂, ◌∙◌}
use Rattle.serde_json.specs.View.{view, members_view}
use Rattle.gcs_json.specs.Pairs.{value_of, pair_before, pairs_of}
use Rattle.gcs_json.proofs.PairLemmas.{joined, joined_push}
use Rattle.gcs_json.proofs.pairs.pairs_of.Goals as goal

pub loop-key-preserved : goal.loop-key-preserved
loop-key-preserved c =
    let pairs = c.loop-key.pairs in
    let removes = c.args.removes in
    let rest = pairs_of removes (members_view c.next.new.self) in
    let key : c.in_ok-from_str.field-0 ≡ string_bytes c.in-Some.key.now = c.in_ok-from_str.ensures ∙ c.as_str.ensures.value in
    let value : Some c.in-Some-2.value ≡ value_of removes (view c.in-Some.member.now) = sym c.in-Some-2.is ∙ c.in_ok-value.ensures in
    ap (λ ps. joined ps rest) c.in_ok-push_pair.ensures
    ∙ joined_push pairs c.in_ok-from_str.field-0 c.in-Some-2.value rest
    ∙ ap₂ (λ k v. joined pairs (pair_before k v rest)) key value
    ∙ ap (λ es. joined pairs (pairs_of removes (members_view es))) (sym c.in-Some.ensures.steps)
    ∙ c.loop-key.invariant
