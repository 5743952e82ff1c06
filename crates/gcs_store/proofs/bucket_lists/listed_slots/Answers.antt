use Rattle.std.proofs.Common.{◌≡◌, ◌-◌, ◌∙◌, List, ℕ, ap, drop, length, rules, subst, sym, take}
use Rattle.std.specs.Prelude.{true, false}
use Rattle.std.specs.List.Sorted.{IsPartitionedBy, IsPartitionPoint}
use Rattle.std.proofs.lemmas.List.{take_rest}
use Rattle.std.proofs.lemmas.List.Sorted.{IsPartitionPoint-from_clause}
use Rattle.gcs_meaning.specs.Slot.{Slot}
use Rattle.gcs_meaning.specs.Texts.{begins}
use Rattle.gcs_store.specs.Shard.{is_passed}
use Rattle.gcs_store.proofs.Listed.{listed_part, passed_parted, rest_begun}
use Rattle.gcs_store.proofs.bucket_lists.listed_slots.Goals as goal

pub returns : goal.returns
returns c =
    let prefix = c.args.prefix.now in
    let after = c.args.after.now in
    let slots = c.args.slots.now in
    let i = c.partition_point-first.result in
    let rest = take_rest slots i in
    let first = IsPartitionPoint-from_clause (λ p. is_passed prefix after p.0) slots i c.partition_point-first.ensures.partitioned
    (passed_parted prefix after slots c.requires) (λ a r q k. search rules) in
    let second = IsPartitionPoint-from_clause (λ p. begins prefix p.0) (take (length slots - i) (drop i slots)) c.partition_point-count.result c.partition_point-count.ensures.partitioned
    (subst (IsPartitionedBy (λ (p : List ℕ × Slot). begins prefix p.0)) (sym rest) (rest_begun prefix after slots i c.requires first)) (λ a r q k. search rules) in
    let parted = subst (λ l. IsPartitionPoint (λ (p : List ℕ × Slot). begins prefix p.0 ≡ true) (λ p. begins prefix p.0 ≡ false) l c.partition_point-count.result) rest second in
    ap (take c.partition_point-count.result) rest ∙ sym (listed_part prefix after slots i c.partition_point-count.result c.partition_point-first.ensures.bound first parted)
