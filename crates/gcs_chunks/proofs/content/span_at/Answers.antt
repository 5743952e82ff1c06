use Rattle.std.proofs.Common.{leb, leb-true, leb-false, arith, rules}
use Rattle.std.proofs.lemmas.List.Sorted.{IsPartitionPoint-from_clause, IsPartitionedBy-leb}
use Rattle.gcs_chunks.specs.Content.{Placed}
use Rattle.gcs_chunks.proofs.Ends.{ends_rise}
use Rattle.gcs_chunks.proofs.content.span_at.Goals as goal

pub returns-clause-before : goal.returns-clause-before
returns-clause-before c =
    let parted = IsPartitionedBy-leb (λ (s : Placed). s.end) _ c.args.at (ends_rise c.args.spans.now 0 c.requires) in
    let point = IsPartitionPoint-from_clause (λ (s : Placed). leb s.end c.args.at) _ _ c.partition_point.ensures.partitioned parted (λ a r q k. search rules) in
    λ k d h. leb-true _ _ (point.0 k d (omega arith) h)

pub returns-clause-behind : goal.returns-clause-behind
returns-clause-behind c =
    let parted = IsPartitionedBy-leb (λ (s : Placed). s.end) _ c.args.at (ends_rise c.args.spans.now 0 c.requires) in
    let point = IsPartitionPoint-from_clause (λ (s : Placed). leb s.end c.args.at) _ _ c.partition_point.ensures.partitioned parted (λ a r q k. search rules) in
    λ d h. leb-false _ _ (point.1 c.partition_point.result d (omega arith) h)
