use Rattle.std.proofs.Common.{rules}
use Rattle.std.specs.Prelude.{not}
use Rattle.std.proofs.lemmas.List.Sorted.{IsPartitionPoint-from_clause}
use Rattle.gcs_meaning.specs.Order.{is_below}
use Rattle.gcs_rewrite.proofs.Listed.{parted, placed}
use Rattle.gcs_rewrite.proofs.lists.place_of.Goals as goal

pub returns-clause-place : goal.returns-clause-place
returns-clause-place c =
    placed c.args.row.now c.args.listed.now c.partition_point.result c.partition_point.ensures.bound
    (IsPartitionPoint-from_clause (λ other. not (is_below c.args.row.now.name other.name)) _ _ c.partition_point.ensures.partitioned
    (parted c.args.row.now c.args.listed.now c.requires) (λ a r q k. search rules))
