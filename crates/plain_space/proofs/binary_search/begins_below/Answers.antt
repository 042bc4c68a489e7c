-- For `begins_below` of binary_search.rt: its goals.
use Rattle.std.proofs.Common.{nat_lt, rules, tests}
use Rattle.std.proofs.lemmas.List.Sorted.{IsPartitionPoint-from_clause, IsPartitionedBy-ltb}
use Rattle.mm_types.specs.declared.area.Record.{Record}
use Rattle.plain_space.proofs.Fronting.{prefix_from_partition}
use Rattle.plain_space.proofs.binary_search.begins_below.Goals as goal

pub returns-clause-value : goal.returns-clause-value
returns-clause-value c = let areas = c.args.areas.now in
    prefix_from_partition (λ (area : Record). nat_lt area.span.lo c.args.page) areas c.partition_point.result c.partition_point.ensures.bound
    (IsPartitionPoint-from_clause (λ (area : Record). nat_lt area.span.lo c.args.page) areas c.partition_point.result
    c.partition_point.ensures.partitioned (IsPartitionedBy-ltb (λ (area : Record). area.span.lo) areas c.args.page c.requires)
    (λ x r q k. search (rules, tests)))
