-- For `ends_by` of binary_search.rt: its goals.
use Rattle.std.proofs.Common.{nat_le, rules, tests}
use Rattle.std.proofs.lemmas.List.Sorted.{IsPartitionPoint-from_clause, IsPartitionedBy-leb}
use Rattle.mm_types.specs.declared.area.Record.{Record}
use Rattle.plain_space.proofs.Fronting.{prefix_from_partition}
use Rattle.plain_space.proofs.binary_search.ends_by.Goals as goal

pub returns-clause-value : goal.returns-clause-value
returns-clause-value c = let areas = c.args.areas.now in
    prefix_from_partition (λ (area : Record). nat_le area.span.hi c.args.page) areas c.partition_point.result c.partition_point.ensures.bound
    (IsPartitionPoint-from_clause (λ (area : Record). nat_le area.span.hi c.args.page) areas c.partition_point.result
    c.partition_point.ensures.partitioned (IsPartitionedBy-leb (λ (area : Record). area.span.hi) areas c.args.page c.requires)
    (λ x r q k. search (rules, tests)))
