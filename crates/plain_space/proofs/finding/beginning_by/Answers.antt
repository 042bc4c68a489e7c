-- For `beginning_by` of finding.rt: its goals.
use Rattle.std.proofs.Common.{List, nat_le, rules, tests}
use Rattle.std.proofs.lemmas.List.Sorted.{IsPartitionPoint-from_clause, IsPartitionedBy-leb}
use Rattle.mm_types.specs.declared.area.Record.{Record}
use Rattle.plain_space.specs.Internal.Chunks.{chunk_low}
use Rattle.plain_space.proofs.Among.{lows_ordered}
use Rattle.plain_space.proofs.Fronting.{prefix_from_partition}
use Rattle.plain_space.proofs.finding.beginning_by.Goals as goal

pub returns-clause-value : goal.returns-clause-value
returns-clause-value c = let chunks = c.args.chunks.now in
    prefix_from_partition (λ (chunk : List Record). nat_le (chunk_low chunk) c.args.page) chunks c.partition_point.result c.partition_point.ensures.bound
    (IsPartitionPoint-from_clause (λ (chunk : List Record). nat_le (chunk_low chunk) c.args.page) chunks c.partition_point.result
    c.partition_point.ensures.partitioned (IsPartitionedBy-leb chunk_low chunks c.args.page (lows_ordered chunks c.requires))
    (λ x r q k. search (rules, tests)))
